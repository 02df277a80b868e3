-- What each piece is cut from keeps the laws of a content.
use Rattle.std.specs.Prelude.{◌≡◌, ℕ, ◌<◌, ◌≤◌, List, length, slice_index_or, vec_items, All, refl}
use Rattle.std.proofs.Common.{arith}
use Rattle.std.proofs.lemmas.List.Elements.{recursion_from_All}
use Rattle.std.proofs.lemmas.List.FromFn.{length-map-range_with_len, get_or-map-range_with_len}
use Rattle.content.specs.declared.ranks.Rank.{Rank}
use Rattle.content.specs.declared.ranks.Rank.TheVariants.{Free}
use Rattle.content.specs.declared.strips.Strip.{Strip}
use Rattle.content.specs.Strips.{blank}
use Rattle.content.specs.Laws.{Within, Lawful}
use Rattle.pieces.specs.declared.groups.Rows.{Rows}
use Rattle.pieces.specs.declared.paragraphs.Lines.{Lines}
use Rattle.pieces.specs.declared.pictures.Image.{Image}
use Rattle.pieces.specs.Groups.{rows_strips}
use Rattle.pieces.specs.Paragraphs.{line_rank, lines_strips}
use Rattle.pieces.specs.Pictures.{image_strips}
use Rattle.pieces.specs.Rows.{no_row}
use Rattle.pieces.specs.Strips.{bare, each_part}

-- A strip with no tail, of which no number passes the reach.
abbrev Untailed : Strip → Type 0
Untailed s = Within 65535 s × (s.tail ≡ 0)

Lawful-untailed : (xs : List Strip) → length xs ≤ 4096 → All Untailed xs → Lawful xs 65535
Lawful-untailed xs short all = record {
  few = omega arith;
  bounded = omega arith;
  each = recursion_from_All (Within 65535) xs (λ k d h. (all k d h).0);
  tails = λ k h. omega (arith, (all k blank (omega arith)).1);
  last = λ k h. (all k blank (omega arith)).1;
}

-- Parts of one block, n of them.
module _ (block : ℕ) (tall tags : ℕ → ℕ) (grade : ℕ → Rank) (n : ℕ) where
  abbrev part : ℕ → Strip
  part i = bare block i (tall i) (tags i) (grade i)

  Lawful-each_part :
      n ≤ 4096
      → ((i : ℕ) → i < n → (1 ≤ tall i) × (tall i ≤ 65535) × (tags i ≤ 65535))
      → Lawful (each_part part n) 65535
  Lawful-each_part short fair =
      let long = length-map-range_with_len part 0 n in
      let untailed : (i : ℕ) → i < n → Untailed (part i) = λ i h. let by = fair i h in (
        record {
          some_height = by.0;
          height_within = by.1;
          lead_within = omega arith;
          head_within = omega arith;
          tail_within = omega arith;
          bales_within = by.2;
        },
        refl,
      ) in
      Lawful-untailed (each_part part n) (omega arith) (
      λ k d h. let inside : k < n = omega arith in
      rw (get_or-map-range_with_len part 0 n k k d inside (omega arith)) (untailed k inside))

pub Lawful-lines_strips : (p : Lines) → Lawful (lines_strips p) 65535
Lawful-lines_strips p =
    let rank = line_rank p.count p.orphans p.widows in
    Lawful-each_part p.node (λ _. p.height) (λ _. 0) rank p.count p.few (λ i h. (p.tall, p.low, omega arith))

pub Lawful-image_strips : (p : Image) → Lawful (image_strips p) 65535
Lawful-image_strips p =
    Lawful-each_part p.node (λ _. p.height) (λ _. 0) (λ _. Free) 1 (omega arith) (λ i h. (p.tall, p.low, omega arith))

pub Lawful-rows_strips : (p : Rows) → Lawful (rows_strips p) 65535
Lawful-rows_strips p =
    let rows = vec_items p.rows in
    let row = λ (i : ℕ). slice_index_or rows i no_row in
    Lawful-each_part p.node (λ i. (row i).height) (λ i. (row i).bales) (λ _. Free) (length rows) (omega arith) (
    λ i h. let fair = p.fair i no_row h in (fair.0, fair.1, omega arith))
