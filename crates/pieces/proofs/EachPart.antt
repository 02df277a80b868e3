-- Reading the strips of a piece.
use Rattle.std.proofs.Common.{◌≡◌, ℕ, List, length, if◌then◌else◌, Some, None, nat_lt, arith}
use Rattle.std.specs.List.{slice_get}
use Rattle.std.specs.Option.{option_map}
use Rattle.std.proofs.lemmas.Option.{gets}
use Rattle.std.proofs.lemmas.List.FromFn.{length-map-range_with_len, get_or-map-range_with_len}
use Rattle.std.proofs.lemmas.Bool.Decides.{nat_tests}
use Rattle.content.specs.declared.strips.Strip.{Strip}
use Rattle.content.specs.Strips.{blank}
use Rattle.pieces.specs.declared.rows.Row.{Row}
use Rattle.pieces.specs.Rows.{row_strip, row_strips, strip_of}
use Rattle.pieces.specs.Strips.{each_part}

module _ (f : ℕ → Strip) (n : ℕ) where
  pub length-each_part : length (each_part f n) ≡ n
  length-each_part = length-map-range_with_len f 0 n

  pub slice_get-each_part : (i : ℕ) → slice_get (each_part f n) i ≡ (if nat_lt i n then Some (f i) else None)
  slice_get-each_part i =
      let long = length-each_part in
      grind (arith, nat_tests, gets, get_or-map-range_with_len f 0 n i i blank)

pub ruleset parts = (length-each_part, slice_get-each_part)

pub slice_get-row_strips : (block : ℕ) (rows : List Row) (i : ℕ) → slice_get (row_strips block rows) i ≡ option_map (strip_of block i) (slice_get rows i)
slice_get-row_strips block rows i =
    let read = slice_get-each_part (row_strip block rows) (length rows) i in
    grind (arith, nat_tests, gets)

pub ruleset row_parts = (length-each_part, slice_get-row_strips)
