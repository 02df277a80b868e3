-- Lines that are all alike keep the laws of a content.
use Rattle.std.specs.Prelude.{◌≡◌, ℕ, ◌<◌, ◌≤◌, slice_index_or}
use Rattle.std.proofs.Common.{ap, arith}
use Rattle.std.proofs.lemmas.List.{length-replicate, get_or-replicate}
use Rattle.std.proofs.ByRecursion.{All-from_get_or}
use Rattle.content.specs.Strips.{blank}
use Rattle.content.specs.Laws.{Within, Lawful}
use Rattle.paging_tests.specs.EvenLists.{even_line, even_lines}

line_within : (reach : ℕ) → 100 ≤ reach → Within reach even_line
line_within reach h = record { some_height = omega arith; height_within = h; lead_within = omega arith; head_within = omega arith; tail_within = omega arith; bales_within = omega arith }

module _ (n : ℕ) where
  reads : (k : ℕ) → k < n → slice_index_or (even_lines n) k blank ≡ even_line
  reads k h = get_or-replicate n k even_line blank h

  pub even_lawful : (reach : ℕ) → n ≤ 1000000 → 100 ≤ reach → reach ≤ 200000 → Lawful (even_lines n) reach
  even_lawful reach few high bounded =
      let long = length-replicate n even_line in
      record {
        few = omega arith;
        bounded = bounded;
        each = All-from_get_or (Within reach) (even_lines n) blank (λ k h. rw (reads k (omega arith)) (line_within reach high));
        tails = λ k h. omega (arith, ap (λ s. s.tail) (reads k (omega arith)));
        last = λ k h. ap (λ s. s.tail) (reads k (omega arith));
      }
