-- The bales of the strips that a loop from `from` has passed.
use Rattle.std.proofs.Common.{◌≡◌, ℕ, ◌+◌, ◌-◌, ◌*◌, ◌≤◌, List, take, drop, Some, arith}
use Rattle.std.specs.List.{slice_get, AllByRecursion}
use Rattle.std.proofs.lemmas.List.{length-take, length-drop, get_or-drop}
use Rattle.std.proofs.lemmas.Option.{slice_get_within, get_or_from_slice_get}
use Rattle.std.proofs.lemmas.List.Sums.{sum_by_more}
use Rattle.std.proofs.ByRecursion.{sum_by_le, All-weaker, All-take, All-drop}
use Rattle.content.specs.declared.strips.Strip.{Strip}
use Rattle.content.specs.Strips.{blank, bales_of}
use Rattle.content.specs.Laws.{Within, Lawful}

module _ (xs : List Strip) (from i : ℕ) where
  abbrev pub passed : ℕ → List Strip
  passed j = take (j - from) (drop from xs)

  pub bales_more : (s : Strip) → from ≤ i → slice_get xs i ≡ Some s → bales_of (passed (i + 1)) ≡ bales_of (passed i) + s.bales
  bales_more s h read = grind (arith, sum_by_more (λ s. s.bales) (drop from xs) (i - from) blank, length-drop from xs, get_or-drop from xs (i - from) blank, slice_get_within xs i s read, get_or_from_slice_get xs i s blank read)

  pub bales_bounded : (reach : ℕ) → Lawful xs reach → bales_of (passed i) ≤ 1000000 * 200000
  bales_bounded reach l =
      let near : AllByRecursion (λ s. s.bales ≤ 200000) (passed i) = All-weaker (Within reach) (λ s. s.bales ≤ 200000) (λ s w. omega arith) (passed i) (All-take (Within reach) (i - from) (drop from xs) (All-drop (Within reach) from xs l.each)) in
      omega (arith, sum_by_le (λ s. s.bales) 200000 (passed i) near, length-take (i - from) (drop from xs), length-drop from xs)
