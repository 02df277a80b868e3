-- The height of the first k strips, strip by strip.
use Rattle.std.proofs.Common.{◌≡◌, ℕ, ◌+◌, ◌-◌, ◌≤◌, List, [], ◌∷◌, take, drop, Some, arith}
use Rattle.std.specs.List.{slice_get}
use Rattle.std.proofs.lemmas.List.{take-take, drop-take, take_more, length-take, drop-append-le}
use Rattle.std.proofs.lemmas.List.Sums.{sum_by_push, sum_by-take-le}
use Rattle.std.proofs.lemmas.Option.{slice_get_within, get_or_from_slice_get}
use Rattle.content.specs.declared.strips.Strip.{Strip}
use Rattle.content.specs.Strips.{blank}
use Rattle.choice.specs.Stops.{body, stop_height}

module _ (xs : List Strip) where
  pub body_grows : (j k : ℕ) → 1 ≤ j → j ≤ k → body xs j ≤ body xs k
  body_grows j k some h = grind (arith, take-take j k xs, drop-take 1 (j - 1) (take k xs), sum_by-take-le (λ s. s.height) (take k xs) j, sum_by-take-le (λ s. s.lead) (drop 1 (take k xs)) (j - 1))

  pub body_more : (k : ℕ) (s : Strip) → 1 ≤ k → slice_get xs k ≡ Some s → body xs (k + 1) ≡ body xs k + (s.lead + s.height)
  body_more k s some read = grind (arith, slice_get_within xs k s read, get_or_from_slice_get xs k s blank read, take_more xs k blank, length-take k xs, drop-append-le 1 (take k xs) (s ∷ []), sum_by_push (λ s. s.height) (take k xs) s, sum_by_push (λ s. s.lead) (drop 1 (take k xs)) s)

  pub height_at : (k : ℕ) (s : Strip) → slice_get xs k ≡ Some s → stop_height xs (k + 1) ≡ body xs (k + 1) + s.tail
  height_at k s read = grind (arith, get_or_from_slice_get xs k s blank read)
