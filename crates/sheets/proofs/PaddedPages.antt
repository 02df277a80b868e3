-- The height of a page of a box, and the rank of its end.
use Rattle.std.proofs.Common.{◌≡◌, ℕ, zero, suc, ◌+◌, ◌-◌, ◌≤◌, Bool, true, false, cond, not, ◌&&◌, ◌||◌, eqb, List, [], ◌∷◌, length, get_or, take, sum_by, sym, refl, ap, ◌∙◌, add-one, arith}
use Rattle.std.specs.List.{slice_get}
use Rattle.std.proofs.lemmas.List.Sums.{sum_by-cons}
use Rattle.std.proofs.lemmas.Bool.{ne_eqb}
use Rattle.std.proofs.lemmas.Bool.Decides.{nat_tests}
use Rattle.content.specs.declared.strips.Strip.{Strip}
use Rattle.content.specs.Strips.{blank}
use Rattle.choice.specs.Stops.{rank_before, stop_height, stop_rank}
use Rattle.layers.specs.declared.padding.Padding.{Padding}
use Rattle.layers.specs.Boxes.{padded, repeats}
use Rattle.layers.specs.Places.{by_place, first_at, last_at}
use Rattle.layers.specs.PlacesLemmas.{get_or-by_place, slice_get-by_place}
use Rattle.sheets.proofs.PlacedStrips.{rank_before-option_map, sum_by-take-by_place}

-- Padding stands in the height of some strips, and where it is repeated in head or tail of all others.
shared : (repeated there : Bool) (n : ℕ) → cond there n 0 + cond (repeated && not there) n 0 ≡ cond (repeated || there) n 0
shared true true n = omega arith
shared true false n = omega arith
shared false true n = omega arith
shared false false n = omega arith

module _ (by : Padding) where
  abbrev box : Bool → List Strip → List Strip
  box begun xs = by_place (padded by) begun xs

  abbrev bottom_if : Bool → ℕ
  bottom_if b = cond b by.bottom 0

  -- The first strip is higher by the top, and the last by the bottom.
  heights : (k : ℕ) (begun : Bool) (x : Strip) (xs : List Strip) → k ≤ length xs → sum_by (λ s. s.height) (take (suc k) (box begun (x ∷ xs))) ≡ sum_by (λ s. s.height) (take (suc k) (x ∷ xs)) + cond (not begun) by.top 0 + bottom_if (eqb (suc k) (suc (length xs)))
  heights zero begun x xs h =
      let only : eqb (length xs) 0 ≡ eqb 1 (suc (length xs)) = grind (arith, nat_tests) in
      omega (arith, ap bottom_if only)
  heights (suc k) begun x [] h = absurd (omega arith)
  heights (suc k) begun x (y ∷ xs) h =
      let n = length xs in
      let first = padded by (not begun) (eqb (suc n) 0) x in
      let more : bottom_if (eqb (suc n) 0) ≡ 0 = ap bottom_if (ne_eqb (suc n) 0 (λ e. omega arith)) in
      let same : eqb (suc k) (suc n) ≡ eqb (suc (suc k)) (suc (suc n)) = grind (arith, nat_tests) in
      omega (arith, sum_by-cons (λ s. s.height) first (take (suc k) (box true (y ∷ xs))), sum_by-cons (λ s. s.height) x (take (suc k) (y ∷ xs)), heights k true y xs (omega arith), more, ap bottom_if same)

  -- The tail at stop k.
  tail_at : (k : ℕ) (begun : Bool) (x : Strip) (xs : List Strip) → k ≤ length xs → (get_or (box begun (x ∷ xs)) (suc k - 1) blank).tail ≡ (get_or (x ∷ xs) (suc k - 1) blank).tail + bottom_if (repeats by.at_breaks && not (eqb (suc k) (suc (length xs))))
  tail_at k begun x xs h =
      let back : suc k - 1 ≡ k = omega arith in
      let n = suc (length xs) in
      let repeated = repeats by.at_breaks in
      ap (λ i. (get_or (box begun (x ∷ xs)) i blank).tail) back
      ∙ ap (λ s. s.tail) (get_or-by_place (padded by) begun (x ∷ xs) k blank blank (omega arith))
      ∙ ap (λ i. (get_or (x ∷ xs) k blank).tail + bottom_if (repeated && not (eqb i n))) (add-one k)
      ∙ ap (λ i. (get_or (x ∷ xs) i blank).tail + bottom_if (repeated && not (eqb (suc k) n))) (sym back)

  pub padded_height : (begun : Bool) (xs : List Strip) (k : ℕ) → 1 ≤ k → k ≤ length xs → stop_height (box begun xs) k ≡ stop_height xs k + cond (repeats by.at_breaks || not begun) by.top 0 + bottom_if (repeats by.at_breaks || eqb k (length xs))
  padded_height begun xs zero some near = absurd (omega arith)
  padded_height begun [] (suc k) some near = absurd (omega arith)
  padded_height begun (x ∷ xs) (suc k) some near =
      let repeated = repeats by.at_breaks in
      let inside : k ≤ length xs = omega arith in
      omega (arith, heights k begun x xs inside, sum_by-take-by_place (padded by) (λ s. s.lead) k xs (λ last s. refl), tail_at k begun x xs inside, shared repeated (not begun) by.top, shared repeated (eqb (suc k) (suc (length xs))) by.bottom)

  pub padded_rank : (begun : Bool) (xs : List Strip) (k : ℕ) → stop_rank (box begun xs) k ≡ stop_rank xs k
  padded_rank begun xs k =
      let change = padded by (first_at begun k) (last_at (length xs) k) in
      ap rank_before (slice_get-by_place (padded by) begun xs k) ∙ rank_before-option_map change (λ s. refl) (slice_get xs k)
