-- A list whose strips change by where they stand: what a take leaves of it.
use Rattle.std.specs.Prelude.{◌≡◌, ℕ, zero, suc, Bool, true, false, ◌||◌, List, [], ◌∷◌, drop, nat_lt, refl}
use Rattle.std.proofs.Common.{sym, ap, ◌∙◌, arith}
use Rattle.std.proofs.lemmas.Bool.{lt-ltb}
use Rattle.content.proofs.Lawful.{Bounded-slice_get}
use Rattle.content.specs.declared.strips.Strip.{Strip}
use Rattle.layers.specs.Places.{Change, by_place}
use Rattle.layers.specs.PlacesLemmas.{slice_get-by_place}

module _ (f : Change) where
  pub drop-by_place : (begun : Bool) (k : ℕ) (xs : List Strip) → drop k (by_place f begun xs) ≡ by_place f (begun || nat_lt 0 k) (drop k xs)
  drop-by_place true zero xs = refl
  drop-by_place false zero xs = refl
  drop-by_place begun (suc k) [] = refl
  drop-by_place true (suc k) (x ∷ xs) = drop-by_place true k xs
  drop-by_place false (suc k) (x ∷ xs) = drop-by_place true k xs ∙ ap (λ b. by_place f b (drop k xs)) (sym (lt-ltb 0 (suc k) (omega arith)))

-- What is read of a layer.
pub ruleset reads = (slice_get-by_place, Bounded-slice_get)
