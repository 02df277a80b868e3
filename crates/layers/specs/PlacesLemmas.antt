-- A list whose strips change by where they stand: its length, its strips, and what holds of each.
use Rattle.std.specs.Prelude.{◌≡◌, ℕ, zero, suc, ◌<◌, Bool, true, false, not, List, [], ◌∷◌, length, Some, option_map, ◌==◌, slice_index_or, refl}
use Rattle.std.proofs.Common.{ap, ◌∙◌, arith}
use Rattle.std.specs.List.{slice_get, AllByRecursion}
use Rattle.std.proofs.lemmas.Bool.Decides.{nat_tests}
use Rattle.std.proofs.lemmas.Option.{slice_get-get_or, get_or_from_slice_get}
use Rattle.content.specs.declared.strips.Strip.{Strip}
use Rattle.layers.specs.Places.{Change, by_place, first_at, last_at}

last_none : (n : ℕ) → (n == 0) ≡ last_at (suc n) 0
last_none n = grind (arith, nat_tests)

last_more : (n i : ℕ) → last_at n i ≡ last_at (suc n) (suc i)
last_more n i = grind (arith, nat_tests)

first_more : (begun : Bool) (i : ℕ) → first_at true i ≡ first_at begun (suc i)
first_more true i = refl
first_more false i = grind (arith, nat_tests)

module _ (f : Change) where
  pub length-by_place : (begun : Bool) (xs : List Strip) → length (by_place f begun xs) ≡ length xs
  length-by_place begun [] = refl
  length-by_place begun (x ∷ xs) = ap suc (length-by_place true xs)

  pub slice_get-by_place : (begun : Bool) (xs : List Strip) (i : ℕ) → slice_get (by_place f begun xs) i ≡ option_map (f (first_at begun i) (last_at (length xs) i)) (slice_get xs i)
  slice_get-by_place begun [] i = refl
  slice_get-by_place false (x ∷ xs) zero = ap (λ b. Some (f true b x)) (last_none (length xs))
  slice_get-by_place true (x ∷ xs) zero = ap (λ b. Some (f false b x)) (last_none (length xs))
  slice_get-by_place begun (x ∷ xs) (suc i) =
      let read = slice_get xs i in
      slice_get-by_place true xs i
      ∙ ap (λ b. option_map (f b (last_at (length xs) i)) read) (first_more begun i)
      ∙ ap (λ b. option_map (f (first_at begun (suc i)) b) read) (last_more (length xs) i)

  pub get_or-by_place : (begun : Bool) (xs : List Strip) (i : ℕ) (d e : Strip) → i < length xs → slice_index_or (by_place f begun xs) i e ≡ f (first_at begun i) (last_at (length xs) i) (slice_index_or xs i d)
  get_or-by_place begun xs i d e h =
      let read = ap (option_map (f (first_at begun i) (last_at (length xs) i))) (slice_get-get_or xs i d h) in
      get_or_from_slice_get (by_place f begun xs) i _ e (slice_get-by_place begun xs i ∙ read)

  pub All-by_place : (P Q : Strip → Type 0) → ((first last : Bool) (s : Strip) → P s → Q (f first last s)) → (begun : Bool) (xs : List Strip) → AllByRecursion P xs → AllByRecursion Q (by_place f begun xs)
  All-by_place P Q each begun [] all = tt
  All-by_place P Q each begun (x ∷ xs) all = (each (not begun) (length xs == 0) x all.0, All-by_place P Q each true xs all.1)
