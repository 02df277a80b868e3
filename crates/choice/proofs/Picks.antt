-- The best of the stops up to some stop, stop by stop.
use Rattle.std.proofs.Common.{◌≡◌, ℕ, zero, suc, ◌+◌, ◌<◌, ◌≤◌, Bool, true, false, if◌then◌else◌, ◌&&◌, ◌||◌, nat_lt, nat_le, ◌⊎◌, not, List, [], ◌∷◌, ◌++◌, refl, ap, ◌∙◌, add-zero, add-suc, add-one, arith}
use Rattle.std.specs.List.{range_with_len}
use Rattle.std.proofs.lemmas.List.{append-nil, map-id}
use Rattle.std.proofs.lemmas.List.FromFn.{filter_of_map_range_with_len_more}
use Rattle.std.proofs.lemmas.Bool.{cond_both}
use Rattle.std.proofs.lemmas.Bool.Decides.{nat_tests}
use Rattle.std.proofs.lemmas.List.Sums.{fold_push}
use Rattle.content.specs.declared.ranks.Rank.{Rank}
use Rattle.content.specs.declared.strips.Strip.{Strip}
use Rattle.content.specs.Ranks.{rank_number}
use Rattle.choice.specs.Stops.{stop_rank, stop_height}
use Rattle.choice.specs.Choice.{fits, fitting, lowest_farthest}
use Rattle.choice.specs.Law.{FitsUpTo, Worse, BestUpTo}

same_rank : (a b : Rank) → rank_number a ≡ rank_number b → a ≡ b
same_rank a b e = grind arith

abbrev pub none_there : List ℕ → Bool
none_there [] = true
none_there (k ∷ ks) = false

module _ (page : ℕ) (xs : List Strip) where
  abbrev rank_of : ℕ → ℕ
  rank_of k = rank_number (stop_rank xs k)

  -- The best of the stops up to m.
  abbrev pub pick : ℕ → ℕ
  pick m = lowest_farthest xs (fitting page xs m)

  fitting_more : (m : ℕ) → fitting page xs (suc m) ≡ fitting page xs m ++ (if fits page xs (suc m) then suc m ∷ [] else [])
  fitting_more m = grind (arith, filter_of_map_range_with_len_more (fits page xs) (λ k. k) 1 m (suc m), map-id (range_with_len 1 m), map-id (range_with_len 1 (m + 1)))

  -- The best of stops in order, and whether there is any, when stop j may follow them.
  turn : (b : Bool) (ks : List ℕ) (j : ℕ) → (lowest_farthest xs (ks ++ (if b then j ∷ [] else [])) ≡ (if b && (none_there ks || nat_le (rank_of j) (rank_of (lowest_farthest xs ks))) then j else lowest_farthest xs ks)) × (none_there (ks ++ (if b then j ∷ [] else [])) ≡ (not b && none_there ks))
  turn false ks j = rw append-nil (refl, refl)
  turn true [] j = (refl, refl)
  turn true (k ∷ ks) j = (fold_push (λ b i. if nat_le (rank_of i) (rank_of b) then i else b) k ks j, refl)

  -- What was picked of the stops up to m: none fits, or the best one that does.
  pub data Picked (m : ℕ) : Bool → ℕ → Type 0 where
    none : ((j : ℕ) → FitsUpTo m page xs j → ⊥) → Picked m true 1
    some : {k : ℕ} → FitsUpTo m page xs k → ((j : ℕ) → FitsUpTo m page xs j → (j ≡ k) ⊎ Worse xs k j) → Picked m false k

  -- Stop m + 1 is weighed: it is picked if it fits and none did, or its rank is no higher.
  step : (m k : ℕ) (b fit low : Bool) → fits page xs (suc m) ≡ fit → nat_le (rank_of (suc m)) (rank_of k) ≡ low → Picked m b k → Picked (suc m) (not fit && b) (if fit && (b || low) then suc m else k)
  step m k b false low is e (none never) = none (λ j g. grind (arith, nat_tests, never j))
  step m k b false low is e (some f worse) = some (grind arith) (λ j g. grind (arith, nat_tests, worse j))
  step m k b true low is e (none never) = some (grind (arith, nat_tests)) (λ j g. grind (arith, never j))
  step m k b true true is e (some f worse) = some (grind (arith, nat_tests)) (λ j g. grind (arith, nat_tests, worse j, same_rank (stop_rank xs k) (stop_rank xs (suc m))))
  step m k b true false is e (some f worse) = some (grind arith) (λ j g. grind (arith, nat_tests, worse j))

  pub picked : (m : ℕ) → Picked m (none_there (fitting page xs m)) (pick m)
  picked zero = none (λ j f. omega (arith, f.some, f.near))
  picked (suc m) =
      let both = turn (fits page xs (suc m)) (fitting page xs m) (suc m) in
      rw (fitting_more m, both.0, both.1) (step m (pick m) (none_there (fitting page xs m)) (fits page xs (suc m)) _ refl refl (picked m))

  -- The page is over exactly where none fits.
  over_is : {m k : ℕ} {b : Bool} → 1 ≤ m → Picked m b k → nat_lt page (stop_height xs k) ≡ b
  over_is h (none never) = grind (arith, nat_tests, never 1)
  over_is h (some f worse) = grind (arith, nat_tests)

  pub picked_within : {m k : ℕ} {b : Bool} → 1 ≤ m → Picked m b k → (1 ≤ k) × (k ≤ m)
  picked_within h (none never) = (omega arith, h)
  picked_within h (some f worse) = (f.some, f.near)

  pub picked_best : {m k : ℕ} {b : Bool} → 1 ≤ m → Picked m b k → BestUpTo m page xs k
  picked_best h (none never) = record { best = λ j f. absurd (never j f); over = λ _. (never, refl); none = λ _. grind (arith, never 1) }
  picked_best {m} {k} h (some f worse) = record { best = λ j g. (f, worse j g); over = λ high. absurd (omega (arith, f.low)); none = λ never. absurd (never k f) }

  -- One stop more: it is picked if it fits and nothing picked before does, or none of a lower rank.
  pub pick_more : (m : ℕ) → 1 ≤ m → pick (m + 1) ≡ (if nat_le (stop_height xs (m + 1)) page && (nat_lt page (stop_height xs (pick m)) || nat_le (rank_of (m + 1)) (rank_of (pick m))) then m + 1 else pick m)
  pick_more m h =
      rw (add-one, over_is h (picked m)) (ap (lowest_farthest xs) (fitting_more m) ∙ (turn (fits page xs (suc m)) (fitting page xs m) (suc m)).0)

  pub pick_one : pick 1 ≡ 1
  pick_one = cond_both (fits page xs 1) (1 ∷ []) [] (λ ks. lowest_farthest xs ks ≡ 1) (λ _. refl) (λ _. refl)

  -- Where no stop past m fits, the best up to m is the best.
  pub pick_rest : (m n : ℕ) → ((j : ℕ) → m < j → page < stop_height xs j) → pick (m + n) ≡ pick m
  pick_rest m zero high = rw add-zero refl
  pick_rest m (suc n) high =
      let both = turn (fits page xs (suc (m + n))) (fitting page xs (m + n)) (suc (m + n)) in
      grind (arith, nat_tests, add-suc m n, fitting_more (m + n), both.0, high (suc (m + n)), pick_rest m n high)
