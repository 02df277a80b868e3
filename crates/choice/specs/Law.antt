-- What the choice of a page end means.
use Rattle.std.specs.Prelude.{◌≡◌, ℕ, ◌<◌, ◌≤◌, ◌⊎◌, List, [], ◌∷◌, ◌++◌, length, take}
use Rattle.content.specs.declared.ranks.Rank.TheVariants.{Free}
use Rattle.content.specs.declared.strips.Strip.{Strip}
use Rattle.content.specs.Ranks.{rank_number}
use Rattle.choice.specs.Stops.{stop_rank, body, stop_height, IsLimit}
use Rattle.choice.specs.Choice.{Stop, choice}

-- A stop up to the limit m whose height is at most the page's.
pub record FitsUpTo (m page : ℕ) (xs : List Strip) (k : ℕ) : Type 0 where
  pub some : 1 ≤ k
  pub near : k ≤ m
  pub low : stop_height xs k ≤ page

-- Stop j has a higher rank than stop k, or the same rank and fewer strips.
abbrev pub Worse : List Strip → ℕ → ℕ → Type 0
Worse xs k j = (rank_number (stop_rank xs k) < rank_number (stop_rank xs j)) ⊎ ((stop_rank xs j ≡ stop_rank xs k) × (j < k))

-- Of the stops up to m, the page ends at the best.
pub record BestUpTo (m page : ℕ) (xs : List Strip) (k : ℕ) : Type 0 where
  -- a page that has a fitting stop ends at one, and every other such stop is worse
  pub best : (j : ℕ) → FitsUpTo m page xs j → FitsUpTo m page xs k × ((j ≡ k) ⊎ Worse xs k j)
  -- it is over exactly when there is none, and then takes stop 1
  pub over : page < stop_height xs k → ((j : ℕ) → FitsUpTo m page xs j → ⊥) × (k ≡ 1)
  pub none : ((j : ℕ) → FitsUpTo m page xs j → ⊥) → page < stop_height xs k

-- The end of a page that has something to hold.
pub record BestEnd (page : ℕ) (xs : List Strip) (c : Stop) : Type 0 where
  pub farthest : ℕ
  pub is_limit : IsLimit xs farthest
  pub some : 1 ≤ c.0
  pub near : c.0 ≤ farthest
  pub rank : c.1 ≡ stop_rank xs c.0
  pub height : c.2 ≡ stop_height xs c.0
  pub best : BestUpTo farthest page xs c.0

-- With nothing left it is no strips, free, and no height.
abbrev pub EndsBest : ℕ → List Strip → Stop → Type 0
EndsBest page [] c = c ≡ (0, Free, 0)
EndsBest page (x ∷ xs) c = BestEnd page (x ∷ xs) c

-- Where the first n strips pass the page, tails aside, what follows them changes nothing, so nobody need look at it.
-- (n is at least 2, since the rank of stop 1 is that of the second strip.)
abbrev pub PastPageChangesNothing : ℕ → List Strip → Stop → Type 0
PastPageChangesNothing page xs c = (n : ℕ) (others : List Strip) → 2 ≤ n → n ≤ length xs → page < body xs n → c ≡ choice page (take n xs ++ others)
