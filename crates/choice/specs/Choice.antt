-- The choice of a page end.
use Rattle.std.specs.Prelude.{ℕ, Bool, if◌then◌else◌, ◌&&◌, ◌||◌, List, [], ◌∷◌, take, drop, filter, nat_le, nat_lt}
use Rattle.std.specs.List.{range_with_len, best_of}
use Rattle.content.specs.declared.ranks.Rank.{Rank}
use Rattle.content.specs.declared.ranks.Rank.TheVariants.{Free}
use Rattle.content.specs.declared.strips.Strip.{Strip}
use Rattle.content.specs.Ranks.{rank_number}
use Rattle.choice.specs.Stops.{stop_rank, stop_height, limit}

-- The strips from place `from` on and before place `end`.
abbrev pub between : ℕ → ℕ → List Strip → List Strip
between from end xs = drop from (take end xs)

abbrev pub fits : ℕ → List Strip → ℕ → Bool
fits page xs k = nat_le (stop_height xs k) page

abbrev pub fitting : ℕ → List Strip → ℕ → List ℕ
fitting page xs m = filter (fits page xs) (range_with_len 1 m)

-- Of stops in order, the lowest rank, and of those the farthest; where there is none, stop 1.
abbrev pub lowest_farthest : List Strip → List ℕ → ℕ
lowest_farthest xs [] = 1
lowest_farthest xs (k ∷ ks) = best_of (λ j b. nat_le (rank_number (stop_rank xs j)) (rank_number (stop_rank xs b))) k ks

-- Strips, rank and height of a stop.
abbrev pub Stop : Type 0
Stop = ℕ × Rank × ℕ

abbrev pub stop_at : List Strip → ℕ → Stop
stop_at xs k = (k, stop_rank xs k, stop_height xs k)

-- The page's end: of the fitting stops up to the limit the lowest rank, and of those the farthest.
unfoldable pub choice : ℕ → List Strip → Stop
choice page [] = (0, Free, 0)
choice page (x ∷ xs) = stop_at (x ∷ xs) (lowest_farthest (x ∷ xs) (fitting page (x ∷ xs) (limit (x ∷ xs))))

-- The better of two stops, of which the second lies farther: it has to fit, and the first not to, or to have no lower rank.
abbrev pub better : ℕ → Stop → Stop → Stop
better page nearer farther =
    if nat_le farther.2 page && (nat_lt page nearer.2 || nat_le (rank_number farther.1) (rank_number nearer.1)) then farther else nearer
