-- Where a page may end: stop k puts the first k of the strips left on the page, k from 1 to their number.
use Rattle.std.specs.Prelude.{◌≡◌, ℕ, suc, ◌+◌, ◌-◌, ◌<◌, ◌≤◌, Bool, true, false, not, ◌≢◌, ◌⊎◌, List, [], ◌∷◌, length, take, drop, Some, None, sum_by, Option, slice_index_or}
use Rattle.std.specs.List.{slice_get, prefix_len}
use Rattle.content.specs.declared.ranks.Rank.{Rank}
use Rattle.content.specs.declared.ranks.Rank.TheVariants.{Forced, Free, AgainstOrphansOrWidows, AgainstAvoid}
use Rattle.content.specs.declared.strips.Strip.{Strip}
use Rattle.content.specs.Strips.{blank}

-- The rank of the break before the strip that would begin the next page; free where none is left.
abbrev pub rank_before : Option Strip → Rank
rank_before None = Free
rank_before (Some s) = s.rank

abbrev pub stop_rank : List Strip → ℕ → Rank
stop_rank xs k = rank_before (slice_get xs k)

-- The height of the first k strips without the tail of the last: the first one's head, all heights, and the leads of all but the first.
abbrev pub body : List Strip → ℕ → ℕ
body xs k = (slice_index_or xs 0 blank).head + sum_by (λ s. s.height) (take k xs) + sum_by (λ s. s.lead) (drop 1 (take k xs))

-- The height of stop k: the k-th strip adds its tail.
abbrev pub stop_height : List Strip → ℕ → ℕ
stop_height xs k = body xs k + (slice_index_or xs (k - 1) blank).tail

-- The limit is the least stop of rank 0, or the last stop where there is none.
pub record IsLimit (xs : List Strip) (m : ℕ) : Type 0 where
  pub some : 1 ≤ m
  pub within : m ≤ length xs
  pub least : (k : ℕ) → 1 ≤ k → k < m → stop_rank xs k ≢ Forced
  pub ends : (stop_rank xs m ≡ Forced) ⊎ (m ≡ length xs)

abbrev pub is_forced : Rank → Bool
is_forced Forced = true
is_forced Free = false
is_forced AgainstOrphansOrWidows = false
is_forced AgainstAvoid = false

-- Its number: the first strip, and those after it up to the first that has to begin a page.
abbrev pub limit : List Strip → ℕ
limit [] = 0
limit (x ∷ xs) = suc (prefix_len (λ s. not (is_forced s.rank)) xs)
