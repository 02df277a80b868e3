-- What a keep comes to on each page.
use Rattle.std.specs.Prelude.{◌≡◌, ◌≢◌, ℕ, ◌<◌, ◌≤◌, Bool, false, List, length}
use Rattle.std.specs.List.{slice_get}
use Rattle.content.specs.declared.ranks.Rank.TheVariants.{Forced, Free, AgainstAvoid}
use Rattle.content.specs.declared.strips.Strip.{Strip}
use Rattle.choice.specs.Stops.{rank_before, stop_height, stop_rank}
use Rattle.layers.specs.Keeps.{kept}
use Rattle.layers.specs.Places.{by_place}

-- Stop k of what is left of a keep.
pub record KeepAtStop (begun : Bool) (xs : List Strip) (k : ℕ) : Type 0 where
  -- a keep takes no room
  pub height : stop_height (by_place kept begun xs) k ≡ stop_height xs k
  -- to end inside it is against an avoid, but for a forced break
  pub avoided : k < length xs → stop_rank xs k ≢ Forced → stop_rank (by_place kept begun xs) k ≡ AgainstAvoid
  pub forced : stop_rank xs k ≡ Forced → stop_rank (by_place kept begun xs) k ≡ Forced
  -- to end with it is not
  pub whole : k ≡ length xs → stop_rank (by_place kept begun xs) k ≡ Free

pub record KeepOnPages : Type 0 where
  -- every stop, of what is left at any time
  pub stops : (begun : Bool) (xs : List Strip) (k : ℕ) → 1 ≤ k → k ≤ length xs → KeepAtStop begun xs k
  -- the break before a keep is not inside it
  pub before : (xs : List Strip) → rank_before (slice_get (by_place kept false xs) 0) ≡ rank_before (slice_get xs 0)
