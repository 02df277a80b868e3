-- What every content shows of its strips and its reach.
use Rattle.std.specs.Prelude.{◌≡◌, ℕ, ◌+◌, ◌<◌, ◌≤◌, List, length, slice_index_or}
use Rattle.std.specs.List.{AllByRecursion}
use Rattle.content.specs.declared.strips.Strip.{Strip}
use Rattle.content.specs.Strips.{blank}

-- A strip has some height, and no number of it passes the reach.
pub record Within (reach : ℕ) (s : Strip) : Type 0 where
  pub some_height : 1 ≤ s.height
  pub height_within : s.height ≤ reach
  pub lead_within : s.lead ≤ reach
  pub head_within : s.head ≤ reach
  pub tail_within : s.tail ≤ reach
  pub bales_within : s.bales ≤ reach

-- A strip's tail is at most what the next strip would add: its lead, height and tail.
abbrev pub TailsGiveWay : List Strip → Type 0
TailsGiveWay xs = (k : ℕ) → k + 1 < length xs → (slice_index_or xs k blank).tail ≤ (slice_index_or xs (k + 1) blank).lead + (slice_index_or xs (k + 1) blank).height + (slice_index_or xs (k + 1) blank).tail

-- The last strip has no tail.
abbrev pub LastHasNoTail : List Strip → Type 0
LastHasNoTail xs = (k : ℕ) → k + 1 ≡ length xs → (slice_index_or xs k blank).tail ≡ 0

-- A rank is at most 3 by its type.
pub record Lawful (xs : List Strip) (reach : ℕ) : Type 0 where
  pub few : length xs ≤ 1000000
  pub bounded : reach ≤ 200000
  pub each : AllByRecursion (Within reach) xs
  pub tails : TailsGiveWay xs
  pub last : LastHasNoTail xs
