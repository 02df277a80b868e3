-- What the padding of a box takes of each page.
use Rattle.std.specs.Prelude.{◌≡◌, ℕ, ◌+◌, ◌≤◌, Bool, if◌then◌else◌, not, ◌||◌, List, length, ◌==◌}
use Rattle.content.specs.declared.strips.Strip.{Strip}
use Rattle.choice.specs.Stops.{stop_height, stop_rank}
use Rattle.layers.specs.declared.padding.Padding.{Padding}
use Rattle.layers.specs.Boxes.{padded, repeats}
use Rattle.layers.specs.Places.{by_place}

-- A page measures the top more where the padding is repeated or the page has the first strip of the box,
-- and the bottom more where it is repeated or the page has the last. This holds of every stop, and of what is left at any time.
abbrev pub PaddingOnPages : Type 0
PaddingOnPages =
    (by : Padding) (begun : Bool) (xs : List Strip) (k : ℕ) → 1 ≤ k → k ≤ length xs
    → stop_height (by_place (padded by) begun xs) k ≡ stop_height xs k
    + (if repeats by.at_breaks || not begun then by.top else 0)
    + (if repeats by.at_breaks || k == length xs then by.bottom else 0)

-- Where a page had better end is as it is without the padding, for every stop, and of what is left at any time.
abbrev pub PaddingChangesNoRank : Type 0
PaddingChangesNoRank =
    (by : Padding) (begun : Bool) (xs : List Strip) (k : ℕ) → stop_rank (by_place (padded by) begun xs) k ≡ stop_rank xs k
