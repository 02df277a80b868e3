-- What a joint comes to on each page of a pair.
use Rattle.std.specs.Prelude.{◌≡◌, ℕ, ◌+◌, ◌<◌, ◌≤◌, max, Bool, List, [], length, Some, if◌then◌else◌}
use Rattle.std.specs.List.{slice_get}
use Rattle.content.specs.declared.ranks.Rank.TheVariants.{Free}
use Rattle.content.specs.declared.strips.Strip.{Strip}
use Rattle.choice.specs.Stops.{body, stop_height, stop_rank}
use Rattle.layers.specs.declared.joints.Joint.{Joint}
use Rattle.layers.specs.Pairs.{joined_rank, linked}

-- The parts have xs and ys left, and a strip of the second was taken (`begun`), or none was.
module _ (by : Joint) (xs : List Strip) (begun : Bool) (ys : List Strip) where
  abbrev both : List Strip
  both = linked (Some by) xs begun ys

  pub record JointAtStops : Type 0 where
    -- a page that ends inside the first part, or with it, is as high as the first part's alone
    pub first_height : (k : ℕ) → 1 ≤ k → k ≤ length xs → stop_height both k ≡ stop_height xs k
    pub first_rank : (k : ℕ) → k < length xs → stop_rank both k ≡ stop_rank xs k
    -- the word grades the end between the parts, unless a strip of the second was taken, and no other
    pub between_rank : (y : Strip) → slice_get ys 0 ≡ Some y → stop_rank both (length xs) ≡ (if begun then y.rank else joined_rank by.word y.rank)
    pub no_second_rank : ys ≡ [] → stop_rank both (length xs) ≡ Free
    pub second_rank : (j : ℕ) → 1 ≤ j → stop_rank both (length xs + j) ≡ stop_rank ys j
    -- on a page with strips of both parts, the gap or a larger lead stands between them (once a strip of the second was
    -- taken, the lead), the first has no tail and the second no head
    pub both_height : (y : Strip) (j : ℕ) → slice_get ys 0 ≡ Some y → 1 ≤ length xs → 1 ≤ j → j ≤ length ys →
        stop_height both (length xs + j) + y.head ≡ body xs (length xs) + (if begun then y.lead else max y.lead by.gap) + stop_height ys j
    -- on a page that begins with the second part there is no gap
    pub second_height : (j : ℕ) → xs ≡ [] → 1 ≤ j → j ≤ length ys → stop_height both j ≡ stop_height ys j

-- It holds of every joint, and of what is left at any time.
abbrev pub JointOnPages : Type 0
JointOnPages = (by : Joint) (xs : List Strip) (begun : Bool) (ys : List Strip) → JointAtStops by xs begun ys
