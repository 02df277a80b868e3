-- Where a place of two lists lies, one after the other.
use Rattle.std.specs.Prelude.{◌≡◌, ℕ, ◌+◌, ◌-◌, ◌<◌, List, ◌++◌, length, drop}
use Rattle.std.specs.List.{slice_get}
use Rattle.content.specs.declared.strips.Strip.{Strip}

-- Place i lies in the first list xs, whatever the second.
pub record Inside (xs : List Strip) (i : ℕ) : Type 0 where
  pub here : i < length xs
  pub read : (ys : List Strip) → slice_get (xs ++ ys) i ≡ slice_get xs i
  pub rest : (ys : List Strip) → drop i (xs ++ ys) ≡ drop i xs ++ ys

-- Place i is place j of the second.
pub record Beyond (xs : List Strip) (i j : ℕ) : Type 0 where
  pub here : length xs + j ≡ i
  pub read : (ys : List Strip) → slice_get (xs ++ ys) i ≡ slice_get ys j
  pub rest : (ys : List Strip) → drop i (xs ++ ys) ≡ drop (i - j) xs ++ drop j ys
