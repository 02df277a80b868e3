-- Layers change how strips are paged, and not which strips there are.
use Rattle.std.specs.Prelude.{◌≡◌, ℕ, Bool, List, ◌++◌, map, Some}
use Rattle.content.specs.declared.strips.Strip.{Strip}
use Rattle.layers.specs.declared.joints.Joint.{Joint}
use Rattle.layers.specs.declared.padding.Padding.{Padding}
use Rattle.layers.specs.Boxes.{padded}
use Rattle.layers.specs.Keeps.{kept}
use Rattle.layers.specs.Pairs.{linked}
use Rattle.layers.specs.Places.{by_place}

-- Which strip it is, and what it counts: its block, its place there, and its bales.
abbrev pub label_of : Strip → ℕ × ℕ × ℕ
label_of s = (s.node, s.part, s.bales)

abbrev pub labels_of : List Strip → List (ℕ × ℕ × ℕ)
labels_of xs = map label_of xs

-- Each strip of a content, or of both parts of a joined pair, is there once, in its order, with its bales. It holds of what
-- is left at any time.
pub record LayersLoseNoStrip : Type 0 where
  pub box : (by : Padding) (begun : Bool) (xs : List Strip) → labels_of (by_place (padded by) begun xs) ≡ labels_of xs
  pub keep : (begun : Bool) (xs : List Strip) → labels_of (by_place kept begun xs) ≡ labels_of xs
  pub pair : (by : Joint) (xs : List Strip) (begun : Bool) (ys : List Strip) → labels_of (linked (Some by) xs begun ys) ≡ labels_of xs ++ labels_of ys
