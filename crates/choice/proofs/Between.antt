-- The strips between two places of a content.
use Rattle.std.proofs.Common.{ℕ, ◌-◌, ◌≤◌, List, length, take, arith}
use Rattle.std.proofs.lemmas.List.{length-take, length-drop}
use Rattle.content.specs.declared.strips.Strip.{Strip}
use Rattle.choice.specs.Choice.{between}

module _ (from end : ℕ) (ys : List Strip) where
  pub between_few : length (between from end ys) ≤ end - from
  between_few = omega (arith, length-drop from (take end ys), length-take end ys)
