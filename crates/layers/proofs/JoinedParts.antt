-- How many strips joined parts have.
use Rattle.std.specs.Prelude.{◌≡◌, ◌+◌, Bool, List, length, Some, None, Option, refl}
use Rattle.std.proofs.Common.{ap, ◌∙◌}
use Rattle.std.proofs.lemmas.List.{length-append}
use Rattle.content.specs.declared.strips.Strip.{Strip}
use Rattle.layers.specs.declared.joints.Joint.{Joint}
use Rattle.layers.specs.Places.{by_place}
use Rattle.layers.specs.Pairs.{joined, linked, linked_count}
use Rattle.layers.specs.PlacesLemmas.{length-by_place}

module _ (xs ys : List Strip) (begun : Bool) where
  pub linked_length : (j : Option Joint) → length (linked j xs begun ys) ≡ linked_count j (length xs) (length ys)
  linked_length None = refl
  linked_length (Some by) = length-append xs (by_place (joined by) begun ys) ∙ ap (λ n. length xs + n) (length-by_place (joined by) begun ys)
