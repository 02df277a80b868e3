-- No layer changes which strips there are, since none changes a strip's label.
use Rattle.std.proofs.Common.{◌≡◌, Bool, true, not, eqb, List, [], ◌∷◌, ◌++◌, length, refl, ap, ◌∙◌}
use Rattle.std.proofs.lemmas.List.{map-append}
use Rattle.content.specs.declared.strips.Strip.{Strip}
use Rattle.layers.specs.Boxes.{padded}
use Rattle.layers.specs.Keeps.{kept}
use Rattle.layers.specs.Pairs.{joined}
use Rattle.layers.specs.Places.{Change, by_place}
use Rattle.layers.specs.SameStrips.{LayersLoseNoStrip, label_of, labels_of}

labels-by_place : (f : Change) → ((first last : Bool) (s : Strip) → label_of (f first last s) ≡ label_of s) → (begun : Bool) (xs : List Strip) → labels_of (by_place f begun xs) ≡ labels_of xs
labels-by_place f same begun [] = refl
labels-by_place f same begun (x ∷ xs) =
    ap (λ label. label ∷ labels_of (by_place f true xs)) (same (not begun) (eqb (length xs) 0) x)
    ∙ ap (λ labels. label_of x ∷ labels) (labels-by_place f same true xs)

pub layers_lose_no_strip : LayersLoseNoStrip
layers_lose_no_strip = record {
  box = λ by. labels-by_place (padded by) (λ first last s. refl);
  keep = labels-by_place kept (λ first last s. refl);
  pair = λ by xs begun ys. map-append label_of xs (by_place (joined by) begun ys) ∙ ap (λ labels. labels_of xs ++ labels) (labels-by_place (joined by) (λ first last s. refl) begun ys);
}
