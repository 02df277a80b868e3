-- No padding changes nothing.
use Rattle.std.specs.Prelude.{◌≡◌, ℕ, Bool, true, false, not, List, [], ◌∷◌, length, if◌then◌else◌, ◌==◌, refl}
use Rattle.std.proofs.Common.{ap, ◌∙◌, add-zero}
use Rattle.content.specs.declared.contents.Content.{Ghosts as Meaning}
use Rattle.content.specs.declared.strips.Strip.{Strip}
use Rattle.layers.specs.Places.{by_place}
use Rattle.layers.specs.Boxes.{PaddingBox, padded, bare_padding, box_left, padding_fits, padding_of, padding_over}
use Rattle.layers.specs.Layers.{content_of, is_begun}

bare_strip : (first last : Bool) (s : Strip) → padded bare_padding first last s ≡ s
bare_strip true true s = simp add-zero
bare_strip true false s = simp add-zero
bare_strip false true s = simp add-zero
bare_strip false false s = simp add-zero

bare_list : (begun : Bool) (xs : List Strip) → by_place (padded bare_padding) begun xs ≡ xs
bare_list begun [] = refl
bare_list begun (x ∷ xs) = ap (λ s. s ∷ by_place (padded bare_padding) true xs) (bare_strip (not begun) (length xs == 0) x) ∙ ap (λ ys. x ∷ ys) (bare_list true xs)

-- A box without padding is its content.
pub bare_changes_nothing : (reach : ℕ) (begun : Bool) (xs : List Strip) → by_place (padded (padding_over reach bare_padding)) begun xs ≡ xs
bare_changes_nothing reach begun xs = either (padding_fits reach bare_padding) where
  either : (b : Bool) → by_place (padded (if b then bare_padding else bare_padding)) begun xs ≡ xs
  either true = bare_list begun xs
  either false = bare_list begun xs

pub bare_box : {C : Type 0} (m : Meaning C) (b : PaddingBox C) → padding_of b ≡ bare_padding → box_left m b ≡ m.strips (content_of b)
bare_box m b bare =
    let xs = m.strips (content_of b) in
    let low = m.reach (content_of b) in
    ap (λ by. by_place (padded (padding_over low by)) (is_begun b) xs) bare ∙ bare_changes_nothing low (is_begun b) xs
