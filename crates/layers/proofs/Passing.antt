-- A take through a layer is a take from the list that the layer makes.
use Rattle.std.specs.Prelude.{◌≡◌, ℕ, ◌≤◌, Bool, true, false, ◌&&◌, ◌||◌, List, length, drop, if◌then◌else◌, nat_le, nat_lt, refl}
use Rattle.std.proofs.Common.{sym, ap, ◌∙◌, arith}
use Rattle.std.proofs.lemmas.List.{length-drop}
use Rattle.std.proofs.lemmas.Bool.{ltb-false}
use Rattle.std.proofs.Math.Bool.{or-false}
use Rattle.content.specs.declared.contents.Content.{Ghosts as Meaning}
use Rattle.content.specs.declared.strips.Strip.{Strip}
use Rattle.layers.specs.declared.held.Held.{Held}
use Rattle.layers.specs.Held.{held_left}
use Rattle.layers.specs.Places.{Change, by_place}
use Rattle.layers.specs.PlacesLemmas.{length-by_place}
use Rattle.layers.specs.Takes.{Taken, TakenThrough}
use Rattle.layers.proofs.Places.{drop-by_place}

module _ (k : ℕ) (begun : Bool) (xs : List Strip) where
  left_by_place : (f : Change) (r : Bool) → by_place f (begun || (r && nat_lt 0 k)) (if r then drop k xs else xs) ≡ (if r then drop k (by_place f begun xs) else by_place f begun xs)
  left_by_place f true = sym (drop-by_place f begun k xs)
  left_by_place f false = ap (λ b. by_place f b xs) (or-false begun)

  left_fewer : (r : Bool) → length (if r then drop k xs else xs) ≤ length xs
  left_fewer true = omega (arith, length-drop k xs)
  left_fewer false = omega arith

  left_idle : (r : Bool) → (r && nat_lt 0 k) ≡ false → (if r then drop k xs else xs) ≡ xs
  left_idle false e = refl
  left_idle true e = let none : k ≡ 0 = omega (arith, ltb-false 0 k e) in ap (λ n. drop n xs) none

pub taken_through : {C : Type 0} (m : Meaning C) (k : ℕ) (r : Bool) (old new : Held C) → Taken m k r old new → TakenThrough m k r old new
taken_through m k r old new t =
    let xs = m.strips old.content in
    record {
      strips = λ f. record {
        done = t.content.strips.done ∙ ap (nat_le k) (sym (length-by_place f old.begun xs));
        rest = ap (λ b. by_place f b (m.strips new.content)) t.begins ∙ ap (by_place f (old.begun || (r && nat_lt 0 k))) t.content.strips.rest ∙ left_by_place k old.begun xs f r;
      };
      idle = λ none. t.content.strips.rest ∙ left_idle k old.begun xs r none;
      fewer = omega (arith, ap length t.content.strips.rest, left_fewer k old.begun xs r);
    }

-- Nor does a change make the strips more or fewer.
pub held_count : {C : Type 0} (m : Meaning C) (f : Change) (h : Held C) → length (held_left m f h) ≡ length (m.strips h.content)
held_count m f h = length-by_place f h.begun (m.strips h.content)
