-- Parts that are joined keep the laws.
use Rattle.std.specs.Prelude.{◌≡◌, ℕ, ◌+◌, ◌≤◌, max, Bool, true, false, List, ◌++◌, length, Some, None, Option, if◌then◌else◌, refl}
use Rattle.std.proofs.Common.{arith}
use Rattle.std.proofs.lemmas.Bool.Decides.{nat_tests}
use Rattle.content.specs.declared.contents.Content.{Ghosts as Meaning}
use Rattle.content.specs.declared.strips.Strip.{Strip}
use Rattle.content.specs.Laws.{Within, Lawful}
use Rattle.content.proofs.Lawful.{Lawful-append, Lawful_wider}
use Rattle.layers.specs.declared.joints.Joint.{Joint}
use Rattle.layers.specs.declared.pairs.Pair.{Pair}
use Rattle.layers.specs.Places.{by_place}
use Rattle.layers.specs.Pairs.{first_of, joined, joint_fits, joint_of, joint_over, linked, linked_reach, pair_left, pair_reach, second_of}
use Rattle.layers.specs.LawfulChange.{LawfulChange, Lawful-by_place}
use Rattle.layers.specs.PlacesLemmas.{length-by_place}

joined_within : (by : Joint) (low high : ℕ) → low ≤ high → by.gap ≤ high → (first last : Bool) (s : Strip) → Within low s → Within high (joined by first last s)
joined_within by low high h gap first last s w = record {
  some_height = w.some_height;
  height_within = omega arith;
  lead_within = either first;
  head_within = omega arith;
  tail_within = omega arith;
  bales_within = omega arith;
} where
  either : (first : Bool) → (if first then max s.lead by.gap else s.lead) ≤ high
  either true = omega arith
  either false = omega arith

joined_lawful : (by : Joint) (low high : ℕ) → low ≤ high → by.gap ≤ high → LawfulChange (joined by) low high
joined_lawful by low high h gap = record { within = joined_within by low high h gap; gives_way = λ first last s t g. g; no_tail = λ first s g. g }

module _ (xs ys : List Strip) (begun : Bool) (m n : ℕ) (first : Lawful xs m) (second : Lawful ys n) where
  abbrev high : ℕ
  high = max 4095 (max m n)

  both_lawful : (by : Joint) → joint_fits (length xs) (length ys) by ≡ true → Lawful (xs ++ by_place (joined by) begun ys) high
  both_lawful by fits =
      let gap : by.gap ≤ 4095 = grind (arith, nat_tests) in
      let few : length xs + length ys ≤ 1000000 = grind (arith, nat_tests) in
      let bounded : high ≤ 200000 = omega (arith, first.bounded, second.bounded) in
      let led = joined_lawful by n high (omega arith) (omega arith) in
      Lawful-append xs (by_place (joined by) begun ys) high (omega (arith, few, length-by_place (joined by) begun ys)) (Lawful_wider m high xs (omega arith) bounded first) (Lawful-by_place (joined by) n high led begun ys bounded second)

  pub linked_lawful : (j : Option Joint) → Lawful (linked (joint_over (length xs) (length ys) j) xs begun ys) (linked_reach (joint_over (length xs) (length ys) j) m n)
  linked_lawful None = first
  linked_lawful (Some by) = either (joint_fits (length xs) (length ys) by) refl where
    either : (b : Bool) → joint_fits (length xs) (length ys) by ≡ b → Lawful (linked (if b then Some by else None) xs begun ys) (linked_reach (if b then Some by else None) m n)
    either true fits = both_lawful by fits
    either false over = first

-- A pair of lawful contents is lawful.
pub Lawful-pair_left : {A B : Type 0} (a : Meaning A) (b : Meaning B) → ((x : A) → Lawful (a.strips x) (a.reach x)) → ((y : B) → Lawful (b.strips y) (b.reach y)) → (p : Pair A B) → Lawful (pair_left a b p) (pair_reach a b p)
Lawful-pair_left a b first second p =
    let x = first_of p in
    let y = second_of p in
    linked_lawful (a.strips x) (b.strips y) p.second.begun (a.reach x) (b.reach y) (first x) (second y) (joint_of p)
