-- Weighing the stops in turn: what holds when the first k are weighed.
use Rattle.std.proofs.Common.{◌≡◌, ℕ, ◌+◌, ◌-◌, ◌<◌, ◌≤◌, Bool, true, false, if◌then◌else◌, ◌⊎◌, List, [], ◌∷◌, Some, None, Option, refl, ◌∙◌, inl, inr, arith}
use Rattle.std.specs.List.{slice_get}
use Rattle.std.proofs.lemmas.Option.{slice_get_within, slice_get-get_or}
use Rattle.std.proofs.lemmas.Bool.Decides.{nat_tests}
use Rattle.content.specs.declared.ranks.Rank.TheVariants.{Forced}
use Rattle.content.specs.declared.strips.Strip.{Strip}
use Rattle.content.specs.Strips.{blank}
use Rattle.content.specs.Bounds.{Bounded}
use Rattle.choice.specs.Stops.{rank_before, body, IsLimit, limit}
use Rattle.choice.specs.Choice.{Stop, stop_at, choice, better}
use Rattle.choice.proofs.Limits.{limit_is}
use Rattle.choice.proofs.Heights.{body_more, body_grows, height_at}
use Rattle.choice.proofs.Picks.{pick, pick_more, pick_rest}

pub choice_is : (page : ℕ) (xs : List Strip) → 1 ≤ limit xs → choice page xs ≡ stop_at xs (pick page xs (limit xs))
unfolding choice
choice_is page [] h = absurd (omega arith)
choice_is page (x ∷ xs) h = refl

has_limit : (xs : List Strip) → 1 ≤ limit xs → IsLimit xs (limit xs)
has_limit [] h = absurd (omega arith)
has_limit (x ∷ xs) h = limit_is x xs

carried : {A B : Type 0} (f : A → B) (b : Bool) (x y : A) → (if b then f x else f y) ≡ f (if b then x else y)
carried f true x y = refl
carried f false x y = refl

-- The first k strips are weighed: their height without the tail, the strip after them, and the best stop so far.
pub record Weighed (page : ℕ) (xs : List Strip) (k tall : ℕ) (next : Option Strip) (best : Stop) : Type 0 where
  pub some : 1 ≤ k
  pub within : k ≤ limit xs
  pub is_body : tall ≡ body xs k
  pub bound : tall ≤ 5000000000
  pub is_next : next ≡ slice_get xs k
  pub bounded : Bounded next
  pub is_best : best ≡ stop_at xs (pick page xs k)
  pub narrow : best.2 ≤ 4294967295

module _ {page : ℕ} {xs : List Strip} {k tall : ℕ} {old : Option Strip} {best : Stop} (w : Weighed page xs k tall old best) where
  limit_here : IsLimit xs (limit xs)
  limit_here = has_limit xs (omega (arith, w.some, w.within))

  -- At the limit the best of the stops weighed is the choice.
  ends_at : pick page xs k ≡ pick page xs (limit xs) → best ≡ choice page xs
  ends_at same = grind (arith, w.is_best, choice_is page xs limit_here.some)

  pub weighing_runs_out : old ≡ None → best ≡ choice page xs
  weighing_runs_out gone = grind (arith, ends_at, limit_here.within, slice_get-get_or xs k blank)

  -- One turn: strip s follows.
  module _ {s : Strip} (follows : old ≡ Some s) {more : ℕ} (adds : more ≡ s.lead + s.height) where
    read : slice_get xs k ≡ Some s
    read = cc

    next_body : tall + more ≡ body xs (k + 1)
    next_body = omega (arith, w.is_body, body_more xs k s w.some read)

    -- The page may hold the strip.
    pub weighing_goes_on : {next : Option Strip} {farther new : Stop} → ((s.rank ≡ Forced) ⊎ (page < tall + more) → ⊥) → page < 4294967296 → next ≡ slice_get xs (k + 1) → Bounded next → farther ≡ (k + 1, rank_before next, tall + more + s.tail) → new ≡ better page best farther → Weighed page xs (k + 1) (tall + more) next new
    weighing_goes_on {next} {farther} {new} stays narrow is_next bounded is_farther is_new =
        let low : tall + more ≤ page = grind (arith, stays) in
        record {
          some = omega arith;
          within = grind (arith, stays, read, limit_here.ends, slice_get_within xs k s read);
          is_body = next_body;
          bound = omega arith;
          is_next = is_next;
          bounded = bounded;
          is_best =
              let far : farther ≡ stop_at xs (k + 1) = grind (arith, next_body, height_at xs k s read) in
              is_new ∙ rw (w.is_best, far, pick_more page xs k w.some) (carried (stop_at xs) _ (k + 1) (pick page xs k));
          narrow = grind (arith, nat_tests);
        }

    pub weighing_ends : (s.rank ≡ Forced) ⊎ (page < tall + more) → best ≡ choice page xs
    weighing_ends (inl forced) = grind (arith, ends_at, read, limit_here.least k)
    weighing_ends (inr high) =
        let rest = pick_rest page xs k (limit xs - k) (λ j h. omega (arith, next_body, body_grows xs (k + 1) j (omega arith) (omega arith))) in
        grind (arith, ends_at, rest, w.within)
