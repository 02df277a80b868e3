-- The choice is the best end of the page.
use Rattle.std.proofs.Common.{◌≡◌, ℕ, ◌≤◌, List, [], ◌∷◌, length, None, refl, arith}
use Rattle.std.specs.List.{slice_get}
use Rattle.content.specs.declared.ranks.Rank.TheVariants.{Free}
use Rattle.content.specs.declared.strips.Strip.{Strip}
use Rattle.choice.specs.Stops.{limit}
use Rattle.choice.specs.Choice.{choice}
use Rattle.choice.specs.Law.{EndsBest}
use Rattle.choice.proofs.Limits.{limit_is}
use Rattle.choice.proofs.Picks.{picked, picked_within, picked_best}

pub choice_ends_best : (page : ℕ) (xs : List Strip) → EndsBest page xs (choice page xs)
unfolding choice
choice_ends_best page [] = refl
choice_ends_best page (x ∷ xs) =
    let all = x ∷ xs in
    let is = limit_is x xs in
    let p = picked page all (limit all) in
    let within = picked_within page all is.some p in
    record {
      farthest = limit all;
      is_limit = is;
      some = within.0;
      near = within.1;
      rank = refl;
      height = refl;
      best = picked_best page all is.some p;
    }

pub choice_within : (page : ℕ) (xs : List Strip) → (choice page xs).0 ≤ length xs
unfolding choice
choice_within page [] = omega arith
choice_within page (x ∷ xs) =
    let law = choice_ends_best page (x ∷ xs) in
    omega (arith, law.near, law.is_limit.within)

pub choice_of_nothing : (page : ℕ) (xs : List Strip) → slice_get xs 0 ≡ None → (0, Free, 0) ≡ choice page xs
unfolding choice
choice_of_nothing page [] gone = refl
choice_of_nothing page (x ∷ xs) gone = cc
