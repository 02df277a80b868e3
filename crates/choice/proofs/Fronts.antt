-- The choice by the front of a list that passes the page.
use Rattle.std.proofs.Common.{◌≡◌, ℕ, zero, suc, ◌+◌, ◌-◌, ◌<◌, ◌≤◌, min, List, [], ◌∷◌, ◌++◌, take, drop, add-one, arith}
use Rattle.std.proofs.lemmas.List.{take-take, take_at, length-take-le, length-take, length-drop, take-append-drop, length-append, get_or-take}
use Rattle.std.proofs.lemmas.List.Folds.{prefix_len-append}
use Rattle.std.proofs.lemmas.List.Sums.{prefix_len-le-length}
use Rattle.std.proofs.lemmas.Bool.Decides.{nat_tests}
use Rattle.std.proofs.lemmas.Option.{slice_get-get_or, slice_get_past}
use Rattle.content.specs.declared.strips.Strip.{Strip}
use Rattle.content.specs.Strips.{blank}
use Rattle.choice.specs.Stops.{body, stop_height, limit}
use Rattle.choice.specs.Choice.{stop_at, choice}
use Rattle.choice.specs.Law.{PastPageChangesNothing}
use Rattle.choice.proofs.Limits.{unforced, some_stop}
use Rattle.choice.proofs.Heights.{body_grows}
use Rattle.choice.proofs.Weighing.{choice_is}
use Rattle.choice.proofs.Picks.{pick, pick_one, pick_more, pick_rest, picked, picked_within}

limit_front : (n : ℕ) (xs : List Strip) → limit (take n xs) ≡ min n (limit xs)
limit_front zero xs = omega arith
limit_front (suc n) [] = omega arith
limit_front (suc n) (x ∷ xs) = grind (arith, nat_tests, prefix_len-append unforced (take n xs) (drop n xs), take-append-drop n xs, length-take n xs, length-drop n xs, prefix_len-le-length unforced)

-- A stop before the n-th is what the first n strips make it.
module _ (xs : List Strip) (n j : ℕ) (some : 1 ≤ j) where
  body_front : j ≤ n → body (take n xs) j ≡ body xs j
  body_front h = grind (arith, take-take j n xs, get_or-take n xs 0 blank)

  height_front : j ≤ n → stop_height (take n xs) j ≡ stop_height xs j
  height_front h = grind (arith, body_front h, get_or-take n xs (j - 1) blank)

  stop_front : j < n → stop_at (take n xs) j ≡ stop_at xs j
  stop_front h = grind (arith, height_front, slice_get-get_or (take n xs) j blank, slice_get-get_or xs j blank, slice_get_past xs j, slice_get_past (take n xs) j, length-take n xs, get_or-take n xs j blank)

module _ (page : ℕ) (xs : List Strip) where
  within : (m : ℕ) → 1 ≤ m → (1 ≤ pick page xs m) × (pick page xs m ≤ m)
  within m h = picked_within page xs h (picked page xs m)

  pick_front : (n m : ℕ) → 1 ≤ m → m < n → pick page (take n xs) m ≡ pick page xs m
  pick_front n zero some h = absurd (omega arith)
  pick_front n (suc m) some h =
      grind (arith, add-one m, pick_one page, pick_more page (take n xs) m, pick_more page xs m, pick_front n m, stop_front xs n (pick page xs m), stop_front xs n (m + 1), within m)

  -- The choice by the first n strips alone, where they pass the page.
  choice_front : (n : ℕ) → 2 ≤ n → 1 ≤ limit xs → page < body xs n → choice page xs ≡ stop_at (take n xs) (pick page (take n xs) (min (limit (take n xs)) (n - 1)))
  choice_front n h some high =
      let m = min (limit xs) (n - 1) in
      let rest = pick_rest page xs (n - 1) (limit xs - (n - 1)) (λ j l. omega (arith, body_grows xs n j (omega arith) (omega arith))) in
      grind (arith, choice_is page xs some, rest, within m, stop_front xs n (pick page xs m), pick_front n m, limit_front n xs)

pub past_page_changes_nothing : (page : ℕ) (xs : List Strip) → PastPageChangesNothing page xs (choice page xs)
past_page_changes_nothing page xs n others h long high =
    let front = take n xs in
    let all = front ++ others in
    let cut : take n all ≡ front = take_at front others n (length-take-le n xs long) in
    grind (arith, choice_front page xs n h, choice_front page all n h, some_stop xs, some_stop all, length-append front others, length-take n xs, body_front xs n n, body_front all n n)
