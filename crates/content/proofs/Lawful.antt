-- The laws of a content: they outlast a take, bound each strip that is read, and hold of two lists together.
use Rattle.std.proofs.Common.{ℕ, zero, suc, ◌+◌, ◌-◌, ◌≤◌, List, [], ◌∷◌, ◌++◌, length, drop, arith}
use Rattle.std.specs.List.{slice_get, AllByRecursion}
use Rattle.std.proofs.lemmas.List.{length-drop, length-append, get_or-drop, get_or_append_left, get_or-append_right}
use Rattle.std.proofs.ByRecursion.{All-append, All-drop, All-weaker}
use Rattle.content.specs.declared.strips.Strip.{Strip}
use Rattle.content.specs.Strips.{blank}
use Rattle.content.specs.Laws.{Within, Lawful}
use Rattle.content.specs.Bounds.{Bounded}

pub Lawful-drop : (n : ℕ) (xs : List Strip) (reach : ℕ) → Lawful xs reach → Lawful (drop n xs) reach
Lawful-drop n xs reach l = record {
  few = omega (arith, length-drop n xs, l.few);
  bounded = l.bounded;
  each = All-drop (Within reach) n xs l.each;
  tails = λ k h. grind (arith, l.tails (n + k), length-drop n xs, get_or-drop n xs);
  last = λ k h. grind (arith, l.last (n + k), length-drop n xs, get_or-drop n xs);
}

-- A larger reach bounds what a smaller one does.
Within_wider : (low high : ℕ) (s : Strip) → low ≤ high → Within low s → Within high s
Within_wider low high s h w = grind arith

Bounded-from_all : (reach : ℕ) (xs : List Strip) (i : ℕ) → reach ≤ 200000 → AllByRecursion (Within reach) xs → Bounded (slice_get xs i)
Bounded-from_all reach [] i h all = tt
Bounded-from_all reach (x ∷ xs) zero h all = Within_wider reach 200000 x h all.0
Bounded-from_all reach (x ∷ xs) (suc i) h all = Bounded-from_all reach xs i h all.1

-- A strip that was read keeps the laws' bounds.
pub Bounded-slice_get : (reach : ℕ) (xs : List Strip) (i : ℕ) → Lawful xs reach → Bounded (slice_get xs i)
Bounded-slice_get reach xs i l = Bounded-from_all reach xs i l.bounded l.each

pub Lawful_wider : (low high : ℕ) (xs : List Strip) → low ≤ high → high ≤ 200000 → Lawful xs low → Lawful xs high
Lawful_wider low high xs h bounded l = record {
  few = l.few;
  bounded = bounded;
  each = All-weaker (Within low) (Within high) (λ s w. Within_wider low high s h w) xs l.each;
  tails = l.tails;
  last = l.last;
}

-- Two lists one after the other: the last strip of the first has no tail, so it asks nothing of the second.
pub Lawful-append : (xs ys : List Strip) (reach : ℕ) → length xs + length ys ≤ 1000000 → Lawful xs reach → Lawful ys reach → Lawful (xs ++ ys) reach
Lawful-append xs ys reach few first second = record {
  few = omega (arith, length-append xs ys);
  bounded = first.bounded;
  each = All-append (Within reach) xs ys first.each second.each;
  tails = λ k h. grind (arith, length-append xs ys, get_or_append_left xs ys blank, get_or-append_right xs ys (length xs), first.tails k, first.last k, second.tails (k - length xs));
  last = λ k h. grind (arith, length-append xs ys, get_or_append_left xs ys blank, get_or-append_right xs ys (length xs), first.last k, second.last (k - length xs));
}
