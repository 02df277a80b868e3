-- Where a place of two lists, one after the other, lies.
use Rattle.std.proofs.Common.{◌≡◌, ℕ, zero, suc, ◌+◌, ◌-◌, ◌<◌, ◌≤◌, List, [], ◌∷◌, ◌++◌, length, drop, Some, None, Option, sym, refl, ap, ◌∙◌, inl, inr, suc-add, zero-add, arith, MatchOption}
use Rattle.std.specs.List.{slice_get}
use Rattle.std.specs.Option.{SomeIff}
use Rattle.std.proofs.lemmas.List.{drop_all, drop-append-le}
use Rattle.std.proofs.Math.Seq.{drop-append-add}
use Rattle.std.proofs.lemmas.Bool.{cases_lt}
use Rattle.content.specs.declared.strips.Strip.{Strip}
use Rattle.layers.specs.TwoLists.{Inside, Beyond}

slice_get_inside : (xs ys : List Strip) (i : ℕ) → i < length xs → slice_get (xs ++ ys) i ≡ slice_get xs i
slice_get_inside [] ys i h = absurd (omega arith)
slice_get_inside (x ∷ xs) ys zero h = refl
slice_get_inside (x ∷ xs) ys (suc i) h = slice_get_inside xs ys i (omega arith)

slice_get_beyond : (xs ys : List Strip) (j : ℕ) → slice_get (xs ++ ys) (length xs + j) ≡ slice_get ys j
slice_get_beyond [] ys j = rw zero-add refl
slice_get_beyond (x ∷ xs) ys j = rw suc-add (slice_get_beyond xs ys j)

pub inside : (xs : List Strip) (i : ℕ) → i < length xs → Inside xs i
inside xs i h = record { here = h; read = λ ys. slice_get_inside xs ys i h; rest = λ ys. drop-append-le i xs ys (omega arith) }

module _ (xs : List Strip) (i j : ℕ) (e : length xs + j ≡ i) where
  drop_beyond : (ys : List Strip) → drop i (xs ++ ys) ≡ drop (i - j) xs ++ drop j ys
  drop_beyond ys =
      let gone : drop (i - j) xs ≡ [] = drop_all (i - j) xs (omega arith) in
      ap (λ n. drop n (xs ++ ys)) (sym e) ∙ drop-append-add xs ys j ∙ ap (λ zs. zs ++ drop j ys) (sym gone)

  pub beyond : Beyond xs i j
  beyond = record { here = e; read = λ ys. ap (slice_get (xs ++ ys)) (sym e) ∙ slice_get_beyond xs ys j; rest = drop_beyond }

-- Which of the two it is, by what is left of i.
pub inside_or_beyond : (xs : List Strip) (n i : ℕ) (r : Option ℕ) → n ≡ length xs → SomeIff r (n ≤ i) (i - n) → MatchOption r (Inside xs i) (Beyond xs i)
inside_or_beyond xs n i None long h = inside xs i (elim (cases_lt i (length xs)) [ inl here ↦ here | inr past ↦ absurd (h (omega arith)) ])
inside_or_beyond xs n i (Some j) long h = beyond xs i j (omega (arith, h.0, h.1))
