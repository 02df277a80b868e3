-- What a change has to keep of a strip, so that a list of them keeps the laws of a content.
use Rattle.std.specs.Prelude.{◌≡◌, ℕ, ◌+◌, ◌<◌, ◌≤◌, Bool, true, false, List, length, slice_index_or}
use Rattle.std.proofs.Common.{ap, ◌∙◌, arith}
use Rattle.std.proofs.lemmas.Bool.{eq-eqb, ne_eqb, and_right}
use Rattle.content.specs.declared.strips.Strip.{Strip}
use Rattle.content.specs.Strips.{blank}
use Rattle.content.specs.Laws.{Within, TailsGiveWay, LastHasNoTail, Lawful}
use Rattle.layers.specs.Places.{Change, by_place, first_at, last_at}
use Rattle.layers.specs.PlacesLemmas.{length-by_place, get_or-by_place, All-by_place}

-- From a reach of low to one of high.
pub record LawfulChange (f : Change) (low high : ℕ) : Type 0 where
  pub within : (first last : Bool) (s : Strip) → Within low s → Within high (f first last s)
  -- of a strip and the next
  pub gives_way : (first last : Bool) (s t : Strip) → s.tail ≤ t.lead + t.height + t.tail → (f first false s).tail ≤ (f false last t).lead + (f false last t).height + (f false last t).tail
  pub no_tail : (first : Bool) (s : Strip) → s.tail ≡ 0 → (f first true s).tail ≡ 0

module _ (f : Change) (low high : ℕ) (keeps : LawfulChange f low high) (begun : Bool) (xs : List Strip) where
  TailsGiveWay-by_place : TailsGiveWay xs → TailsGiveWay (by_place f begun xs)
  TailsGiveWay-by_place tails k h =
      let inside : k + 1 < length xs = omega (arith, length-by_place f begun xs) in
      let n = length xs in
      let s = slice_index_or xs k blank in
      let t = slice_index_or xs (k + 1) blank in
      let here = get_or-by_place f begun xs k blank blank (omega arith) ∙ ap (λ b. f (first_at begun k) b s) (ne_eqb (k + 1) n (λ e. omega arith)) in
      let next = get_or-by_place f begun xs (k + 1) blank blank inside ∙ ap (λ b. f b (last_at n (k + 1)) t) (and_right _ _ (ne_eqb (k + 1) 0 (λ e. omega arith))) in
      rw (here, next) (keeps.gives_way (first_at begun k) (last_at n (k + 1)) s t (tails k inside))

  LastHasNoTail-by_place : LastHasNoTail xs → LastHasNoTail (by_place f begun xs)
  LastHasNoTail-by_place last k h =
      let end : k + 1 ≡ length xs = omega (arith, length-by_place f begun xs) in
      let s = slice_index_or xs k blank in
      let here = get_or-by_place f begun xs k blank blank (omega arith) ∙ ap (λ b. f (first_at begun k) b s) (eq-eqb (k + 1) (length xs) end) in
      rw here (keeps.no_tail (first_at begun k) s (last k end))

  pub Lawful-by_place : high ≤ 200000 → Lawful xs low → Lawful (by_place f begun xs) high
  Lawful-by_place bounded l = record {
    few = omega (arith, length-by_place f begun xs, l.few);
    bounded = bounded;
    each = All-by_place f (Within low) (Within high) keeps.within begun xs l.each;
    tails = TailsGiveWay-by_place l.tails;
    last = LastHasNoTail-by_place l.last;
  }
