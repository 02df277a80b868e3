-- Strips that change by where they stand: what is read of them, their sums, and the pages of a layer that takes no room.
use Rattle.std.proofs.Common.{◌≡◌, ℕ, zero, suc, ◌+◌, ◌-◌, ◌<◌, ◌≤◌, Bool, true, false, not, eqb, List, [], ◌∷◌, length, get_or, take, None, Some, sum_by, sym, refl, ap, ◌∙◌, arith}
use Rattle.std.specs.Prelude.{Option, option_map}
use Rattle.std.specs.List.{slice_get}
use Rattle.std.proofs.lemmas.Bool.{and_right, ne_eqb}
use Rattle.std.proofs.lemmas.List.Sums.{sum_by-cons}
use Rattle.content.specs.declared.strips.Strip.{Strip}
use Rattle.content.specs.Strips.{blank}
use Rattle.choice.specs.Stops.{rank_before, stop_height}
use Rattle.layers.specs.Places.{Change, by_place, first_at, last_at}
use Rattle.layers.specs.PlacesLemmas.{get_or-by_place, slice_get-by_place}

module _ (f : Change) (begun : Bool) (xs : List Strip) where
  -- The strip that stands first is the first unless one was taken before it, and none after it is.
  pub read_first : slice_get (by_place f begun xs) 0 ≡ option_map (f (not begun) (last_at (length xs) 0)) (slice_get xs 0)
  read_first =
      let read = slice_get-by_place f begun xs 0 in
      read ∙ ap (λ first. option_map (f first (last_at (length xs) 0)) (slice_get xs 0)) (whole begun) where
        whole : (begun : Bool) → first_at begun 0 ≡ not begun
        whole true = refl
        whole false = refl

  -- Behind it stands none that is the first.
  pub read_later : (k : ℕ) → 1 ≤ k → slice_get (by_place f begun xs) k ≡ option_map (f false (last_at (length xs) k)) (slice_get xs k)
  read_later k later =
      let behind = and_right (not begun) (eqb k 0) (ne_eqb k 0 (λ e. omega arith)) in
      slice_get-by_place f begun xs k ∙ ap (λ first. option_map (f first (last_at (length xs) k)) (slice_get xs k)) behind

-- The rank of a strip that was read is as it was, where what is done to the strip leaves it.
pub rank_before-option_map : (f : Strip → Strip) → ((s : Strip) → (f s).rank ≡ s.rank) → (o : Option Strip) → rank_before (option_map f o) ≡ rank_before o
rank_before-option_map f same None = refl
rank_before-option_map f same (Some s) = same s

-- A sum of what a change leaves of every strip but the first.
pub sum_by-take-by_place : (f : Change) (of : Strip → ℕ) (k : ℕ) (xs : List Strip) → ((last : Bool) (s : Strip) → of (f false last s) ≡ of s) → sum_by of (take k (by_place f true xs)) ≡ sum_by of (take k xs)
sum_by-take-by_place f of zero xs same = refl
sum_by-take-by_place f of (suc k) [] same = refl
sum_by-take-by_place f of (suc k) (x ∷ xs) same =
    let first = f false (eqb (length xs) 0) x in
    sum_by-cons of first (take k (by_place f true xs))
    ∙ ap (λ n. n + sum_by of (take k (by_place f true xs))) (same (eqb (length xs) 0) x)
    ∙ ap (λ n. of x + n) (sum_by-take-by_place f of k xs same)
    ∙ sym (sum_by-cons of x (take k xs))

-- What a strip measures on a page, but for its lead.
abbrev measures_of : Strip → ℕ × ℕ × ℕ
measures_of s = (s.height, s.head, s.tail)

-- A change that leaves what a page measures: the first strip's lead is none of it, since that strip begins the page.
pub record TakesNoRoom (f : Change) : Type 0 where
  pub measures : (first last : Bool) (s : Strip) → measures_of (f first last s) ≡ measures_of s
  pub lead : (last : Bool) (s : Strip) → (f false last s).lead ≡ s.lead

module _ (f : Change) (room : TakesNoRoom f) where
  -- The tail of the last strip on a page.
  tail_at : (begun : Bool) (xs : List Strip) (i : ℕ) → i < length xs → (get_or (by_place f begun xs) i blank).tail ≡ (get_or xs i blank).tail
  tail_at begun xs i h = ap (λ s. s.tail) (get_or-by_place f begun xs i blank blank h) ∙ ap (λ m. m.2) (room.measures _ _ (get_or xs i blank))

  -- Each stop is as high as it is without the layer.
  pub height-by_place : (begun : Bool) (xs : List Strip) (k : ℕ) → 1 ≤ k → k ≤ length xs → stop_height (by_place f begun xs) k ≡ stop_height xs k
  height-by_place begun xs zero some near = absurd (omega arith)
  height-by_place begun [] (suc k) some near = absurd (omega arith)
  height-by_place begun (x ∷ xs) (suc k) some near =
      let last = eqb (length xs) 0 in
      let first = f (not begun) last x in
      let rest = by_place f true xs in
      omega (
        arith,
        ap (λ m. m.0) (room.measures (not begun) last x),
        ap (λ m. m.1) (room.measures (not begun) last x),
        sum_by-cons (λ s. s.height) first (take k rest),
        sum_by-cons (λ s. s.height) x (take k xs),
        sum_by-take-by_place f (λ s. s.height) k xs (λ last s. ap (λ m. m.0) (room.measures false last s)),
        sum_by-take-by_place f (λ s. s.lead) k xs room.lead,
        tail_at begun (x ∷ xs) (suc k - 1) (omega arith),
      )
