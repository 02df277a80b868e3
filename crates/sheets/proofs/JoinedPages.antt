-- What a joint comes to on the pages of a pair.
use Rattle.std.proofs.Common.{◌≡◌, ℕ, zero, suc, ◌+◌, ◌-◌, ◌≤◌, max, Bool, true, false, not, cond, List, [], ◌∷◌, ◌++◌, length, take, drop, get_or, Some, sum_by, refl, ap, ◌∙◌, arith}
use Rattle.std.specs.Prelude.{option_map}
use Rattle.std.specs.List.{slice_get}
use Rattle.std.proofs.lemmas.List.{drop-append-le, length-append, get_or_append_left, get_or-append-add, take-append-le, take_all}
use Rattle.std.proofs.Math.Seq.{take-append-add}
use Rattle.std.proofs.lemmas.List.Sums.{sum_by-append, sum_by-cons}
use Rattle.std.proofs.lemmas.Option.{slice_get_past}
use Rattle.content.specs.declared.strips.Strip.{Strip}
use Rattle.content.specs.Strips.{blank}
use Rattle.choice.specs.Stops.{body, rank_before, stop_height}
use Rattle.layers.specs.declared.joints.Joint.{Joint}
use Rattle.layers.specs.Pairs.{joined, joined_rank}
use Rattle.layers.specs.Places.{by_place, last_at}
use Rattle.layers.specs.PlacesLemmas.{length-by_place}
use Rattle.layers.proofs.TwoLists.{inside, beyond}
use Rattle.sheets.specs.JoinedPages.{JointAtStops}
use Rattle.sheets.proofs.PlacedStrips.{TakesNoRoom, height-by_place, rank_before-option_map, read_first, read_later}

joined_takes_no_room : (by : Joint) → TakesNoRoom (joined by)
joined_takes_no_room by = record { measures = λ first last s. refl; lead = λ last s. refl }

-- A page of two lists that ends in the first, or with it.
height_inside : (xs zs : List Strip) (k : ℕ) → 1 ≤ k → k ≤ length xs → stop_height (xs ++ zs) k ≡ stop_height xs k
height_inside xs zs k some near = grind (arith, take-append-le k xs zs near, get_or_append_left xs zs blank 0 (omega arith), get_or_append_left xs zs blank (k - 1) (omega arith))

-- A page of two lists that has strips of both.
height_beyond : (xs : List Strip) (z : Strip) (zs : List Strip) (j : ℕ) → 1 ≤ length xs → 1 ≤ j → stop_height (xs ++ (z ∷ zs)) (length xs + j) + z.head ≡ body xs (length xs) + z.lead + stop_height (z ∷ zs) j
height_beyond xs z zs zero some more = absurd (omega arith)
height_beyond xs z zs (suc j) some more =
    let page = take-append-add xs (z ∷ zs) (suc j) in
    let after = z ∷ take j zs in
    let tail : (get_or (xs ++ (z ∷ zs)) (length xs + suc j - 1) blank).tail ≡ (get_or (z ∷ zs) (suc j - 1) blank).tail = grind (arith, get_or-append-add xs (z ∷ zs) j blank) in
    omega (
      arith,
      ap (λ l. sum_by (λ s. s.height) l) page,
      ap (λ l. sum_by (λ s. s.lead) (drop 1 l)) page,
      ap (λ l. sum_by (λ s. s.lead) l) (drop-append-le 1 xs after some),
      ap (λ l. sum_by (λ s. s.height) l) (take_all (length xs) xs (omega arith)),
      ap (λ l. sum_by (λ s. s.lead) (drop 1 l)) (take_all (length xs) xs (omega arith)),
      sum_by-append (λ s. s.height) xs after,
      sum_by-append (λ s. s.lead) (drop 1 xs) after,
      sum_by-cons (λ s. s.height) z (take j zs),
      sum_by-cons (λ s. s.lead) z (take j zs),
      ap (λ s. s.head) (get_or_append_left xs (z ∷ zs) blank 0 some),
      tail,
    )

-- A choice the other way round.
unless : {A : Type 0} (b : Bool) (x y : A) → cond (not b) x y ≡ cond b y x
unless true x y = refl
unless false x y = refl

module _ (by : Joint) (begun : Bool) where
  abbrev second : List Strip → List Strip
  second ys = by_place (joined by) begun ys

  -- The word grades the break before the first strip of the second part, until one of that part was taken.
  rank_first : (ys : List Strip) (y : Strip) → slice_get ys 0 ≡ Some y → rank_before (slice_get (second ys) 0) ≡ cond begun y.rank (joined_rank by.word y.rank)
  rank_first ys y first =
      let last = last_at (length ys) 0 in
      ap rank_before (read_first (joined by) begun ys)
      ∙ ap (λ o. rank_before (option_map (joined by (not begun) last) o)) first
      ∙ unless begun (joined_rank by.word y.rank) y.rank

  -- It grades no other.
  rank_later : (ys : List Strip) (j : ℕ) → 1 ≤ j → rank_before (slice_get (second ys) j) ≡ rank_before (slice_get ys j)
  rank_later ys j later = ap rank_before (read_later (joined by) begun ys j later) ∙ rank_before-option_map (joined by false (last_at (length ys) j)) (λ s. refl) (slice_get ys j)

  -- The first strip of the second part stands below the first part, under its lead or the gap.
  height_of_both : (xs ys : List Strip) (y : Strip) (j : ℕ) → slice_get ys 0 ≡ Some y → 1 ≤ length xs → 1 ≤ j → j ≤ length ys → stop_height (xs ++ second ys) (length xs + j) + y.head ≡ body xs (length xs) + cond begun y.lead (max y.lead by.gap) + stop_height ys j
  height_of_both xs [] y j first some more near = absurd (omega arith)
  height_of_both xs (x ∷ ys) y j first some more near =
      let shown = joined by (not begun) (last_at (length (x ∷ ys)) 0) x in
      let same : x ≡ y = cc in
      omega (
        arith,
        height_beyond xs shown (by_place (joined by) true ys) j some more,
        height-by_place (joined by) (joined_takes_no_room by) begun (x ∷ ys) j more near,
        unless begun (max x.lead by.gap) x.lead,
        ap (λ s. s.head) same,
        ap (λ s. cond begun s.lead (max s.lead by.gap)) same,
      )

  pub joint_at_stops : (xs ys : List Strip) → JointAtStops by xs begun ys
  joint_at_stops xs ys = record {
    first_height = height_inside xs (second ys);
    first_rank = λ k here. ap rank_before ((inside xs k here).read (second ys));
    between_rank = λ y first. ap rank_before ((beyond xs (length xs) 0 (omega arith)).read (second ys)) ∙ rank_first ys y first;
    no_second_rank = λ none. ap rank_before (slice_get_past (xs ++ second ys) (length xs) (omega (arith, length-append xs (second ys), length-by_place (joined by) begun ys, ap length none)));
    second_rank = λ j more. ap rank_before ((beyond xs (length xs + j) j refl).read (second ys)) ∙ rank_later ys j more;
    both_height = height_of_both xs ys;
    second_height = λ j none some near. ap (λ before. stop_height (before ++ second ys) j) none ∙ height-by_place (joined by) (joined_takes_no_room by) begun ys j some near;
  }
