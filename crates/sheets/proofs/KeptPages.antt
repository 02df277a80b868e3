-- A keep takes no room, and grades the ends inside it.
use Rattle.std.proofs.Common.{◌≡◌, ◌≢◌, ℕ, ◌≤◌, Bool, false, List, [], ◌∷◌, length, None, Some, refl, ap, ◌∙◌, arith}
use Rattle.std.specs.Prelude.{Option, option_map}
use Rattle.std.specs.List.{slice_get}
use Rattle.std.proofs.lemmas.Option.{slice_get-get_or, slice_get_past}
use Rattle.content.specs.declared.ranks.Rank.{Rank}
use Rattle.content.specs.declared.ranks.Rank.TheVariants.{Forced, Free, AgainstOrphansOrWidows, AgainstAvoid}
use Rattle.content.specs.declared.strips.Strip.{Strip}
use Rattle.content.specs.Strips.{blank}
use Rattle.choice.specs.Stops.{rank_before}
use Rattle.layers.specs.Keeps.{kept, kept_rank}
use Rattle.layers.specs.Places.{by_place, last_at}
use Rattle.layers.specs.PlacesLemmas.{length-by_place}
use Rattle.sheets.specs.KeptPages.{KeepAtStop, KeepOnPages}
use Rattle.sheets.proofs.PlacedStrips.{TakesNoRoom, height-by_place, read_later}

kept_takes_no_room : TakesNoRoom kept
kept_takes_no_room = record { measures = λ first last s. refl; lead = λ last s. refl }

-- What a keep makes of a break that is not forced, and of one that is.
avoided_rank : (grade : Rank) → grade ≢ Forced → kept_rank grade ≡ AgainstAvoid
avoided_rank Forced other = absurd (other refl)
avoided_rank Free other = refl
avoided_rank AgainstOrphansOrWidows other = refl
avoided_rank AgainstAvoid other = refl

forced_rank : (last : Bool) (o : Option Strip) → rank_before o ≡ Forced → rank_before (option_map (kept false last) o) ≡ Forced
forced_rank last None forced = forced
forced_rank last (Some s) forced = ap kept_rank forced

-- A stop lies before a strip that is not the first, so the keep grades it.
keep_at_stop : (begun : Bool) (xs : List Strip) (k : ℕ) → 1 ≤ k → k ≤ length xs → KeepAtStop begun xs k
keep_at_stop begun xs k some near =
    let last = last_at (length xs) k in
    let read = read_later kept begun xs k some in
    record {
      height = height-by_place kept kept_takes_no_room begun xs k some near;
      avoided = λ inside other. let here = slice_get-get_or xs k blank inside in
          ap rank_before (read ∙ ap (option_map (kept false last)) here) ∙ avoided_rank _ (λ e. other (ap rank_before here ∙ e));
      forced = λ forced. ap rank_before read ∙ forced_rank last (slice_get xs k) forced;
      whole = λ all. ap rank_before (slice_get_past (by_place kept begun xs) k (omega (arith, length-by_place kept begun xs)));
    }

before_keep : (xs : List Strip) → rank_before (slice_get (by_place kept false xs) 0) ≡ rank_before (slice_get xs 0)
before_keep [] = refl
before_keep (x ∷ xs) = refl

pub keep_on_pages : KeepOnPages
keep_on_pages = record { stops = keep_at_stop; before = before_keep }
