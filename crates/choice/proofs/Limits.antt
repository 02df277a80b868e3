-- The limit is the least stop of rank 0, or the last stop.
use Rattle.std.proofs.Common.{◌-◌, ◌≤◌, Bool, not, List, ◌∷◌, length, arith}
use Rattle.std.specs.List.{prefix_len}
use Rattle.std.proofs.lemmas.List.Sums.{prefix_len-le-length, prefix_len_passes, prefix_len_stops}
use Rattle.std.proofs.lemmas.Option.{slice_get-get_or}
use Rattle.std.proofs.lemmas.Grind.{get_or_tail}
use Rattle.content.specs.Strips.{blank}
use Rattle.content.specs.declared.strips.Strip.{Strip}
use Rattle.choice.specs.Stops.{IsLimit, is_forced, limit}

abbrev pub unforced : Strip → Bool
unforced s = not (is_forced s.rank)

pub limit_is : (x : Strip) (xs : List Strip) → IsLimit (x ∷ xs) (limit (x ∷ xs))
limit_is x xs = record {
  some = omega arith;
  within = omega (arith, most);
  least = λ k h l. grind (arith, most, prefix_len_passes unforced xs (k - 1) blank, slice_get-get_or (x ∷ xs) k blank, get_or_tail x xs k blank);
  ends = grind (arith, most, prefix_len_stops unforced xs blank, slice_get-get_or xs (prefix_len unforced xs) blank);
} where
  most : prefix_len unforced xs ≤ length xs
  most = prefix_len-le-length unforced xs

-- Where there is a strip there is a stop.
pub some_stop : (xs : List Strip) → 1 ≤ length xs → 1 ≤ limit xs
some_stop xs h = grind arith
