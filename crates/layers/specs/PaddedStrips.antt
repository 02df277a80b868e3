-- Padding keeps the laws.
use Rattle.std.specs.Prelude.{◌≡◌, ℕ, ◌+◌, ◌≤◌, Bool, true, false, not, ◌&&◌, if◌then◌else◌, refl}
use Rattle.std.proofs.Common.{arith}
use Rattle.std.proofs.lemmas.Bool.Decides.{nat_tests}
use Rattle.content.specs.declared.strips.Strip.{Strip}
use Rattle.content.specs.Laws.{Within}
use Rattle.layers.specs.declared.padding.Padding.{Padding}
use Rattle.layers.specs.Boxes.{repeats, padded, bare_padding, padding_fits, padding_over, padded_reach}
use Rattle.layers.specs.LawfulChange.{LawfulChange}

at_most : (b : Bool) (n : ℕ) → (if b then n else 0) ≤ n
at_most true n = omega arith
at_most false n = omega arith

module _ (by : Padding) (reach : ℕ) where
  padded_within : (first last : Bool) (s : Strip) → Within reach s → Within (padded_reach reach by) (padded by first last s)
  padded_within first last s w = record {
    some_height = omega arith;
    height_within = omega (arith, at_most first by.top, at_most last by.bottom);
    lead_within = omega arith;
    head_within = omega (arith, at_most (repeats by.at_breaks && not first) by.top);
    tail_within = omega (arith, at_most (repeats by.at_breaks && not last) by.bottom);
    bales_within = omega arith;
  }

  -- The bottom that a strip has in its tail the next one has in its tail too, or in its height.
  padded_gives_way : (first last : Bool) (s t : Strip) → s.tail ≤ t.lead + t.height + t.tail → (padded by first false s).tail ≤ (padded by false last t).lead + (padded by false last t).height + (padded by false last t).tail
  padded_gives_way first last s t h = either (repeats by.at_breaks) last where
    either : (b last : Bool) → s.tail + (if b && true then by.bottom else 0) ≤ t.lead + (t.height + 0 + (if last then by.bottom else 0)) + (t.tail + (if b && not last then by.bottom else 0))
    either true true = omega arith
    either true false = omega arith
    either false true = omega arith
    either false false = omega arith

  padded_no_tail : (first : Bool) (s : Strip) → s.tail ≡ 0 → (padded by first true s).tail ≡ 0
  padded_no_tail first s h = either (repeats by.at_breaks) where
    either : (b : Bool) → s.tail + (if b && false then by.bottom else 0) ≡ 0
    either true = omega arith
    either false = omega arith

  pub padded_lawful : LawfulChange (padded by) reach (padded_reach reach by)
  padded_lawful = record { within = padded_within; gives_way = padded_gives_way; no_tail = padded_no_tail }

-- Within the limits the padding is what was set, and past them none: either way the reach keeps its bound.
pub padding_bounded : (reach : ℕ) (by : Padding) → reach ≤ 200000 → padded_reach reach (padding_over reach by) ≤ 200000
padding_bounded reach by h = either (padding_fits reach by) refl where
  either : (b : Bool) → padding_fits reach by ≡ b → padded_reach reach (if b then by else bare_padding) ≤ 200000
  either true e = grind (arith, nat_tests)
  either false e = omega arith
