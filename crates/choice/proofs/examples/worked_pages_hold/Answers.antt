use Rattle.std.proofs.Common.{refl}
use Rattle.choice.specs.Choice.{choice}
use Rattle.choice.proofs.examples.worked_pages_hold.Goals as goal

pub returns : goal.returns
unfolding choice
returns c = record {
  repeated = refl;
  repeated_rest = refl;
  repeated_lower = refl;
  cut = refl;
  cut_rest = refl;
  gap_fits = refl;
  gap_passes = refl;
  gap_dropped = refl;
  forced = refl;
  forced_too_low = refl;
  keep = refl;
  avoid = refl;
  nothing = refl;
}
