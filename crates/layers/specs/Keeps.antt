-- A keep grades the breaks inside it as against an avoid.
use Rattle.std.specs.Prelude.{List, if◌then◌else◌}
use Rattle.content.specs.declared.contents.Content.{Ghosts as Meaning}
use Rattle.content.specs.declared.ranks.Rank.{Rank}
use Rattle.content.specs.declared.ranks.Rank.TheVariants.{Forced, Free, AgainstOrphansOrWidows, AgainstAvoid}
use Rattle.content.specs.declared.strips.Strip.{Strip}
use Rattle.layers.specs.declared.keeps.Keeping.{Keeping}
use Rattle.layers.specs.declared.layer.Layer.{Layer}
use Rattle.layers.specs.Held.{held_left}
use Rattle.layers.specs.Places.{Change}

-- A forced break stays forced.
abbrev pub kept_rank : Rank → Rank
kept_rank Forced = Forced
kept_rank Free = AgainstAvoid
kept_rank AgainstOrphansOrWidows = AgainstAvoid
kept_rank AgainstAvoid = AgainstAvoid

-- The break before the first strip is not inside.
abbrev pub kept : Change
kept first last s = record {
  node = s.node;
  part = s.part;
  height = s.height;
  lead = s.lead;
  head = s.head;
  tail = s.tail;
  bales = s.bales;
  rank = if first then s.rank else kept_rank s.rank;
}

-- The alias of src/, which antt has no name for.
abbrev pub Keep : Type 0 → Type 0
Keep C = Layer Keeping C

-- What is left of a keep, by what its content's strips are.
abbrev pub keep_left : {C : Type 0} → Meaning C → Keep C → List Strip
keep_left m k = held_left m kept k.held
