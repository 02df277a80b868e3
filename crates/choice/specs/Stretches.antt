-- The strips of a content between two places.
use Rattle.std.specs.Prelude.{List}
use Rattle.content.specs.declared.contents.Content.{Ghosts as Meaning}
use Rattle.content.specs.declared.strips.Strip.{Strip}
use Rattle.choice.specs.Choice.{between}
use Rattle.choice.specs.declared.stretches.Stretch.{Stretch}

abbrev pub strips_of : {C : Type 0} → Meaning C → Stretch C → List Strip
strips_of m s = between s.from s.end (m.strips s.content.now)
