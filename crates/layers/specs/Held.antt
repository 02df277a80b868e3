-- What a layer shows of the content that it holds.
use Rattle.std.specs.Prelude.{List}
use Rattle.content.specs.declared.contents.Content.{Ghosts as Meaning}
use Rattle.content.specs.declared.strips.Strip.{Strip}
use Rattle.layers.specs.declared.held.Held.{Held}
use Rattle.layers.specs.Places.{Change, by_place}

-- The strips left, where the layer makes this change.
abbrev pub held_left : {C : Type 0} → Meaning C → Change → Held C → List Strip
held_left m f h = by_place f h.begun (m.strips h.content)
