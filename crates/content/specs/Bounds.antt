-- How large the numbers of a strip may be, so that no sum over a page wraps.
use Rattle.std.specs.Prelude.{Option, IfSome}
use Rattle.content.specs.declared.strips.Strip.{Strip}
use Rattle.content.specs.Laws.{Within}

-- A strip that was read has no number above the largest reach.
abbrev pub Bounded : Option Strip → Type 0
Bounded o = IfSome o (Within 200000)
