use Rattle.std.proofs.Common.{◌≡◌, ◌-◌, take, drop}
use Rattle.content.specs.Strips.{bales_of}
use Rattle.content.proofs.sums.add_up.Given as goal

abbrev pub invariant-loop-i : goal.invariant-loop-i
invariant-loop-i g l = l.bales ≡ bales_of (take (l.i - l.from) (drop l.from (g.C.Content.strips l.content)))
