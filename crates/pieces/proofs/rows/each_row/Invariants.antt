use Rattle.std.proofs.Common.{◌≡◌, drop}
use Rattle.pieces.specs.Rows.{each_row}
use Rattle.pieces.proofs.rows.each_row.Given as goal

abbrev pub invariant-loop-i : goal.invariant-loop-i
invariant-loop-i l = each_row l.node 0 l.rows ≡ each_row l.node l.i (drop l.i l.rows)
