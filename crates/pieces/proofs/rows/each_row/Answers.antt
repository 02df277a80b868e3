use Rattle.std.proofs.Common.{◌∙◌}
use Rattle.std.proofs.lemmas.List.{at_drop_all}
use Rattle.pieces.specs.Rows.{each_row}
use Rattle.pieces.proofs.FairRows.{IsOk-each_row}
use Rattle.pieces.proofs.rows.each_row.Goals as goal

pub returns-clause-fair : goal.returns-clause-fair
returns-clause-fair c =
    let rows = c.args.rows.now in
    let passed = c.loop-i.invariant ∙ at_drop_all (each_row c.args.node c.loop-i.i) rows c.loop-i.i c.loop-i-test.false in
    rw passed at (IsOk-each_row c.args.node 0 rows)
