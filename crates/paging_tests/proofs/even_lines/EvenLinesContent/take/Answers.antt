use Rattle.std.proofs.Common.{sym, arith}
use Rattle.std.proofs.lemmas.List.{drop-replicate}
use Rattle.std.proofs.lemmas.Bool.{le-leb}
use Rattle.paging_tests.specs.EvenLists.{even_line}
use Rattle.paging_tests.proofs.even_lines.EvenLinesContent.take.Goals as goal

pub returns-then-enough-clause-rest : goal.returns-then-enough-clause-rest
returns-then-enough-clause-rest c =
    let n = c.args.self.now.left in
    rw (le-leb c.args.k n (omega arith)) (sym (drop-replicate c.args.k n even_line))
