use Rattle.choice.specs.StopNumbers.{numbers_of}
use Rattle.choice.specs.Stretches.{strips_of}
use Rattle.choice.proofs.Weighing.{Weighed}
use Rattle.choice.proofs.stretches.Stretch.weigh.Given as goal

abbrev pub invariant-loop-k : goal.invariant-loop-k
invariant-loop-k g l = Weighed l.page (strips_of g.C.Content l.self) l.k l.body l.next (numbers_of l.best)
