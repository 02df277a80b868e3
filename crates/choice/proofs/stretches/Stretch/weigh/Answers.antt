use Rattle.std.proofs.Common.{◌∙◌, arith}
use Rattle.choice.specs.Stretches.{strips_of}
use Rattle.std.proofs.lemmas.Bool.{iff_false}
use Rattle.std.proofs.lemmas.Option.{slice_get_past}
use Rattle.choice.proofs.Between.{between_few}
use Rattle.choice.proofs.Weighing.{weighing_goes_on, weighing_ends, weighing_runs_out}
use Rattle.choice.proofs.stretches.Stretch.weigh.Goals as goal

pub loop-k-preserved : goal.loop-k-preserved
loop-k-preserved g c =
    let read = c.strip-next-in-loop-k.ensures in
    weighing_goes_on c.loop-k.invariant c.in-Some.is c.added-body.ensures (iff_false c.must_end_before.ensures c.if-must_end_before.false) (omega arith) read.read read.bounded c.after.ensures c.or_better-best.ensures

pub returns-after-loop-k-clause-best : goal.returns-after-loop-k-clause-best
returns-after-loop-k-clause-best g c =
    let s = c.args.self.now in
    let few = between_few s.from s.end (g.C.Content.strips s.content.now) in
    weighing_runs_out c.loop-k.invariant (c.loop-k.invariant.is_next ∙ slice_get_past (strips_of g.C.Content s) c.loop-k.k (omega (arith, few)))

pub returns-in_default-clause-best : goal.returns-in_default-clause-best
returns-in_default-clause-best g c = weighing_runs_out c.loop-k.invariant c.in_default.is

pub returns-then-must_end_before-clause-best : goal.returns-then-must_end_before-clause-best
returns-then-must_end_before-clause-best g c = weighing_ends c.loop-k.invariant c.in-Some.is c.added-body.ensures (c.must_end_before.ensures.0 c.if-must_end_before.true)
