use Rattle.std.proofs.Common.{◌+◌, sym, ◌∙◌, arith}
use Rattle.content.proofs.Bales.{bales_more, bales_bounded}
use Rattle.content.proofs.sums.add_up.Goals as goal

pub overflow_add-bales : goal.overflow_add-bales
overflow_add-bales g c =
    let m = g.C.Content in
    let held = c.args.content.now in
    let xs = m.strips held in
    let more = bales_more xs c.args.from c.loop-i.i c.in-Some.strip (omega arith) (sym c.strip.ensures ∙ c.in-Some.is) in
    omega (arith, more, c.loop-i.invariant, bales_bounded xs c.args.from (c.loop-i.i + 1) (m.reach held) (g.met.C.Content.lawful held))

pub loop-i-preserved : goal.loop-i-preserved
loop-i-preserved g c =
    let xs = g.C.Content.strips c.args.content.now in
    let more = bales_more xs c.args.from c.loop-i.i c.in-Some.strip (omega arith) (sym c.strip.ensures ∙ c.in-Some.is) in
    omega (arith, more, c.loop-i.invariant)
