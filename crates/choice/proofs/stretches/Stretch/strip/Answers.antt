use Rattle.std.proofs.Common.{sym, subst, arith}
use Rattle.std.proofs.lemmas.Option.{slice_get_past}
use Rattle.content.specs.Bounds.{Bounded}
use Rattle.content.proofs.Lawful.{Bounded-slice_get}
use Rattle.choice.specs.Stretches.{strips_of}
use Rattle.choice.proofs.Between.{between_few}
use Rattle.choice.proofs.stretches.Stretch.strip.Goals as goal

pub returns-then-k-max_len-clause-bounded : goal.returns-then-k-max_len-clause-bounded
returns-then-k-max_len-clause-bounded g c =
    let held = c.args.self.now.content.now in
    subst Bounded (sym c.strip.ensures) (Bounded-slice_get (g.C.Content.reach held) (g.C.Content.strips held) _ (g.met.C.Content.lawful held))

pub returns-else-k-max_len-clause-read : goal.returns-else-k-max_len-clause-read
returns-else-k-max_len-clause-read g c =
    let s = c.args.self.now in
    sym (slice_get_past (strips_of g.C.Content s) c.args.k (omega (arith, between_few s.from s.end (g.C.Content.strips s.content.now))))
