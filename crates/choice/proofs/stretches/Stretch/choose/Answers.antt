use Rattle.std.proofs.Common.{sym, ap, ◌∙◌, subst, arith}
use Rattle.choice.specs.Stretches.{strips_of}
use Rattle.choice.specs.Law.{EndsBest, PastPageChangesNothing}
use Rattle.choice.proofs.Between.{between_few}
use Rattle.choice.proofs.Ends.{choice_ends_best, choice_within, choice_of_nothing}
use Rattle.choice.proofs.Fronts.{past_page_changes_nothing}
use Rattle.choice.proofs.stretches.Stretch.choose.Goals as goal

pub returns-in-Some : goal.returns-in-Some
returns-in-Some g c =
    let s = c.args.self.now in
    let page = c.args.page in
    let xs = strips_of g.C.Content s in
    let value = c.numbers.ensures ∙ c.weigh.ensures.best in
    record {
      value = value;
      best = subst (EndsBest page xs) (sym value) (choice_ends_best page xs);
      past_page = subst (PastPageChangesNothing page xs) (sym value) (past_page_changes_nothing page xs);
      few = omega (arith, ap (λ r. r.0) value, choice_within page xs, between_few s.from s.end (g.C.Content.strips s.content.now));
    }

pub returns-in-None-clause-value : goal.returns-in-None-clause-value
returns-in-None-clause-value g c = choice_of_nothing c.args.page (strips_of g.C.Content c.args.self.now) (sym c.strip.ensures.read ∙ c.in-None.is)
