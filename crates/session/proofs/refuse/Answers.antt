-- `refuse`: the run's end.
use Rattle.std.proofs.lemmas.Bool.{false≢true}
use Rattle.session.proofs.Refusals.{refuse_ends}
use Rattle.session.proofs.refuse.Goals as goal

pub returns : goal.returns
returns c = refuse_ends c.args.s c.in-Some.field-0 (cc) (λ e. false≢true (rw (c.plan_of-plan.ensures, e) at c.if-eq.ensures))
