-- `reply`: what its steps give.
use Rattle.std.proofs.Common.{◌≡◌, rules, Option, None, Some}
use Rattle.definition.specs.declared.RefusalCode.{RefusalCode}
use Rattle.run_body.proofs.Laid.{Full}
use Rattle.session.proofs.Replies.{why, replied_refused, replied_on}
use Rattle.session.proofs.Laws.{asks_in}
use Rattle.session.proofs.reply.Goals as goal

-- declined
pub returns-in-Some : goal.returns-in-Some
returns-in-Some c =
    let a = c.args in
    let d : why a.s a.entries.now (asks_in a.s) ≡ Some c.in-Some.code = cc in
    replied_refused a.s a.entries.now c.in-Some.code _ _ d c.declined.ensures

-- taken
pub returns : goal.returns
returns c =
    let a = c.args in
    let s = a.s in
    let d : why s a.entries.now (asks_in s) ≡ None = cc in
    let l : Full s.body.rows = search rules in
    rw (c.counted.ensures, c.kept.ensures, c.reply_baseline_at.ensures, c.plan_of-plan.ensures, c.first_gap-found.ensures)
    (replied_on s a.entries.now c.lay.new.rows c.has_wanted-requested.result c.advance-next.result d l
    c.has_wanted-requested.ensures
    (rw c.plan_of-plan.ensures at c.lay.ensures)
    (rw (c.first_gap-found.ensures, c.reply_sum_at-sum.ensures, c.evaluation_at-e.ensures, c.plan_of-plan.ensures)
    at c.advance-next.ensures))
