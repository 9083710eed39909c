-- `open`: by what the checks come to.
use Rattle.definition.specs.Meaning.{opening_in}
use Rattle.session.proofs.Opens.{opened_refused, opened_asks}
use Rattle.session.proofs.open.Goals as goal

pub returns-in-Err : goal.returns-in-Err
returns-in-Err c = opened_refused (opening_in c.args.request) c.prepared-body.result c.prepared-body.ensures c.in-Err.refusal c.in-Err.ensures

pub returns-in-Ok : goal.returns-in-Ok
returns-in-Ok c = opened_asks (opening_in c.args.request) c.prepared-body.result c.prepared-body.ensures c.in-Ok.ensures
