-- `requests::Request::push_distance`: a distance more, or the list is full. Assumes nothing.
use Rattle.fixed_list.proofs.Pushed.{pushed_first}
use Rattle.requests.proofs.Kept.{requested_in}
use Rattle.requests.proofs.Request.push_distance.Goals as goal

pub returns : goal.returns
returns c = λ o k.
    let e = c.try_push.ensures in
    let old = c.args.self.now.predictions in
    let more = pushed_first 65 old c.try_push.new.self c.args.distance c.try_push.result o.requested e.variant e.ok e.err e.full (requested_in k) in
    record { same = λ i. record { measured = (k.same i).measured; requested = more i } }
