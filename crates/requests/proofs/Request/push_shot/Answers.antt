-- `requests::Request::push_shot`: a shot more, or the list is full. Assumes nothing.
use Rattle.fixed_list.proofs.Pushed.{pushed_first}
use Rattle.requests.proofs.Kept.{observations_in}
use Rattle.requests.proofs.Request.push_shot.Goals as goal

pub returns : goal.returns
returns c = λ o k.
    let e = c.try_push.ensures in
    let old = c.args.self.now.observations in
    let more = pushed_first 65 old c.try_push.new.self c.args.shot c.try_push.result o.measured.observations e.variant e.ok e.err e.full (observations_in k) in
    record {
      same = λ i. record {
        measured = record { entered = (k.same i).measured.entered; observations = more i; priors = (k.same i).measured.priors };
        requested = (k.same i).requested;
      };
    }
