-- `truing_objective_sum`: by the tests, in their order.
use mathlib.Core.Path.{◌∙◌}
use native.Mathlib.Omega.{arith}
use Rattle.definition.specs.declared.Point.{Point}
use Rattle.c_api.specs.Desk.{priors_of, sum_outcome}
use Rattle.c_api.proofs.Laws.{answered, sum_1, sum_2, sum_3, sum_0, sum_room}
use Rattle.c_api.proofs.truing_objective_sum.Goals as goal

pub returns-then-observations-n : goal.returns-then-observations-n
returns-then-observations-n c =
    let a = c.args in
    let q = priors_of a.priors a.speed_mean a.speed_sigma a.coefficient_mean a.coefficient_sigma in
    let p : Point = record { mv = a.speed; bc = a.coefficient } in
    let o = sum_outcome q p a.observations.now a.replies.now a.out.now in
    let w =
    answered o (sum_1 q p a.observations.now a.replies.now a.out.now c.if-observations-n.true) in
    record { value = w.0; out_after = w.1 }

pub returns-then-replies-n : goal.returns-then-replies-n
returns-then-replies-n c =
    let a = c.args in
    let q = priors_of a.priors a.speed_mean a.speed_sigma a.coefficient_mean a.coefficient_sigma in
    let p : Point = record { mv = a.speed; bc = a.coefficient } in
    let o = sum_outcome q p a.observations.now a.replies.now a.out.now in
    let w =
    answered o (sum_2 q p a.observations.now a.replies.now a.out.now c.if-observations-n.false c.if-replies-n.true) in
    record { value = w.0; out_after = w.1 }

pub returns-then-out-lt-DOUBLE : goal.returns-then-out-lt-DOUBLE
returns-then-out-lt-DOUBLE c =
    let a = c.args in
    let q = priors_of a.priors a.speed_mean a.speed_sigma a.coefficient_mean a.coefficient_sigma in
    let p : Point = record { mv = a.speed; bc = a.coefficient } in
    let o = sum_outcome q p a.observations.now a.replies.now a.out.now in
    let w =
    answered o (sum_3 q p a.observations.now a.replies.now a.out.now c.if-observations-n.false c.if-replies-n.false c.if-out-lt-DOUBLE.true) in
    record { value = w.0; out_after = w.1 }

pub sum-requires : goal.sum-requires
sum-requires c =
    let a = c.args in
    let q = priors_of a.priors a.speed_mean a.speed_sigma a.coefficient_mean a.coefficient_sigma in
    let p : Point = record { mv = a.speed; bc = a.coefficient } in
    let o = sum_outcome q p a.observations.now a.replies.now a.out.now in
    let room = sum_room q p a.observations.now a.replies.now a.out.now c.if-observations-n.false in
    (room.0, room.1, omega arith)

pub returns : goal.returns
returns c =
    let a = c.args in
    let q = priors_of a.priors a.speed_mean a.speed_sigma a.coefficient_mean a.coefficient_sigma in
    let p : Point = record { mv = a.speed; bc = a.coefficient } in
    let o = sum_outcome q p a.observations.now a.replies.now a.out.now in
    let w =
    answered o
    (sum_0 q p a.observations.now a.replies.now a.out.now c.if-observations-n.false c.if-replies-n.false
    c.put_double.new.out c.if-out-lt-DOUBLE.false
    (c.put_double.ensures ∙ rw (c.sum.ensures, c.priors_of-given.ensures))) in
    record { value = w.0; out_after = w.1 }
