-- `next_look` with a candidate: a turn changes no count of evaluations.
use Rattle.std.proofs.Common.{◌≡◌, ◌<◌, ap, ◌∙◌, arith}
use borrow.Author.Tests.{lt-ltb}
use Rattle.definition.proofs.Polls.{evaluations_of, turn_same}
use Rattle.objective_mesh.specs.Meaning.{pass_of}
use Rattle.fitting.specs.Meaning.{after_look}
use Rattle.fitting.proofs.Laws.{bind_assoc, poll_turn}
use Rattle.fitting.proofs.next_look.Goals as goal

pub returns-in-Evaluates : goal.returns-in-Evaluates
returns-in-Evaluates c =
    let s = c.args.g.pass in
    let more : s.evaluations < 1024 = omega arith in
    let e = c.in-Evaluates.ensures in
    let same : c.in-Evaluates.pass.evaluations ≡ s.evaluations = ap evaluations_of e ∙ turn_same (pass_of s) in
    record { leads = λ m ds. simp (poll_turn m s.evaluations (pass_of s) more, ← e, bind_assoc, same, lt-ltb s.evaluations 1024 more, after_look) }
