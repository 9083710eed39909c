-- `advance`: an objective is judged, by what follows it.
use Rattle.fitting.specs.Meaning.{start_at, after_trial, after_look}
use Rattle.phases.proofs.Laws.{judged_leads}
use Rattle.phases.proofs.advance.Goals as goal

pub returns-in-Start : goal.returns-in-Start
returns-in-Start c =
    let a = c.args in
    rw c.in-Start.is (judged_leads a.g a.sum c.start.result (λ m ds x. start_at a.entered x m ds) c.start.ensures a.found _ c.judged.ensures)

pub returns-in-Trial : goal.returns-in-Trial
returns-in-Trial c =
    let a = c.args in
    rw c.in-Trial.is
    (judged_leads a.g a.sum c.after_trial.result (λ m ds. after_trial m ds a.g c.in-Trial.q) c.after_trial.ensures a.found _ c.judged-in-Trial.ensures)

pub returns-in-Look : goal.returns-in-Look
returns-in-Look c =
    let a = c.args in
    rw c.in-Look.is
    (judged_leads a.g a.sum c.after_look.result (λ m ds. after_look m ds a.g c.in-Look.c) c.after_look.ensures a.found _ c.judged-in-Look.ensures)
