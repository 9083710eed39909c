-- What the numbers of a fit stand for: what is left of the run, for every request.
use Rattle.std.specs.Prelude.{ℕ, ◌-◌, ◌≡◌, List, Float, None}
use Rattle.numeric.specs.Numeric.{zero64}
use Rattle.matrix.specs.declared.Symmetric2.{Symmetric2}
use Rattle.definition.specs.Request.{Requested, Measured}
use Rattle.definition.specs.Run.{Run, bind}
use Rattle.definition.specs.Likelihood as likelihood
use Rattle.definition.specs.Constants.{first_damping}
use Rattle.definition.specs.Mesh as mesh
use Rattle.definition.specs.Fit as fit
use Rattle.definition.specs.Summary.{Finished}
use Rattle.definition.specs.Whole as whole
use Rattle.definition.specs.declared.Point.{Point}
use Rattle.definition.specs.declared.Evaluation.{Evaluation}
use Rattle.definition.specs.Meaning.{convergence_of}
use Rattle.objective_mesh.specs.Meaning.{pass_of, poll_of, seen_within}
use Rattle.objective_mesh.specs.declared.Poll.{Poll}
use Rattle.fitting.specs.declared.Progress.{Progress}
use Rattle.fitting.specs.declared.Stage.{Stage}
use Rattle.fitting.specs.declared.Wait.{Wait}
use Rattle.fitting.specs.declared.Moved.{Moved}

-- the iterations begun: those of the 100 that are not left
abbrev pub iterations_of : Progress → ℕ
iterations_of g = 100 - g.left

-- The iterations left: those of the 100 that are not begun. So a `Progress` with more than 100 left, which no step makes, stands for one with 100 left.
abbrev pub left_of : Progress → ℕ
left_of g = 100 - iterations_of g

-- the fit, once it has ended
abbrev pub fit_of : Progress → fit.Fit
fit_of g = record { point = g.point; iterations = iterations_of g; convergence = convergence_of g.convergence; evaluations = g.evaluations }

module _ (m : Measured) (ds : List Requested) (g : Progress) where
  -- the iterations after this one
  abbrev pub onward : Point → Float → Float → Run fit.Fit
  onward q value damping = fit.iterate m (left_of g) q value damping (iterations_of g)

  abbrev pub trials_left : ℕ → Float → Run fit.Trial
  trials_left left damping = fit.trials m g.point g.current g.evaluation left damping

  -- what follows the damping trials, and the poll
  abbrev pub after_trials : fit.Trial → Run Finished
  after_trials t = bind (fit.on_trial m onward (fit.verify m g.point g.current (iterations_of g)) t) (whole.fitted m ds)

  abbrev pub after_poll : mesh.Poll → Run Finished
  after_poll r = whole.fitted m ds (fit.polled (iterations_of g) r)

  -- what follows the rows of an evaluation
  abbrev pub after_rows : Stage → likelihood.Rows → Run Finished
  after_rows Stage.Iteration rows = bind (fit.evaluated m onward g.point g.current g.damping (iterations_of g) rows) (whole.fitted m ds)
  after_rows Stage.Final rows = bind (fit.verified m g.point g.current (iterations_of g) rows) (whole.fitted m ds)
  after_rows Stage.Mesh rows = bind (fit.meshed m g.point g.current (iterations_of g) rows) (whole.fitted m ds)
  after_rows Stage.AtFit rows = whole.banded m ds (fit_of g) (likelihood.evaluation_of m g.point rows) rows.predicted

  -- what follows an objective at a candidate
  abbrev pub after_trial : Point → Float → Run Finished
  after_trial q value = bind (fit.tried m g.point g.current g.evaluation (trials_left g.trials) g.damping q value) after_trials

  -- A pass whose 1,024 evaluations are used up stays as it is, and the poll ends with it.
  abbrev pub after_look : Point → Float → Run Finished
  after_look c value = bind (mesh.poll m (1023 - g.pass.evaluations) (seen_within c value (pass_of g.pass))) after_poll

  -- what is left of the run
  abbrev pub rest_of : Wait → Run Finished
  rest_of (Wait.Evaluation stage) = bind (likelihood.evaluate g.point) (after_rows stage)
  rest_of (Wait.Trial q) = bind (likelihood.objective m q) (after_trial q)
  rest_of (Wait.Look c) = bind (likelihood.objective m c) (after_look c)

abbrev pub Continuation : Type 0
Continuation = Measured → List Requested → Run Finished

-- The answer to a step stands for this rest of the run, whatever was requested.
-- What of its numbers the rest does not read is free: a pass outside a poll, an evaluation and a count of trials outside the damping trials, a verification
-- before the fit has ended.
pub record Moves (r : Moved) (t : Continuation) : Type 0 where
  pub leads : (m : Measured) (ds : List Requested) → rest_of m ds r.progress r.wait ≡ t m ds

-- the same of what follows rows that come to this evaluation
pub record AfterRows (g : Progress) (r : Moved) (stage : Stage) (e : Evaluation) : Type 0 where
  pub leads : (m : Measured) (ds : List Requested) (rows : likelihood.Rows) → likelihood.evaluation_of m g.point rows ≡ e
      → rest_of m ds r.progress r.wait ≡ after_rows m ds g stage rows

abbrev pub found_at : Progress → Continuation
found_at g m ds = whole.fitted m ds (fit_of g)

abbrev pub flat_at : Progress → Continuation
flat_at g m ds = whole.fitted m ds (fit.found g.point (iterations_of g) mesh.scaled_gradient)

abbrev pub iteration_at : Progress → Continuation
iteration_at g m ds = bind (fit.iterate m (left_of g) g.point g.current g.damping (iterations_of g)) (whole.fitted m ds)

abbrev pub candidate_at : Progress → Continuation
candidate_at g m ds = bind (trials_left m ds g g.trials g.damping) (after_trials m ds g)

abbrev pub polled_at : Progress → Poll → Continuation
polled_at g r m ds = after_poll m ds g (poll_of r)

abbrev pub poll_at : Progress → Continuation
poll_at g m ds = bind (mesh.poll m (1024 - g.pass.evaluations) (pass_of g.pass)) (after_poll m ds g)

abbrev pub start_at : Point → Float → Continuation
start_at entered value m ds = bind (fit.iterate m 100 entered value first_damping 0) (whole.fitted m ds)

-- an evaluation that is not there yet: all zero
abbrev pub no_information : Symmetric2
no_information = record { a00 = zero64; a01 = zero64; a11 = zero64 }

abbrev pub no_evaluation : Evaluation
no_evaluation = record {
  data_information = no_information;
  posterior_information = no_information;
  gradient_mv = zero64;
  gradient_bc = zero64;
  chi_square = zero64;
  prior_penalty = zero64;
  bc_sensitivity_ratio = zero64;
  data_condition_number = zero64;
}

-- What a fit holds before its first objective is there: the entered point, every iteration and every trial left, and zeros.
pub record Blank (entered : Point) (r : Progress) : Type 0 where
  pub point : r.point ≡ entered
  pub current : r.current ≡ zero64
  pub damping : r.damping ≡ first_damping
  pub left : r.left ≡ 100
  pub trials : r.trials ≡ 30
  pub evaluation : r.evaluation ≡ no_evaluation
  pub pass : pass_of r.pass ≡ mesh.first_pass no_information entered zero64
  pub convergence : r.convergence ≡ None
  pub evaluations : r.evaluations ≡ 0
