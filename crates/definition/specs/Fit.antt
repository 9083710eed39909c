-- S15's `fit_map`: damped Gauss-Newton steps from the entered point, then a check of the gradient, then the poll.
use Rattle.std.specs.Prelude.{ℕ, zero, suc, Bool, cond, not, ◌||◌, Float}
use Rattle.std.specs.Float.Ieee.{neg, lt, le}
use Rattle.numeric.specs.Numeric.{half64, finite, abs_of, max_of}
use Rattle.matrix.specs.Matrix.{determinant_of}
use Rattle.matrix.specs.declared.Symmetric2.{Symmetric2}
use Rattle.criteria.specs.Criteria.{material_of}
use Rattle.definition.specs.Constants.{◌⊕◌, ◌⊖◌, ◌⊗◌, ◌⊘◌, four, ten, mv_scale, bc_scale, first_damping, least_damping, least_diagonal, least_determinant}
use Rattle.definition.specs.Constants.{flat_gradient}
use Rattle.definition.specs.Request.{Measured}
use Rattle.definition.specs.Run.{Run, done, ◌>>=◌}
use Rattle.definition.specs.Likelihood.{objective, evaluate, evaluation_of, Rows}
use Rattle.definition.specs.Mesh.{Convergence, scaled_gradient, Poll, poll, first_pass, bounded_of}
use Rattle.definition.specs.declared.Point.{Point}
use Rattle.definition.specs.declared.Evaluation.{Evaluation}

-- ---- a step

-- a diagonal entry with its damping
unfoldable pub damped_of : Float → Float → Float
damped_of damping a = a ⊕ damping ⊗ max_of a least_diagonal

abbrev pub damped : Float → Symmetric2 → Symmetric2
damped damping s = record { a00 = damped_of damping s.a00; a01 = s.a01; a11 = damped_of damping s.a11 }

-- S15's "the determinant is unfit": not finite, or its size below 1e-24
unfoldable pub unfit_of : Float → Bool
unfit_of d = not (finite d) || lt (abs_of d) least_determinant

-- the step that solves the damped equations, as a point of the fit
unfoldable pub stepped_of : Point → Symmetric2 → Float → Float → Float → Point
stepped_of p d determinant gMv gBc =
    let mv = neg (d.a11 ⊗ gMv ⊖ d.a01 ⊗ gBc) ⊘ determinant in
    let bc = neg (neg d.a01 ⊗ gMv ⊕ d.a00 ⊗ gBc) ⊘ determinant in
    bounded_of (p.mv ⊕ mv_scale ⊗ mv) (p.bc ⊕ bc_scale ⊗ bc)

-- a damped step: none where the determinant is unfit
pub data Step : Type 0 where
  unfit : Step
  to : Point → Step

unfoldable pub step_of : Point → Evaluation → Float → Step
step_of p e damping =
    let d = damped damping e.posterior_information in
    let determinant = determinant_of d in
    cond (unfit_of determinant) unfit (to (stepped_of p d determinant e.gradient_mv e.gradient_bc))

-- the damping after an acceptance, a rejection, and where the determinant is unfit
unfoldable pub lowered_of : Float → Float
lowered_of damping = max_of (damping ⊗ half64) least_damping

abbrev pub raised : Float → Float
raised damping = damping ⊗ four

abbrev pub raised_far : Float → Float
raised_far damping = damping ⊗ ten

-- S15's "flat": the larger absolute gradient entry is at most 1e-6. A not-a-number loses to a number.
unfoldable pub gradient_norm_of : Evaluation → Float
gradient_norm_of e = max_of (abs_of e.gradient_mv) (abs_of e.gradient_bc)

unfoldable pub flat_of : Evaluation → Bool
flat_of e = le (gradient_norm_of e) flat_gradient

-- ---- the fit

pub record Fit : Type 0 where
  pub point : Point
  pub iterations : ℕ
  pub convergence : Convergence
  pub evaluations : ℕ

-- what the damping trials of one iteration come to: a point with its objective and the damping to go on with, or none
pub data Trial : Type 0 where
  accepted : Point → Float → Float → Trial
  exhausted : Trial

module _ (m : Measured) (p : Point) (current : Float) (e : Evaluation) where
  -- the candidate's objective is there
  abbrev pub tried : (Float → Run Trial) → Float → Point → Float → Run Trial
  tried further damping q value = cond (material_of current value) (done (accepted q value (lowered_of damping))) (further (raised damping))

  -- where the determinant is unfit nothing is asked, and it counts as a trial
  abbrev pub on_step : (Float → Run Trial) → Float → Step → Run Trial
  on_step further damping unfit = further (raised_far damping)
  on_step further damping (to q) = do
    value ← objective m q
    tried further damping q value

  -- at most so many damping trials
  unfoldable pub trials : ℕ → Float → Run Trial
  trials zero damping = done exhausted
  trials (suc left) damping = on_step (trials left) damping (step_of p e damping)

abbrev pub found : Point → ℕ → Convergence → Fit
found p iterations convergence = record { point = p; iterations = iterations; convergence = convergence; evaluations = 0 }

abbrev pub polled : ℕ → Poll → Fit
polled iterations r = record { point = r.point; iterations = iterations; convergence = r.convergence; evaluations = r.evaluations }

module _ (m : Measured) where
  -- the poll's own evaluation gives its directions
  unfoldable pub meshed : Point → Float → ℕ → Rows → Run Fit
  meshed p current iterations rows = do
    r ← poll m 1024 (first_pass (evaluation_of m p rows).posterior_information p current)
    done (polled iterations r)

  -- the gradient at the final point is judged once more
  unfoldable pub verified : Point → Float → ℕ → Rows → Run Fit
  verified p current iterations rows =
      cond (flat_of (evaluation_of m p rows)) (done (found p iterations scaled_gradient)) (do
        again ← evaluate p
        meshed p current iterations again)

  unfoldable pub verify : Point → Float → ℕ → Run Fit
  verify p current iterations = do
    rows ← evaluate p
    verified p current iterations rows

  abbrev pub on_trial : (Point → Float → Float → Run Fit) → Run Fit → Trial → Run Fit
  on_trial go none (accepted q value damping) = go q value damping
  on_trial go none exhausted = none

  -- the evaluation of an iteration is there
  unfoldable pub evaluated : (Point → Float → Float → Run Fit) → Point → Float → Float → ℕ → Rows → Run Fit
  evaluated go p current damping iterations rows =
      let e = evaluation_of m p rows in
      cond (flat_of e) (done (found p iterations scaled_gradient)) (do
        t ← trials m p current e 30 damping
        on_trial go (verify p current iterations) t)

  -- at most so many iterations more, from a point with its objective
  unfoldable pub iterate : ℕ → Point → Float → Float → ℕ → Run Fit
  iterate zero p current damping iterations = verify p current iterations
  iterate (suc left) p current damping iterations = do
    rows ← evaluate p
    evaluated (λ q value l. iterate left q value l (suc iterations)) p current damping (suc iterations) rows

  unfoldable pub fit_map : Run Fit
  fit_map = do
    current ← objective m m.entered
    iterate 100 m.entered current first_damping 0
