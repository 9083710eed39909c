-- `objective`, `truing_jacobian_rows`, `evaluate`.
use Rattle.std.specs.Prelude.{ℕ, cond, List, Float, Option, None, Some}
use Rattle.std.specs.Float.Ieee.{lt}
use Rattle.root.specs.Root.{root_of}
use Rattle.numeric.specs.Numeric.{zero64, two64, finite, max_of}
use Rattle.matrix.specs.Matrix.{sum_of, column_condition_of}
use Rattle.matrix.specs.declared.Symmetric2.{Symmetric2}
use Rattle.definition.specs.Constants.{◌⊕◌, ◌⊖◌, ◌⊗◌, ◌⊘◌, squared, mv_scale, bc_scale, step_fraction, least_mv_step, least_bc_step}
use Rattle.definition.specs.Lists.{first_of, fold_pairs, zip_with, zip_with3}
use Rattle.definition.specs.Request.{Observation, Measured}
use Rattle.definition.specs.Run.{Run, done, ◌>>=◌, ◌>>◌, Which, shots, Reading, read, unless, require}
use Rattle.definition.specs.declared.Point.{Point}
use Rattle.definition.specs.declared.TruingPriorsV1.{TruingPriorsV1}
use Rattle.definition.specs.declared.NormalPriorV1.{NormalPriorV1}
use Rattle.definition.specs.declared.Row.{Row}
use Rattle.definition.specs.declared.Sums.{Sums}
use Rattle.definition.specs.declared.Evaluation.{Evaluation}

-- ---- the objective

-- (predicted − measured) / sigma
abbrev pub standardized : Float → Float → Float → Float
standardized predicted measured sigma = (predicted ⊖ measured) ⊘ sigma

abbrev pub with_shot : Float → Observation → Float → Float
with_shot s o predicted = s ⊕ squared (standardized predicted o.drop o.sigma)

-- chi-square: the squared standardized residuals, summed from the first
unfoldable pub chi_square_of : List Observation → List Float → Float
chi_square_of obs drops = fold_pairs with_shot zero64 obs drops

-- a sum with the prior's squared standardized distance added, where there is a prior
unfoldable pub with_prior_of : Option NormalPriorV1 → Float → Float → Float
with_prior_of None x s = s
with_prior_of (Some q) x s = s ⊕ squared (standardized x q.mean q.sigma)

-- speed first
unfoldable pub with_priors_of : TruingPriorsV1 → Point → Float → Float
with_priors_of q p s = with_prior_of q.ballistic_coefficient p.bc (with_prior_of q.muzzle_velocity_fps p.mv s)

-- one sum, from the observations on through the priors: not chi-square plus penalty, which associates differently
abbrev pub objective_of : Measured → Point → List Float → Float
objective_of m p drops = with_priors_of m.priors p (chi_square_of m.observations drops)

-- what a reply at the observations makes of the objective: a gap is judged before the sum
unfoldable pub valued : Measured → Point → Reading → Run Float
valued m p r = do
  unless r.gap 11
  let s = objective_of m p r.drops in do
    require (finite s) 12 0
    done s

unfoldable pub objective : Measured → Point → Run Float
objective m p = do
  r ← read p shots
  valued m p r

-- ---- the five questions and their rows

unfoldable pub mv_step_of : Float → Float
mv_step_of mv = max_of (mv ⊗ step_fraction) least_mv_step

unfoldable pub bc_step_of : Float → Float
bc_step_of bc = max_of (bc ⊗ step_fraction) least_bc_step

-- the nominal drops, the slopes by speed and by coefficient, and the first position with a gap in any of the five, 0 for none
pub record Rows : Type 0 where
  pub predicted : List Float
  pub by_mv : List Float
  pub by_bc : List Float
  pub gap : ℕ

-- a slope: (plus − minus) / (2 · step)
abbrev pub slope : Float → Float → Float → Float
slope step plus minus = (plus ⊖ minus) ⊘ (two64 ⊗ step)

abbrev pub slopes : Float → List Float → List Float → List Float
slopes step plus minus = zip_with (slope step) plus minus

-- the four points beside the nominal one
unfoldable pub mv_plus_at : Point → Point
mv_plus_at p = record { mv = p.mv ⊕ mv_step_of p.mv; bc = p.bc }

unfoldable pub mv_minus_at : Point → Point
mv_minus_at p = record { mv = p.mv ⊖ mv_step_of p.mv; bc = p.bc }

unfoldable pub bc_plus_at : Point → Point
bc_plus_at p = record { mv = p.mv; bc = p.bc ⊕ bc_step_of p.bc }

unfoldable pub bc_minus_at : Point → Point
bc_minus_at p = record { mv = p.mv; bc = p.bc ⊖ bc_step_of p.bc }

-- The five, from the last back to the first: each is what is left to do once the drops before it are there.
-- All five come before a gap is judged.
unfoldable pub bc_minus : Point → Which → List Float → List Float → List Float → ℕ → Run Rows
bc_minus p w nominal by_mv plus gap = do
  r ← read (bc_minus_at p) w
  done (record { predicted = nominal; by_mv = by_mv; by_bc = slopes (bc_step_of p.bc) plus r.drops; gap = first_of gap r.gap })

unfoldable pub bc_plus : Point → Which → List Float → List Float → ℕ → Run Rows
bc_plus p w nominal by_mv gap = do
  r ← read (bc_plus_at p) w
  bc_minus p w nominal by_mv r.drops (first_of gap r.gap)

unfoldable pub mv_minus : Point → Which → List Float → List Float → ℕ → Run Rows
mv_minus p w nominal plus gap = do
  r ← read (mv_minus_at p) w
  bc_plus p w nominal (slopes (mv_step_of p.mv) plus r.drops) (first_of gap r.gap)

unfoldable pub mv_plus : Point → Which → List Float → ℕ → Run Rows
mv_plus p w nominal gap = do
  r ← read (mv_plus_at p) w
  mv_minus p w nominal r.drops (first_of gap r.gap)

unfoldable pub truing_jacobian_rows : Point → Which → Run Rows
truing_jacobian_rows p w = do
  r ← read p w
  mv_plus p w r.drops r.gap

-- ---- the evaluation

abbrev pub row_of : Float → Float → Float → Row
row_of predicted by_mv by_bc = record { predicted_drop = predicted; d_drop_d_mv = by_mv; d_drop_d_bc = by_bc }

abbrev pub rows_of : Rows → List Row
rows_of r = zip_with3 row_of r.predicted r.by_mv r.by_bc

abbrev pub no_sums : Sums
no_sums = record { a00 = zero64; a01 = zero64; a11 = zero64; gradient_mv = zero64; gradient_bc = zero64; chi_square = zero64; fractional_mv = zero64; fractional_bc = zero64 }

-- one observation more: the two scaled columns j, and the fractional sensitivities at the point
unfoldable pub accumulate_of : Point → Sums → Float → Float → Row → Sums
accumulate_of p s measured sigma r =
    let z = standardized r.predicted_drop measured sigma in
    let jMv = r.d_drop_d_mv ⊗ mv_scale ⊘ sigma in
    let jBc = r.d_drop_d_bc ⊗ bc_scale ⊘ sigma in
    record {
      a00 = s.a00 ⊕ jMv ⊗ jMv;
      a01 = s.a01 ⊕ jMv ⊗ jBc;
      a11 = s.a11 ⊕ jBc ⊗ jBc;
      gradient_mv = s.gradient_mv ⊕ jMv ⊗ z;
      gradient_bc = s.gradient_bc ⊕ jBc ⊗ z;
      chi_square = s.chi_square ⊕ z ⊗ z;
      fractional_mv = s.fractional_mv ⊕ squared (r.d_drop_d_mv ⊗ p.mv ⊘ sigma);
      fractional_bc = s.fractional_bc ⊕ squared (r.d_drop_d_bc ⊗ p.bc ⊘ sigma);
    }

abbrev pub with_row : Point → Sums → Observation → Row → Sums
with_row p s o r = accumulate_of p s o.drop o.sigma r

unfoldable pub sums_of : Point → List Observation → List Row → Sums
sums_of p obs rows = fold_pairs (with_row p) no_sums obs rows

-- what a prior adds to a diagonal entry of the information, and to its entry of the gradient; j is the coordinate's scale over the prior's sigma
unfoldable pub prior_information_of : Option NormalPriorV1 → Float → Float
prior_information_of None scale = zero64
prior_information_of (Some q) scale = let j = scale ⊘ q.sigma in zero64 ⊕ j ⊗ j

unfoldable pub with_prior_gradient_of : Option NormalPriorV1 → Float → Float → Float → Float
with_prior_gradient_of None scale x g = g
with_prior_gradient_of (Some q) scale x g = g ⊕ (scale ⊘ q.sigma) ⊗ standardized x q.mean q.sigma

-- the fractional sensitivity of the coefficient over that of the speed; 0 where that of the speed is not above 0
unfoldable pub sensitivity_ratio_of : Float → Float → Float
sensitivity_ratio_of mv bc = cond (lt zero64 mv) (root_of (bc ⊘ mv)) zero64

-- the sums with the priors
unfoldable pub from_sums : TruingPriorsV1 → Point → Sums → Evaluation
from_sums q p s =
    let mvPrior = q.muzzle_velocity_fps in
    let bcPrior = q.ballistic_coefficient in
    let data0 : Symmetric2 = record { a00 = s.a00; a01 = s.a01; a11 = s.a11 } in
    let prior : Symmetric2 = record { a00 = prior_information_of mvPrior mv_scale; a01 = zero64; a11 = prior_information_of bcPrior bc_scale } in
    record {
      data_information = data0;
      posterior_information = sum_of data0 prior;
      gradient_mv = with_prior_gradient_of mvPrior mv_scale p.mv s.gradient_mv;
      gradient_bc = with_prior_gradient_of bcPrior bc_scale p.bc s.gradient_bc;
      chi_square = s.chi_square;
      prior_penalty = with_priors_of q p zero64;
      bc_sensitivity_ratio = sensitivity_ratio_of s.fractional_mv s.fractional_bc;
      data_condition_number = column_condition_of data0;
    }

abbrev pub evaluation_of : Measured → Point → Rows → Evaluation
evaluation_of m p r = from_sums m.priors p (sums_of p m.observations (rows_of r))

-- rows without a gap; a gap is refused by this number
unfoldable pub complete : ℕ → Rows → Run Rows
complete number r = do
  unless r.gap number
  done r

-- the five questions at the observations, and then the first gap
unfoldable pub evaluate : Point → Run Rows
evaluate p = do
  r ← truing_jacobian_rows p shots
  complete 11 r
