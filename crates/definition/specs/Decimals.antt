-- The constants and the decimals of the scope that they are nearest to, each decimal as a fraction. Theorem `nearest_to_decimals`, in proofs/Constants.antt:
-- each constant is the double that its decimal rounds to.
use Rattle.std.specs.Prelude.{ℕ, ◌^◌, Bool, true, false, ◌&&◌, List, [], ◌∷◌, T, eqb, Float}
use Rattle.std.specs.Float.{binary64}
use Rattle.std.specs.Float.Ieee.{round, to_bits}
use Rattle.numeric.specs.Numeric.{zero64, half64, one64, two64}
use Rattle.numeric.specs.Drop.{degrees_per_radian, mils_per_unit, minutes_per_degree, metres_per_inch}
use Rattle.matrix.specs.Matrix.{tolerance, correlation_tolerance}
use Rattle.interval.specs.Interval.{level95, factor95}
use Rattle.criteria.specs.Criteria.{mv_min, mv_max, bc_min, bc_max, improvement_tolerance, bound_tolerance}
use Rattle.definition.specs.Constants.{quarter, four, ten, mv_scale, bc_scale, step_fraction, least_mv_step, least_bc_step, first_damping, least_damping}
use Rattle.definition.specs.Constants.{least_diagonal, least_determinant, flat_gradient, first_radius, least_radius, variance_tolerance, least_sensitivity_ratio}
use Rattle.definition.specs.Constants.{largest_condition, prior_dominance, epsilon}

pub record Decimal : Type 0 where
  pub constant : Float
  pub numerator : ℕ
  pub denominator : ℕ

abbrev pub decimal : Float → ℕ → ℕ → Decimal
decimal x n d = record { constant = x; numerator = n; denominator = d }

abbrev pub decimals : List Decimal
decimals =
    decimal zero64 0 1
    ∷ decimal quarter 25 100
    ∷ decimal half64 5 10
    ∷ decimal one64 1 1
    ∷ decimal two64 2 1
    ∷ decimal four 4 1
    ∷ decimal ten 10 1
    -- the range of the fit
    ∷ decimal mv_min 1000 1
    ∷ decimal mv_max 5000 1
    ∷ decimal bc_min 5 100
    ∷ decimal bc_max 2 1
    ∷ decimal bound_tolerance 1 (10 ^ 6)
    -- scales and steps
    ∷ decimal mv_scale 100 1
    ∷ decimal bc_scale 1 10
    ∷ decimal step_fraction 1 (10 ^ 3)
    ∷ decimal least_mv_step 5 10
    ∷ decimal least_bc_step 1 (10 ^ 4)
    -- acceptance, damping and gradient
    ∷ decimal improvement_tolerance 1 (10 ^ 8)
    ∷ decimal first_damping 1 (10 ^ 6)
    ∷ decimal least_damping 1 (10 ^ 12)
    ∷ decimal least_diagonal 1 (10 ^ 12)
    ∷ decimal least_determinant 1 (10 ^ 24)
    ∷ decimal flat_gradient 1 (10 ^ 6)
    -- the poll
    ∷ decimal first_radius 1 (10 ^ 2)
    ∷ decimal least_radius 1 (10 ^ 7)
    -- the rank test of the inverse, the columns' condition, the bands' tolerance
    ∷ decimal tolerance 1 (10 ^ 12)
    ∷ decimal correlation_tolerance 1 (10 ^ 15)
    ∷ decimal variance_tolerance 1 (10 ^ 12)
    -- the intervals
    ∷ decimal level95 95 100
    ∷ decimal factor95 1959963984540054 (10 ^ 15)
    -- the warnings
    ∷ decimal least_sensitivity_ratio 2 10
    ∷ decimal largest_condition 1000 1
    ∷ decimal prior_dominance 8 10
    ∷ decimal epsilon 1 (2 ^ 52)
    -- the units of a drop; 180/π as Rust prints the double
    ∷ decimal mils_per_unit 1000 1
    ∷ decimal minutes_per_degree 60 1
    ∷ decimal metres_per_inch 254 (10 ^ 4)
    ∷ decimal degrees_per_radian 5729577951308232 (10 ^ 14)
    ∷ []

abbrev pub are_nearest : List Decimal → Bool
are_nearest [] = true
are_nearest (c ∷ cs) = eqb (to_bits binary64 c.constant) (to_bits binary64 (round binary64 false c.numerator c.denominator)) && are_nearest cs

abbrev pub NearestToDecimals : Type 0
NearestToDecimals = T (are_nearest decimals)
