-- S24's bench figures of single definitions, and some more. `Figures` is the table; its one proof, by computation, is
-- proofs/Figures.antt. A double is written as the nearest to a fraction. Whole runs are in RunFigures.antt.
use Rattle.std.specs.Prelude.{ℕ, ◌^◌, ◌-◌, Bool, true, false, not, ◌&&◌, List, [], ◌∷◌, T, eqb, Float, Option, None, Some}
use Rattle.std.specs.Float.{inf, binary64}
use Rattle.std.specs.Float.Ieee.{round, neg, to_bits}
use Rattle.root.specs.Root.{root_of}
use Rattle.numeric.specs.Numeric.{zero64}
use Rattle.matrix.specs.Matrix.{Inverted, inverse, non_finite, rank_deficient, inverse_of, column_condition_of}
use Rattle.matrix.specs.declared.Symmetric2.{Symmetric2}
use Rattle.interval.specs.declared.GaussianIntervalV1.{GaussianIntervalV1}
use Rattle.criteria.specs.Criteria.{material_of, at_bound_of}
use Rattle.definition.specs.Request.{Observation, Requested, Measured}
use Rattle.definition.specs.Likelihood.{chi_square_of, objective_of}
use Rattle.definition.specs.Summary.{interval95, is_outside}
use Rattle.definition.specs.declared.Point.{Point}
use Rattle.definition.specs.declared.TruingPriorsV1.{TruingPriorsV1}
use Rattle.definition.specs.declared.NormalPriorV1.{NormalPriorV1}

-- ---- doubles and small records

-- the double nearest to n/d, and to n
abbrev pub ratio : ℕ → ℕ → Float
ratio n d = round binary64 false n d

abbrev pub number : ℕ → Float
number n = round binary64 false n 1

abbrev pub minus_zero : Float
minus_zero = neg zero64

abbrev pub symmetric : Float → Float → Float → Symmetric2
symmetric a b c = record { a00 = a; a01 = b; a11 = c }

abbrev pub point : Float → Float → Point
point mv bc = record { mv = mv; bc = bc }

abbrev pub observed : ℕ → Float → Float → Observation
observed range d sigma = record { range_yd = number range; drop = d; sigma = sigma }

abbrev pub normal : Float → Float → Option NormalPriorV1
normal mean sigma = Some (record { mean = mean; sigma = sigma })

abbrev pub priors : Option NormalPriorV1 → Option NormalPriorV1 → TruingPriorsV1
priors mv bc = record { muzzle_velocity_fps = mv; ballistic_coefficient = bc }

abbrev pub measured : Float → Float → List Observation → TruingPriorsV1 → Measured
measured mv bc obs q = record { entered = point mv bc; observations = obs; priors = q }

abbrev pub requested : ℕ → Requested
requested range = record { range_yd = number range; future_observation_sigma = None }

abbrev pub deviation : Option GaussianIntervalV1 → Option Float
deviation None = None
deviation (Some g) = Some g.standard_deviation

-- distances 100 and 200
abbrev pub first_two : List Observation
first_two = observed 100 (number 10) (number 100) ∷ observed 200 (number 20) (number 1) ∷ []

abbrev pub ten_twenty : List Observation
ten_twenty = observed 100 (number 10) (number 2) ∷ observed 200 (number 20) (number 1) ∷ []

-- drops 0 and 0
abbrev pub two_zeros : List Observation
two_zeros = observed 100 zero64 (number 1) ∷ observed 200 zero64 (number 1) ∷ []

-- ---- tests of equality; one not-a-number equals another, and −0 is not 0

infix 40 ◌is◌
abbrev pub ◌is◌ : Float → Float → Bool
x is y = eqb (to_bits binary64 x) (to_bits binary64 y)

module _ {A : Type 0} (same : A → A → Bool) where
  abbrev pub same_option : Option A → Option A → Bool
  same_option None None = true
  same_option None (Some b) = false
  same_option (Some a) None = false
  same_option (Some a) (Some b) = same a b

  abbrev pub same_list : List A → List A → Bool
  same_list [] [] = true
  same_list [] (b ∷ ys) = false
  same_list (a ∷ xs) [] = false
  same_list (a ∷ xs) (b ∷ ys) = same a b && same_list xs ys

abbrev pub same_point : Point → Point → Bool
same_point p q = p.mv is q.mv && p.bc is q.bc

abbrev pub same_inverse : Inverted → Inverted → Bool
same_inverse non_finite non_finite = true
same_inverse non_finite rank_deficient = false
same_inverse non_finite (inverse t l) = false
same_inverse rank_deficient non_finite = false
same_inverse rank_deficient rank_deficient = true
same_inverse rank_deficient (inverse t l) = false
same_inverse (inverse s k) non_finite = false
same_inverse (inverse s k) rank_deficient = false
same_inverse (inverse s k) (inverse t l) = s.a00 is t.a00 && (s.a01 is t.a01 && (s.a11 is t.a11 && k is l))

-- ---- S24's bench figures of single definitions, and some more

pub record Figures : Type 0 where
  -- (4, 0, 1), (1, 1, 1), (1, 0, 2^-39) and (1, 0, 2^-40)
  pub inverse_4 : T (same_inverse (inverse_of (symmetric (number 4) zero64 (number 1))) (inverse (symmetric (ratio 1 4) minus_zero (number 1)) (number 4)))
  pub inverse_singular : T (same_inverse (inverse_of (symmetric (number 1) (number 1) (number 1))) rank_deficient)
  pub inverse_39 :
      T (same_inverse (inverse_of (symmetric (number 1) zero64 (ratio 1 (2 ^ 39))))
      (inverse (symmetric (number 1) minus_zero (number (2 ^ 39))) (number 549755813888)))
  pub inverse_40 : T (same_inverse (inverse_of (symmetric (number 1) zero64 (ratio 1 (2 ^ 40)))) rank_deficient)
  -- from 1 to 1 − 2^-26, to 1 − 2^-27, and from 1e-8 to 0
  pub material_26 : T (material_of (number 1) (ratio (2 ^ 26 - 1) (2 ^ 26)))
  pub material_27 : T (not (material_of (number 1) (ratio (2 ^ 27 - 1) (2 ^ 27))))
  pub material_level : T (not (material_of (ratio 1 100000000) zero64))
  -- column condition of (4, 2, 4) and (0, 0, 1)
  pub column_3 : T (column_condition_of (symmetric (number 4) (number 2) (number 4)) is number 3)
  pub column_infinite : T (column_condition_of (symmetric zero64 zero64 (number 1)) is inf false)
  -- drops 10, 20, sigmas 2, 1, replies 14, 19; then with prior mean 2000, sigma 50 at 2100
  pub sum_5 : T (chi_square_of ten_twenty (number 14 ∷ number 19 ∷ []) is number 5)
  pub sum_9 :
      T (objective_of (measured (number 2000) (ratio 3 10) ten_twenty (priors (normal (number 2000) (number 50)) None)) (point (number 2100) (ratio 3 10))
      (number 14 ∷ number 19 ∷ [])
      is number 9)
  -- one sum: 2 and 2^-52 and 2^-52 is 2, where 2 and a penalty of 2^-51 would be more
  pub sum_in_order :
      T (objective_of (measured (number 2000) (number 1) two_zeros (priors (normal (number 1999) (number (2 ^ 26))) (normal (ratio 1 2) (number (2 ^ 25)))))
      (point (number 2000) (number 1)) (number 1 ∷ number 1 ∷ [])
      is number 2)
  -- variances 4, −0 and −1
  pub deviation_2 : T (same_option ◌is◌ (deviation (interval95 (number 10) (number 4))) (Some (number 2)))
  pub deviation_minus_0 : T (same_option ◌is◌ (deviation (interval95 (number 10) minus_zero)) (Some minus_zero))
  pub deviation_none : T (same_option ◌is◌ (deviation (interval95 (number 10) (neg (number 1)))) None)
  -- the root of 2^-1074
  pub root_least : T (root_of (ratio 1 (2 ^ 1074)) is ratio 1 (2 ^ 537))
  -- 1000.003 is near the bound, 1000.005 is not
  pub bound_near : T (at_bound_of (ratio 1000003 1000) (ratio 3 10))
  pub bound_apart : T (not (at_bound_of (ratio 1000005 1000) (ratio 3 10)))
  -- a distance equal to the nearest or the farthest observation is not outside
  pub outside_not_nearest : T (not (is_outside first_two (requested 100)))
  pub outside_not_farthest : T (not (is_outside first_two (requested 200)))
  pub outside_nearer : T (is_outside first_two (requested 99))
  pub outside_farther : T (is_outside first_two (requested 201))
