-- The definition's warnings, by the numbers and the lists of numbers that the code reads; and that each occurs at most once, in the order of the source.
use mathlib.Core.Path.{◌≡◌, refl, ap}
use mathlib.Core.Bool.{Bool, true, false, ◌||◌}
use mathlib.Core.List.{List, [], ◌∷◌, map}
use native.Mathlib.Omega.{arith}
use lib.ListN.{length}
use lib.Ieee.{Float, inf, neg}
use Rattle.std.specs.List.{list_any}
use Rattle.definition.specs.Lists.{any}
use Rattle.definition.specs.Request.{Observation, Requested, Measured}
use Rattle.definition.specs.Fit.{Fit}
use Rattle.definition.specs.Meaning.{observations_of}
use Rattle.definition.specs.Summary.{Approximation, Diagnostics, ranges_of, observed_min, observed_max, is_outside, warnings_of}
use Rattle.definition.specs.declared.Evaluation.{Evaluation}
use Rattle.warnings.specs.Warnings.{codes, nearest_of, farthest_of, outside_of, ill_conditioned_of, mv_dominated_of, bc_dominated_of, interval_crosses_of}
use Rattle.warnings.specs.Warnings.{warnings_by}

-- `any` is the library's
pub any_listed : {A : Type 0} (t : A → Bool) (xs : List A) → any t xs ≡ list_any t xs
any_listed t [] = refl
any_listed t (x ∷ xs) = ap (λ b. t x || b) (any_listed t xs)

pub neg_infinity : neg (inf false) ≡ inf true
unfolding neg
neg_infinity = refl

-- the distances of observations that stand in three lists of one length
pub observed_ranges : (r d s : List Float) → length d ≡ length r → length s ≡ length r → ranges_of (observations_of r d s) ≡ r
observed_ranges [] d s e g = refl
observed_ranges (x ∷ r) [] s e g = absurd (omega arith)
observed_ranges (x ∷ r) (y ∷ d) [] e g = absurd (omega arith)
observed_ranges (x ∷ r) (y ∷ d) (z ∷ s) e g = ap (λ l. x ∷ l) (observed_ranges r d s (omega arith) (omega arith))

pub nearest_observed : (obs : List Observation) → observed_min obs ≡ nearest_of (ranges_of obs)
unfolding observed_min nearest_of
nearest_observed obs = refl

pub farthest_observed : (obs : List Observation) → observed_max obs ≡ farthest_of (ranges_of obs)
unfolding observed_max farthest_of
farthest_observed obs = refl

-- the requested distances as numbers
abbrev pub distances_of : List Requested → List Float
distances_of ds = map (λ d. d.range_yd) ds

pub outside_by : (obs : List Observation) (d : Requested) → is_outside obs d ≡ outside_of (observed_min obs) (observed_max obs) d.range_yd
unfolding outside_of
outside_by obs d = refl

pub any_outside_by :
    (obs : List Observation) (ds : List Requested) → any (is_outside obs) ds ≡ any (outside_of (observed_min obs) (observed_max obs)) (distances_of ds)
unfolding outside_of
any_outside_by obs [] = refl
any_outside_by obs (d ∷ ds) = ap (λ b. is_outside obs d || b) (any_outside_by obs ds)

pub warnings_by_lem :
    (m : Measured) (f : Fit) (e : Evaluation) (a : Approximation) (d : Diagnostics) (ds : List Requested)
    → warnings_of m f e a d ds ≡ warnings_by f.convergence e m.priors a d.effective_degrees_of_freedom (any (is_outside m.observations) ds)
unfolding warnings_of warnings_by codes ill_conditioned_of mv_dominated_of bc_dominated_of interval_crosses_of
warnings_by_lem m f e a d ds = refl
