-- Ranges of a report's numbers: `correlation_range`, `effective_count_range`. Assumes nothing.
use Rattle.std.specs.Prelude.{Option, None, Some}
use mathlib.Core.Path.{◌≡◌, refl, subst}
use mathlib.Core.Bool.{Bool, true, false, cond, not}
use mathlib.Core.Logic.{◌⊎◌}
use lib.Ieee.{Float, nan, inf, fin, neg, le, is_nan, of_bits}
use Rattle.numeric.specs.Numeric.{zero64, one64, two64, finite}
use Rattle.numeric.proofs.Order.{clamp_between, clamp_range}
use Rattle.matrix.specs.Matrix.{Inverted, inverse, non_finite, rank_deficient, inverse_of}
use Rattle.matrix.specs.declared.Symmetric2.{Symmetric2}
use Rattle.interval.specs.declared.GaussianIntervalV1.{GaussianIntervalV1}
use Rattle.criteria.specs.Criteria.{at_bound_of}
use Rattle.definition.specs.Summary.{interval95, Approximation, available, unavailable, covariance_of, correlation_of, with_intervals, with_inverse}
use Rattle.definition.specs.Summary.{build_approximation_of, approximation_of, effective_count_of, effective_count, diagnostics_of, report_of}
use Rattle.definition.specs.Laws.{Between, CorrelationRange, EffectiveCountRange}
use Rattle.definition.specs.declared.Point.{Point}

finite_number : (x : Float) → finite x ≡ true → is_nan x ≡ false
unfolding finite is_nan
finite_number nan h = cc
finite_number (inf s) h = refl
finite_number (fin s m e) h = refl

-- ---- the correlation

ends_in_order : le (neg one64) one64 ≡ true
unfolding le neg of_bits
ends_in_order = refl

-- what holds of the correlation, where there is one
abbrev Sound : Approximation → Type 0
Sound (available g q) = Between (neg one64) one64 g.mv_bc_correlation
Sound (unavailable code) = Unit {0}

sound_if : (b : Bool) (a c : Approximation) → (b ≡ true → Sound a) → (b ≡ false → Sound c) → Sound (cond b a c)
sound_if true a c h k = h refl
sound_if false a c h k = k refl

intervals_sound : (q : Symmetric2) (condition : Float) (mv bc : Option GaussianIntervalV1) → Sound (with_intervals q condition mv bc)
intervals_sound q condition None bc = tt
intervals_sound q condition (Some mv) None = tt
intervals_sound q condition (Some mv) (Some bc) =
    let r = correlation_of (covariance_of q) in
    sound_if (finite r) _ _ (λ h. clamp_between r (neg one64) one64 (finite_number r h) ends_in_order) (λ h. tt)

inverse_sound : (p : Point) (i : Inverted) → Sound (with_inverse p i)
inverse_sound p non_finite = tt
inverse_sound p rank_deficient = tt
inverse_sound p (inverse q condition) =
    intervals_sound q condition (interval95 p.mv (covariance_of q).mv_variance_fps2) (interval95 p.bc (covariance_of q).bc_variance)

approximation_sound : (verified : Bool) (p : Point) (information : Symmetric2) → Sound (approximation_of verified p information)
unfolding approximation_of build_approximation_of
approximation_sound verified p information =
    sound_if (not verified) _ _ (λ h. tt) (λ h. sound_if (at_bound_of p.mv p.bc) _ _ (λ k. tt) (λ k. inverse_sound p (inverse_of information)))

pub correlation_range : CorrelationRange
unfolding report_of
correlation_range c g q e = subst Sound e (approximation_sound _ _ _)

-- ---- the effective count

zero_below_two : le zero64 two64 ≡ true
unfolding le of_bits
zero_below_two = refl

abbrev SoundCount : Option Float → Type 0
SoundCount None = Unit {0}
SoundCount (Some x) = (x ≡ nan) ⊎ Between zero64 two64 x

count_sound : (d : Symmetric2) (a : Approximation) → SoundCount (effective_count d a)
unfolding effective_count_of
count_sound d (available g q) = clamp_range _ zero64 two64 zero_below_two
count_sound d (unavailable code) = tt

pub effective_count_range : EffectiveCountRange
unfolding report_of diagnostics_of
effective_count_range c count e = subst SoundCount e (count_sound c.evaluation.data_information (report_of c).approximation)
