-- Whole runs, told by how many questions they put and what they end in: S24's, and more that tell the definition from near misses of it. The tables
-- `RunFigures`, `OpeningFigures`, `EditFigures`, `ReportFigure`, `PollFigures`, `LimitFigures` and `CutFigure` have one proof each, by computation, in
-- proofs/Figures.antt.
use Rattle.std.specs.Prelude.{ℕ, zero, suc, ◌^◌, ◌*◌, Bool, true, false, cond, ◌&&◌, ◌||◌, List, [], ◌∷◌, T, eqb, Float, Option, None, Some}
use Rattle.std.specs.Bool.{beq}
use Rattle.std.specs.Float.{nan, inf, binary64}
use Rattle.std.specs.Float.Ieee.{is_nan, lt, eq, of_bits}
use Rattle.numeric.specs.Numeric.{zero64, max_of}
use Rattle.definition.specs.Constants.{◌⊕◌, ◌⊖◌, ◌⊗◌}
use Rattle.definition.specs.Request.{Observation, Requested, Measured, Opening}
use Rattle.definition.specs.Run.{Run, done, refuse, ask, bind, Entry, Reply, refused, entries, Which, shots, distances, new}
use Rattle.definition.specs.Mesh.{Poll, poll, first_pass}
use Rattle.definition.specs.Summary.{converged, Approximation, available, unavailable, Band, Baseline, Report, report_of}
use Rattle.definition.specs.Whole.{whole, Edit, put_in, take_out, exchange, edit}
use Rattle.definition.specs.Laws.{index_of}
use Rattle.interval.specs.declared.GaussianIntervalV1.{GaussianIntervalV1}
use Rattle.definition.specs.declared.Point.{Point}
use Rattle.definition.specs.declared.WeightedTruingObservationResultV1.{WeightedTruingObservationResultV1}
use Rattle.definition.specs.declared.TruingPriorsV1.{TruingPriorsV1}
use Rattle.definition.specs.declared.NormalPriorV1.{NormalPriorV1}
use Rattle.definition.specs.declared.TruingApproximationFailureCodeV1.{TruingApproximationFailureCodeV1}
use Rattle.definition.specs.declared.TruingApproximationFailureCodeV1.TheVariants as Failure
use Rattle.definition.specs.declared.TruingUncertaintyWarningCodeV1.{TruingUncertaintyWarningCodeV1}
use Rattle.definition.specs.declared.TruingUncertaintyWarningCodeV1.TheVariants as Warning
use Rattle.definition.specs.Figures.{ratio, number, minus_zero, symmetric, point, observed, normal, priors, measured, requested, first_two, two_zeros, ◌is◌}
use Rattle.definition.specs.Figures.{same_point, same_option, same_list}

-- an opening without priors
abbrev pub opening : Float → Float → List Observation → List Requested → Opening
opening mv bc obs ds = record { measured = measured mv bc obs (priors None None); requested = ds }

abbrev pub failure_index : TruingApproximationFailureCodeV1 → ℕ
failure_index Failure.OptimizerDidNotConverge = 0
failure_index Failure.MapAtParameterBound = 1
failure_index Failure.RankDeficientInformation = 2
failure_index Failure.NonFiniteInformation = 3

abbrev pub same_failure : TruingApproximationFailureCodeV1 → TruingApproximationFailureCodeV1 → Bool
same_failure a b = eqb (failure_index a) (failure_index b)

abbrev pub same_warning : TruingUncertaintyWarningCodeV1 → TruingUncertaintyWarningCodeV1 → Bool
same_warning a b = eqb (index_of a) (index_of b)

-- ---- a run told

-- a host that also sees how many questions were put before
abbrev pub Script : Type 0
Script = ℕ → Point → Which → Reply

-- how many questions were put, and how the run ended: what is looked at of its report, or the refusal's number and position
pub data Told (B : Type 0) : Type 0 where
  reported : ℕ → B → Told B
  declined : ℕ → ℕ → ℕ → Told B

module _ {A B : Type 0} (view : A → B) (host : Script) where
  abbrev pub tell_from : ℕ → Run A → Told B
  tell_from n (done c) = reported n (view c)
  tell_from n (refuse c i) = declined n c i
  tell_from n (ask p w k) = tell_from (suc n) (k (host n p w))

abbrev pub tell : {B : Type 0} → (Report → B) → Script → Opening → Told B
tell view host o = tell_from (λ c. view (report_of c)) host 0 (whole o)

module _ {B : Type 0} (same : B → B → Bool) where
  abbrev pub same_told : Told B → Told B → Bool
  same_told (reported m a) (reported n b) = eqb m n && same a b
  same_told (reported m a) (declined n c i) = false
  same_told (declined m d j) (reported n b) = false
  same_told (declined m d j) (declined n c i) = eqb m n && (eqb d c && eqb j i)

-- what is looked at of a report
pub record Brief : Type 0 where
  pub fit : Point
  pub iterations : ℕ
  pub is_converged : Bool
  pub evaluations : ℕ
  pub withheld : Option TruingApproximationFailureCodeV1
  pub warnings : List TruingUncertaintyWarningCodeV1

abbrev pub reason_of : Approximation → Option TruingApproximationFailureCodeV1
reason_of (available g q) = None
reason_of (unavailable code) = Some code

abbrev pub brief : Report → Brief
brief r = record {
  fit = r.point;
  iterations = r.iterations;
  is_converged = r.is_converged;
  evaluations = r.diagnostics.objective_poll_evaluations;
  withheld = reason_of r.approximation;
  warnings = r.warnings;
}

pub record Freedom : Type 0 where
  pub count : Option Float
  pub degrees : Option Float
  pub reduced : Option Float
  pub warnings : List TruingUncertaintyWarningCodeV1

abbrev pub freedom : Report → Freedom
freedom r = record {
  count = r.diagnostics.effective_parameter_count;
  degrees = r.diagnostics.effective_degrees_of_freedom;
  reduced = r.diagnostics.reduced;
  warnings = r.warnings;
}

abbrev pub same_brief : Brief → Brief → Bool
same_brief a b =
    same_point a.fit b.fit
    && (eqb a.iterations b.iterations
    && (beq a.is_converged b.is_converged
    && (eqb a.evaluations b.evaluations
    && (same_option same_failure a.withheld b.withheld && same_list same_warning a.warnings b.warnings))))

abbrev pub same_freedom : Freedom → Freedom → Bool
same_freedom a b =
    same_option ◌is◌ a.count b.count
    && (same_option ◌is◌ a.degrees b.degrees
    && (same_option ◌is◌ a.reduced b.reduced && same_list same_warning a.warnings b.warnings))

abbrev pub chi_of : Option Baseline → Option Float
chi_of None = None
chi_of (Some b) = Some b.chi_square

abbrev pub baseline_chi : Report → Option Float
baseline_chi r = chi_of r.baseline

-- ---- hosts and openings

abbrev pub both : Float → Float → Reply
both x y = entries (Some x ∷ Some y ∷ [])

-- drops 10 and 11, and every reply 10
abbrev pub bench : Float → Opening
bench mv = opening mv (ratio 3 10) (observed 100 (number 10) (number 1) ∷ observed 200 (number 11) (number 1) ∷ []) []

abbrev pub tens : Script
tens n p w = both (number 10) (number 10)

-- infinite beside the nominal speed: their difference is a not-a-number
abbrev pub infinite_beside : Script
infinite_beside n p w = cond (eq p.mv (number 2000)) (tens n p w) (both (inf false) (inf false))

abbrev pub zeros : Float → Float → Opening
zeros mv bc = opening mv bc two_zeros []

-- so large that the first step is a not-a-number
abbrev pub overflowing : Script
overflowing n p w =
    cond (is_nan p.mv) (both (number 1) (number 1))
    (cond (lt (number 2000) p.mv) (both (number (4 * 10 ^ 73)) (number (4 * 10 ^ 73)))
    (cond (lt p.mv (number 2000)) (both zero64 zero64)
    (cond (lt (ratio 3 10) p.bc) (both (number (6 * 10 ^ 72)) (number (3 * 10 ^ 72)))
    (cond (lt p.bc (ratio 3 10)) (both zero64 zero64) (both (number (10 ^ 150)) (number (10 ^ 150)))))))

-- At the lower bound of the speed, where two of the eight directions are always skipped: 1e6 off the bound, 0 and 20 at 1.5 + 0.0015 and 1.5 − 0.0015, and else
-- 10 + max(bc − k, 0). Here the doubles stand by their bits and the cases by clauses, which computes less: the run is long.
abbrev pub minus_step : Bool → Float → Point → Reply
minus_step true k p = let x = of_bits binary64 0x4034_0000_0000_0000 in both x x
minus_step false k p = let x = of_bits binary64 0x4024_0000_0000_0000 ⊕ max_of (p.bc ⊖ k) zero64 in both x x

abbrev pub plus_step : Bool → Float → Point → Reply
plus_step true k p = both zero64 zero64
plus_step false k p = minus_step (eq p.bc (of_bits binary64 0x3ff7_f9db_22d0_e560)) k p

abbrev pub at_bound : Bool → Float → Point → Reply
at_bound true k p = plus_step (eq p.bc (of_bits binary64 0x3ff8_0624_dd2f_1aa0)) k p
at_bound false k p = let x = of_bits binary64 0x412e_8480_0000_0000 in both x x

abbrev pub knee : Float → Script
knee k n p w = at_bound (eq p.mv (of_bits binary64 0x408f_4000_0000_0000)) k p

-- the candidate's objective is 0, and that of the entered point 1e-8
abbrev pub strict : Script
strict n p w =
    cond (eq p.mv (number 2000) && eq p.bc (ratio 3 10)) (both (ratio 1 10000) zero64)
    (cond (eq p.mv (number 2002)) (both (number 1) zero64)
    (cond (eq p.mv (number 2000) && lt (ratio 3 10) p.bc) (both zero64 (number 1)) (both zero64 zero64)))

-- two candidates of the first pass tie
abbrev pub tied : Script
tied n p w =
    cond (eq p.mv (number 2002)) (both (number 2) zero64)
    (cond ((eq p.mv (number 2001) || eq p.mv (number 1999)) && eq p.bc (ratio 3 10)) (both (ratio 1 2) zero64) (both (number 1) zero64))

-- the drops are linear in the point, and the fit takes two steps
abbrev pub linear : Script
linear n p w =
    let u = (p.mv ⊖ number 2000) ⊗ ratio 1 128 in
    let v = (p.bc ⊖ ratio 1 2) ⊗ number 8 in
    both u (v ⊕ ratio 1 4 ⊗ u)

abbrev pub fine : Opening
fine = opening (number 2000) (ratio 1 2) (observed 100 (number 4) (ratio 1 128) ∷ observed 200 (number 2) (ratio 1 128) ∷ []) []

-- the same, but the first candidate is not taken
abbrev pub once_rejected : Script
once_rejected n p w = cond (eqb n 6) (both (number 100) (number 100)) (linear n p w)

-- the first observation follows the speed, the second the coefficient, the third neither
abbrev pub by_mv : Point → Entry
by_mv p = Some (number 10 ⊕ (p.mv ⊖ number 2000))

abbrev pub by_bc : Point → Entry
by_bc p = Some (cond (lt (ratio 3 10) p.bc) (number 23) (cond (lt p.bc (ratio 3 10)) (number 17) (number 20)))

abbrev pub two_of : Script
two_of n p w = entries (by_mv p ∷ by_bc p ∷ [])

abbrev pub three_at : Which → Point → List Entry
three_at shots p = by_mv p ∷ by_bc p ∷ Some (number 32) ∷ []
three_at distances p = by_mv p ∷ []
three_at (new d) p = by_mv p ∷ []

abbrev pub three_of : Script
three_of n p w = entries (three_at w p)

abbrev pub all_three : List Observation
all_three = observed 100 (number 10) (number 100) ∷ observed 200 (number 20) (number 1) ∷ observed 300 (number 30) (number 1) ∷ []

abbrev pub entered : List Observation → List Requested → Opening
entered obs ds = opening (number 2000) (ratio 3 10) obs ds

-- as `tens`, but at one question another reply, the first question being 0
abbrev pub tens_but : ℕ → Reply → Script
tens_but k other n p w = cond (eqb n k) other (tens n p w)

-- a gap in the nominal reply of the five, then a refused point
abbrev pub gap_then_refused : Script
gap_then_refused n p w = cond (eqb n 1) (entries (None ∷ Some (number 10) ∷ [])) (cond (eqb n 2) refused (tens n p w))

-- gaps at position 2 and, in a later question of the five, at position 1
abbrev pub two_gaps : Script
two_gaps n p w = cond (eqb n 2) (entries (Some (number 10) ∷ None ∷ [])) (cond (eqb n 3) (entries (None ∷ Some (number 10) ∷ [])) (tens n p w))

-- everywhere 1 but beside the nominal speed, so little that the determinant is unfit at first
abbrev pub unfit_at_first : Script
unfit_at_first n p w = cond (eq p.mv (number 2002)) (both (number 1 ⊕ ratio 4 1000000) zero64) (both (number 1) zero64)

-- ---- whole runs

abbrev pub weak_ill_unavailable : List TruingUncertaintyWarningCodeV1
weak_ill_unavailable = Warning.WeakBcSensitivity ∷ Warning.IllConditionedData ∷ Warning.GaussianApproximationUnavailable ∷ []

-- flat at a point after so many iterations, without a poll
abbrev pub flat_at : Point → ℕ → Option TruingApproximationFailureCodeV1 → List TruingUncertaintyWarningCodeV1 → Brief
flat_at p iterations reason codes = record { fit = p; iterations = iterations; is_converged = true; evaluations = 0; withheld = reason; warnings = codes }

-- ended by the poll, in the first iteration
abbrev pub polled_at : Point → Bool → ℕ → Option TruingApproximationFailureCodeV1 → List TruingUncertaintyWarningCodeV1 → Brief
polled_at p verified evaluations reason codes =
    record { fit = p; iterations = 1; is_converged = verified; evaluations = evaluations; withheld = reason; warnings = codes }

abbrev pub runs : Script → Opening → Told Brief → Bool
runs host o expected = same_told same_brief (tell brief host o) expected

abbrev pub frees : Script → Opening → Told Freedom → Bool
frees host o expected = same_told same_freedom (tell freedom host o) expected

abbrev pub baselines : Script → Opening → Told (Option Float) → Bool
baselines host o expected = same_told (same_option ◌is◌) (tell baseline_chi host o) expected

abbrev pub nominal : Point
nominal = point (number 2000) (ratio 3 10)

abbrev pub low_freedom : List TruingUncertaintyWarningCodeV1
low_freedom = Warning.LowEffectiveDegreesOfFreedom ∷ []

pub record RunFigures : Type 0 where
  -- every reply 10: one iteration, 12 questions, rank deficient; entered at the bound instead
  pub bench_2000 : T (runs tens (bench (number 2000)) (reported 12 (flat_at nominal 1 (Some Failure.RankDeficientInformation) weak_ill_unavailable)))
  pub bench_1000 :
      T (runs tens (bench (number 1000)) (reported 12 (flat_at (point (number 1000) (ratio 3 10)) 1 (Some Failure.MapAtParameterBound) weak_ill_unavailable)))
  -- the speed's slope is a not-a-number: flat by max, then not finite
  pub slope_not_a_number : T (runs infinite_beside (bench (number 2000)) (reported 12 (flat_at nominal 1 (Some Failure.NonFiniteInformation) weak_ill_unavailable)))
  -- three observations, effective count 2: one degree of freedom, warned, reduced value given; two: none given
  pub freedom_1 :
      T (frees three_of (entered all_three []) (reported 12 (record {
        count = Some (number 2);
        degrees = Some (number 1);
        reduced = Some
            (number 4);
        warnings = low_freedom;
      })))
  pub freedom_0 :
      T (frees two_of (entered first_two []) (reported 12 (record { count = Some (number 2); degrees = Some zero64; reduced = None; warnings = low_freedom })))
  -- a distance puts five questions more, and is warned of only where it is outside, after the others
  pub distance_nearest : T (runs three_of (entered all_three (requested 100 ∷ [])) (reported 17 (flat_at nominal 1 None low_freedom)))
  pub distance_nearer :
      T (runs three_of (entered all_three (requested 99 ∷ []))
      (reported 17 (flat_at nominal 1 None (Warning.LowEffectiveDegreesOfFreedom ∷ Warning.PredictionOutsideObservedDomain ∷ []))))
  -- a fit that is a not-a-number counts as converged
  pub fit_not_a_number :
      T (runs overflowing (zeros (number 2000) (ratio 3 10)) (reported 18
      (flat_at (point nan nan) 2 (Some Failure.RankDeficientInformation) weak_ill_unavailable)))
  -- two steps, the second with the lowered damping; then with the first candidate rejected, and so with the raised damping
  pub two_steps : T (runs linear fine (reported 24 (flat_at (point (of_bits binary64 0x40a3_9fff_ffff_fdaa)
      (of_bits binary64 0x3fe4_0000_0000_0256)) 3 None low_freedom)))
  pub once_rejected_lem :
      T (runs once_rejected fine (reported 25 (flat_at (point (of_bits binary64 0x40a3_9fff_ffff_da9e)
      (of_bits binary64 0x3fe4_0000_0000_2562)) 3 None low_freedom)))
  -- a gap is judged after the five, so that a refused point comes first
  pub refused_before_gap : T (runs gap_then_refused (bench (number 2000)) (declined 3 10 0))
  -- the position of a gap is the least over the five
  pub least_gap : T (runs two_gaps (bench (number 2000)) (declined 6 11 1))
  -- in the objective's one reply a gap is judged before the sum
  pub gap_before_sum : T (runs (tens_but 0 (entries (Some (inf false) ∷ None ∷ []))) (bench (number 2000)) (declined 1 11 2))
  pub sum_not_finite : T (runs (tens_but 0 (both (inf false) (number 10))) (bench (number 2000)) (declined 1 12 0))
  -- the baseline's chi-square; none where its reply is refused, has a gap, or has a sum that is not finite
  pub baseline_there : T (baselines tens (bench (number 2000)) (reported 12 (Some (number 1))))
  pub baseline_refused : T (baselines (tens_but 11 refused) (bench (number 2000)) (reported 12 None))
  pub baseline_gap : T (baselines (tens_but 11 (entries (None ∷ Some (number 10) ∷ []))) (bench (number 2000)) (reported 12 None))
  pub baseline_not_finite : T (baselines (tens_but 11 (both (inf false) (number 10))) (bench (number 2000)) (reported 12 None))

-- ---- what an opening is refused for, in order

module _ {A : Type 0} where
  abbrev pub copies : ℕ → A → List A → List A
  copies zero a rest = rest
  copies (suc n) a rest = a ∷ copies n a rest

abbrev pub declines : Measured → List Requested → ℕ → ℕ → Bool
declines m ds n i = same_told same_brief (tell brief tens (record { measured = m; requested = ds })) (declined 0 n i)

abbrev pub no_priors : TruingPriorsV1
no_priors = priors None None

abbrev pub bad_prior : Option NormalPriorV1
bad_prior = normal (number 6000) zero64

abbrev pub bad : Observation
bad = observed 100 (number 10) minus_zero

abbrev pub good : Observation
good = observed 100 (number 10) (number 1)

pub record OpeningFigures : Type 0 where
  -- the speed comes first, and both before any count
  pub refusal_1_1 : T (declines (measured nan nan [] no_priors) [] 1 1)
  pub refusal_1_2 : T (declines (measured (number 5000) (number 3) [] no_priors) [] 1 2)
  pub refusal_2 : T (declines (measured (number 2000) (ratio 3 10) (bad ∷ []) (priors bad_prior bad_prior)) [] 2 0)
  pub refusal_3 : T (declines (measured (number 2000) (ratio 3 10) (copies 65 bad []) (priors bad_prior bad_prior)) [] 3 0)
  pub refusal_4 : T (declines (measured (number 2000) (ratio 3 10) (good ∷ bad ∷ bad ∷ []) (priors bad_prior bad_prior)) [] 4 2)
  pub refusal_5_1 : T (declines (measured (number 2000) (ratio 3 10) (good ∷ good ∷ []) (priors bad_prior bad_prior)) (copies 65 (requested 0) []) 5 1)
  pub refusal_5_2 : T (declines (measured (number 2000) (ratio 3 10) (good ∷ good ∷ []) (priors None bad_prior)) (copies 65 (requested 0) []) 5 2)
  pub refusal_6 : T (declines (measured (number 2000) (ratio 3 10) (good ∷ good ∷ []) no_priors) (copies 65 (requested 0) []) 6 0)
  pub refusal_7 : T (declines (measured (number 2000) (ratio 3 10) (good ∷ good ∷ []) no_priors) (copies 63 (requested 100) (requested 0 ∷ [])) 7 64)

-- ---- edits of the finished run with the requested distance 100

abbrev pub edits : Script → Edit → Told Brief → Bool
edits host e expected = same_told same_brief (tell_from (λ c. brief (report_of c)) host 0
    (bind (whole (entered all_three (requested 100 ∷ []))) (λ c. edit c e))) expected

abbrev pub new_missing : Which → Point → List Entry
new_missing shots p = three_at shots p
new_missing distances p = three_at distances p
new_missing (new d) p = None ∷ []

pub record EditFigures : Type 0 where
  -- the 17 questions of the run, and five more; taking out puts none
  pub put_in_lem : T (edits three_of (put_in 2 (requested 99)) (reported 22
      (flat_at nominal 1 None (Warning.LowEffectiveDegreesOfFreedom ∷ Warning.PredictionOutsideObservedDomain ∷ []))))
  pub taken_out : T (edits three_of (take_out 1) (reported 17 (flat_at nominal 1 None low_freedom)))
  pub exchanged : T (edits three_of (exchange 1 (requested 300)) (reported 22 (flat_at nominal 1 None low_freedom)))
  -- a faulty entry, and a gap, at its place in the edited list
  pub faulty : T (edits three_of (put_in 2 (requested 0)) (declined 17 7 2))
  pub missing_there : T (edits (λ n p w. entries (new_missing w p)) (put_in 2 (requested 99)) (declined 22 13 2))

-- ---- every number of one report

abbrev pub with_interval : Option GaussianIntervalV1 → List (Option Float) → List (Option Float)
with_interval None rest = None ∷ rest
with_interval (Some g) rest = Some g.estimate ∷ Some g.standard_deviation ∷ Some g.lower ∷ Some g.upper ∷ Some g.probability ∷ rest

abbrev pub with_results : List WeightedTruingObservationResultV1 → List (Option Float) → List (Option Float)
with_results [] rest = rest
with_results (o ∷ os) rest = Some o.predicted_drop ∷ Some o.residual ∷ Some o.standardized_residual ∷ with_results os rest

abbrev pub with_gaussian : Approximation → List (Option Float) → List (Option Float)
with_gaussian (unavailable code) rest = None ∷ rest
with_gaussian (available g q) rest =
    let c = g.covariance in
    Some c.mv_variance_fps2 ∷ Some c.mv_bc_covariance_fps ∷ Some c.bc_variance
    ∷ with_interval (Some g.muzzle_velocity_interval_95) (with_interval (Some g.ballistic_coefficient_interval_95)
    (Some g.mv_bc_correlation ∷ Some g.scaled_information_condition_number ∷ rest))

abbrev pub with_bands : List Band → List (Option Float) → List (Option Float)
with_bands [] rest = rest
with_bands (b ∷ bs) rest = Some b.range ∷ Some b.predicted_drop ∷ with_interval b.latent (with_interval b.future (with_bands bs rest))

abbrev pub numbers_of : Report → List (Option Float)
numbers_of r =
    let d = r.diagnostics in
    Some r.point.mv ∷ Some r.point.bc
    ∷ with_results r.observations
    (Some d.chi_square ∷ Some d.prior_penalty ∷ Some d.penalized_chi_square
    ∷ d.effective_parameter_count ∷ d.effective_degrees_of_freedom ∷ d.reduced
    ∷ Some d.bc_sensitivity_ratio ∷ Some d.data_condition_number ∷ Some d.gradient_norm
    ∷ with_gaussian r.approximation (with_bands r.bands (chi_of r.baseline ∷ [])))

-- three observations, two priors, two requested distances; the drops are linear in the point
abbrev pub linear_at : Which → Float → Float → List Entry
linear_at shots u v = Some u ∷ Some (v ⊕ ratio 1 4 ⊗ u) ∷ Some v ∷ []
linear_at distances u v = Some u ∷ Some (v ⊕ ratio 1 4 ⊗ u) ∷ []
linear_at (new d) u v = Some u ∷ []

abbrev pub linear_three : Script
linear_three n p w = entries (linear_at w ((p.mv ⊖ number 2000) ⊗ ratio 1 128) ((p.bc ⊖ ratio 1 2) ⊗ number 8))

abbrev pub with_priors : Opening
with_priors = record {
  measured = measured (number 2000) (ratio 1 2)
      (observed 100 (number 4) (ratio 1 8) ∷ observed 200 (number 2) (ratio 1 8) ∷ observed 300 (number 2) (ratio 1 4) ∷ [])
      (priors (normal (number 2450) (number 2)) (normal (ratio 7 10) (ratio 1 16)));
  requested = record { range_yd = number 150; future_observation_sigma = Some (ratio 1 2) } ∷ record { range_yd = number 350; future_observation_sigma = None } ∷ [];
}

-- worked out apart from this definition, from the formulas of the source
abbrev pub expected_numbers : List (Option Float)
expected_numbers =
    -- fit
    Some (of_bits binary64 0x40a3_25b8_5285_1d63)
    ∷ Some (of_bits binary64 0x3fe5_3d78_70ab_a3f0)
    -- residuals
    ∷ Some (of_bits binary64 0x400c_2dc2_9428_eb18)
    ∷ Some (of_bits binary64 0xbfde_91eb_5eb8_a740)
    ∷ Some (of_bits binary64 0xc00e_91eb_5eb8_a740)
    ∷ Some (of_bits binary64 0x4001_8661_8661_82a6)
    ∷ Some (of_bits binary64 0x3fc8_6618_6618_2a60)
    ∷ Some (of_bits binary64 0x3ff8_6618_6618_2a60)
    ∷ Some (of_bits binary64 0x3ff4_f5e1_c2ae_8fc0)
    ∷ Some (of_bits binary64 0xbfe6_143c_7aa2_e080)
    ∷ Some (of_bits binary64 0xc006_143c_7aa2_e080)
    -- chi-square, penalty, both
    ∷ Some (of_bits binary64 0x4038_8b56_9fa1_eb2c)
    ∷ Some (of_bits binary64 0x3fe0_adf0_b3e3_6b96)
    ∷ Some (of_bits binary64 0x4039_10c6_2541_0689)
    -- effective count, degrees of freedom, reduced
    ∷ Some (of_bits binary64 0x3fee_f97e_f97e_f939)
    ∷ Some (of_bits binary64 0x4000_41a0_41a0_41b2)
    ∷ Some (of_bits binary64 0x4028_2841_2169_629a)
    -- sensitivity ratio, data condition, gradient
    ∷ Some (of_bits binary64 0x3fd3_4051_e93e_32d6)
    ∷ Some (of_bits binary64 0x3ff8_dd65_3006_6495)
    ∷ Some (of_bits binary64 0x3e38_9050_0000_0000)
    -- covariance
    ∷ Some (of_bits binary64 0x400f_801f_801f_8028)
    ∷ Some (of_bits binary64 0xbf48_0018_0018_011c)
    ∷ Some (of_bits binary64 0x3f28_6618_6618_69ec)
    -- intervals
    ∷ Some (of_bits binary64 0x40a3_25b8_5285_1d63)
    ∷ Some (of_bits binary64 0x3fff_bfcf_5ea8_1cb3)
    ∷ Some (of_bits binary64 0x40a3_1df1_0ba4_4312)
    ∷ Some (of_bits binary64 0x40a3_2d7f_9965_f7b4)
    ∷ Some (of_bits binary64 0x3fee_6666_6666_6666)
    ∷ Some (of_bits binary64 0x3fe5_3d78_70ab_a3f0)
    ∷ Some (of_bits binary64 0x3f8b_f12e_97b8_76c6)
    ∷ Some (of_bits binary64 0x3fe4_6268_8612_79d1)
    ∷ Some (of_bits binary64 0x3fe6_1888_5b44_ce0f)
    ∷ Some (of_bits binary64 0x3fee_6666_6666_6666)
    -- correlation, condition
    ∷ Some (of_bits binary64 0xbf9b_b3f0_01ae_db78)
    ∷ Some (of_bits binary64 0x4047_a7d2_cc39_4c41)
    -- band
    ∷ Some (of_bits binary64 0x4062_c000_0000_0000)
    ∷ Some (of_bits binary64 0x400c_2dc2_9428_eb18)
    ∷ Some (of_bits binary64 0x400c_2dc2_9428_eb18)
    ∷ Some (of_bits binary64 0x3f8f_bfcf_5ea8_1ba4)
    ∷ Some (of_bits binary64 0x400b_ef88_5d22_188f)
    ∷ Some (of_bits binary64 0x400c_6bfc_cb2f_bda1)
    ∷ Some (of_bits binary64 0x3fee_6666_6666_6666)
    ∷ Some (of_bits binary64 0x400c_2dc2_9428_eb18)
    ∷ Some (of_bits binary64 0x3fe0_01f7_e2f9_9428)
    ∷ Some (of_bits binary64 0x4004_55ca_e14c_d8e8)
    ∷ Some (of_bits binary64 0x4012_02dd_2382_7ea4)
    ∷ Some (of_bits binary64 0x3fee_6666_6666_6666)
    -- band
    ∷ Some (of_bits binary64 0x4075_e000_0000_0000)
    ∷ Some (of_bits binary64 0x4001_8661_8661_82a6)
    ∷ Some (of_bits binary64 0x4001_8661_8661_82a6)
    ∷ Some (of_bits binary64 0x3fbb_eed1_ce12_a7db)
    ∷ Some (of_bits binary64 0x3fff_a0cd_7829_74c9)
    ∷ Some (of_bits binary64 0x4003_3c5c_50ae_4ae7)
    ∷ Some (of_bits binary64 0x3fee_6666_6666_6666)
    ∷ None
    -- baseline
    ∷ Some (of_bits binary64 0x4095_0000_0000_0000)
    ∷ []

pub record ReportFigure : Type 0 where
  pub every_number : T (same_told (same_list (same_option ◌is◌)) (tell numbers_of linear_three with_priors) (reported 29 expected_numbers))
  pub its_warnings :
      T (same_told (same_list same_warning) (tell (λ r. r.warnings) linear_three with_priors)
      (reported 29 (Warning.MvPriorDominated ∷ Warning.PredictionOutsideObservedDomain ∷ [])))

-- runs that end in a poll
pub record PollFigures : Type 0 where
  -- a gain of exactly 1e-8 is not taken: 30 trials, 8 candidates at each of ten radii
  pub gain_level : T (runs strict (zeros (number 2000) (ratio 3 10))
      (reported 132 (polled_at nominal true 80 None (Warning.ObjectiveMeshConvergence ∷ low_freedom))))
  -- of two equal candidates the first is taken
  pub first_of_equal :
      T (runs tied (zeros (number 2000) (ratio 3 10))
      (reported 140 (polled_at (point (number 2001) (ratio 3 10)) true 88 (Some Failure.RankDeficientInformation)
      (Warning.ObjectiveMeshConvergence ∷ weak_ill_unavailable))))
  -- at a bound two of the eight candidates are unmoved, which are neither asked nor counted
  pub unmoved_skipped :
      T (runs (knee (number 2)) (zeros (number 1000) (ratio 3 2))
      (reported 112 (polled_at (point (number 1000) (ratio 3 2)) true 60 (Some Failure.MapAtParameterBound)
      (Warning.ObjectiveMeshConvergence ∷ weak_ill_unavailable))))
  -- an unfit determinant asks nothing, and counts as a trial
  pub unfit_counts :
      T (runs unfit_at_first (zeros (number 2000) (ratio 3 10))
      (reported 130 (polled_at nominal true 80 (Some Failure.RankDeficientInformation) (Warning.ObjectiveMeshConvergence ∷ weak_ill_unavailable))))

-- ---- the poll with another limit of evaluations, from 1000, 1.5: six are evaluated in a pass

pub record PollBrief : Type 0 where
  pub best : Point
  pub verified : Bool
  pub evaluations : ℕ

abbrev pub poll_brief : Poll → PollBrief
poll_brief r = record { best = r.point; verified = converged r.convergence; evaluations = r.evaluations }

abbrev pub same_poll : PollBrief → PollBrief → Bool
same_poll a b = same_point a.best b.best && (beq a.verified b.verified && eqb a.evaluations b.evaluations)

-- with the knee's place, the objective at the centre and the limit
abbrev pub limited : Float → Float → ℕ → Told PollBrief → Bool
limited k current limit expected =
    let centre = point (number 1000) (ratio 3 2) in
    same_told same_poll
    (tell_from poll_brief (knee k) 0 (poll (zeros (number 1000) (ratio 3 2)).measured limit (first_pass (symmetric zero64 zero64 zero64) centre current)))
    expected

abbrev pub ended : Float → Bool → ℕ → Told PollBrief
ended bc verified n = reported n (record { best = point (number 1000) bc; verified = verified; evaluations = n })

pub record LimitFigures : Type 0 where
  -- without a gain: uncut; cut in the last pass, and at its end; at the end of the pass before; in that pass
  pub limit_not_met : T (limited (number 2) (number 200) 1024 (ended (ratio 3 2) true 60))
  pub limit_60 : T (limited (number 2) (number 200) 60 (ended (ratio 3 2) true 60))
  pub limit_57 : T (limited (number 2) (number 200) 57 (ended (ratio 3 2) true 57))
  pub limit_54 : T (limited (number 2) (number 200) 54 (ended (ratio 3 2) false 54))
  pub limit_50 : T (limited (number 2) (number 200) 50 (ended (ratio 3 2) false 50))
  -- with a gain at the third: the gain is kept
  pub limit_2 : T (limited (number 1) (ratio 441 2) 2 (ended (ratio 3 2) false 2))
  pub limit_3 : T (limited (number 1) (ratio 441 2) 3 (ended (ratio 1499 1000) false 3))

-- the poll's last pass is cut by the limit of evaluations, and at the last radius still counts as converged
pub record CutFigure : Type 0 where
  pub cut :
      T (runs (knee (of_bits binary64 0x3ff5_6e97_8d4f_df3b)) (zeros (number 1000) (ratio 3 2))
      (reported 1076 (polled_at (point (number 1000) (of_bits binary64 0x3ff5_6c8b_4395_8156)) true 1024 (Some Failure.MapAtParameterBound)
      (Warning.ObjectiveMeshConvergence ∷ weak_ill_unavailable))))
