-- What holds of every run of the definition. The theorems stand in proofs/ under the names that stand here: Questions.antt (the questions and their number),
-- Polls.antt, Fits.antt, Warnings.antt, Ranges.antt, Presence.antt. That the fit, the evaluation at the fit and the baseline do not see the requested distances
-- needs no theorem: `fit_map`, `evaluate` and `baseline` take no list of them (Fit.antt, Likelihood.antt, Whole.antt), and `run` hands `fit_map` the `Measured`
-- alone.
use Rattle.std.specs.Prelude.{ℕ, zero, suc, ◌+◌, ◌≤◌, ◌≡◌, Bool, true, false, not, List, [], ◌∷◌, filter, ◌⊎◌, ◌↔◌, eqb, Float, Some}
use Rattle.std.specs.Float.{nan}
use Rattle.std.specs.Float.Ieee.{neg, le}
use Rattle.numeric.specs.Numeric.{zero64, one64, two64, finite}
use Rattle.matrix.specs.Matrix.{inverse, inverse_of}
use Rattle.matrix.specs.declared.Symmetric2.{Symmetric2}
use Rattle.interval.specs.declared.GaussianIntervalV1.{GaussianIntervalV1}
use Rattle.criteria.specs.Criteria.{at_bound_of}
use Rattle.definition.specs.Constants.{first_radius, least_radius}
use Rattle.definition.specs.Request.{Measured, Opening}
use Rattle.definition.specs.Run.{Run, done, refuse, ask, Reply, Which}
use Rattle.definition.specs.Mesh.{Convergence, not_converged, scaled_gradient, objective_mesh, Poll, Pass, evaluates, poll_step, seen, poll, first_pass}
use Rattle.definition.specs.Mesh.{quartered_of}
use Rattle.definition.specs.Fit.{found, polled}
use Rattle.definition.specs.Summary.{interval95, Approximation, available, covariance_of, correlation_of, approximation_of, Finished, report_of}
use Rattle.definition.specs.Whole.{no_rows, band_rows, whole, Edit, edit}
use Rattle.definition.specs.declared.Point.{Point}
use Rattle.definition.specs.declared.TruingGaussianApproximationV1.{TruingGaussianApproximationV1}
use Rattle.definition.specs.declared.TruingUncertaintyWarningCodeV1.TheVariants as Warning
use Rattle.definition.specs.declared.TruingUncertaintyWarningCodeV1.{TruingUncertaintyWarningCodeV1}

-- ---- the questions

-- Whatever is replied, at most so many questions are put, and each has the property, which is about its point and its list.
pub data Asks (Q : Point → Which → Type 0) {A : Type 0} : ℕ → Run A → Type 0 where
  finishes : {n : ℕ} {a : A} → Asks Q n (done a)
  stops : {n c i : ℕ} → Asks Q n (refuse c i)
  asks : {n : ℕ} {p : Point} {w : Which} {k : Reply → Run A} → Q p w → ((r : Reply) → Asks Q n (k r)) → Asks Q (suc n) (ask p w k)

module _ {A : Type 0} where
  -- how many questions are put when these replies are given, the open one included
  abbrev pub put : Run A → List Reply → ℕ
  put (done a) rs = 0
  put (refuse c i) rs = 0
  put (ask p w k) [] = 1
  put (ask p w k) (r ∷ rs) = suc (put (k r) rs)

-- Theorem `count`: at most 4,546 questions, 1 + 100 · (5 + 30) + 5 + 5 + 1,024 + 5 + 5 + 1, whatever is replied.
abbrev pub Count : Type 0
Count = (o : Opening) (replies : List Reply) → put (whole o) replies ≤ 4546

-- Theorem `count_without_distances`: five less where no distance is requested.
abbrev pub CountWithoutDistances : Type 0
CountWithoutDistances = (m : Measured) (replies : List Reply) → put (whole (record { measured = m; requested = [] })) replies ≤ 4541

-- Theorem `count_of_edit`: an edit puts at most the five.
abbrev pub CountOfEdit : Type 0
CountOfEdit = (c : Finished) (e : Edit) (replies : List Reply) → put (edit c e) replies ≤ 5

-- Theorem `empty_list`: an empty list of distances puts no question.
abbrev pub EmptyList : Type 0
EmptyList = (p : Point) → band_rows p [] ≡ done no_rows

-- ---- the number of poll evaluations

-- where so many questions were put before, each result of the run has as many evaluations as questions were put by then
abbrev pub Counted : ℕ → Run Poll → Type 0
Counted n (done r) = r.evaluations ≡ n
Counted n (refuse c i) = Unit {0}
Counted n (ask p w k) = (r : Reply) → Counted (suc n) (k r)

-- Theorem `poll_counted`: the poll's evaluations are its questions, on every path of it.
abbrev pub PollCounted : Type 0
PollCounted = (m : Measured) (information : Symmetric2) (centre : Point) (current : Float) → Counted 0 (poll m 1024 (first_pass information centre current))

-- Theorem `fit_evaluations`: a fit takes them from the poll, and without a poll has none; and the report has the fit's.
pub record FitEvaluations : Type 0 where
  pub of_poll : (iterations : ℕ) (r : Poll) → (polled iterations r).evaluations ≡ r.evaluations
  pub without_poll : (p : Point) (iterations : ℕ) (c : Convergence) → (found p iterations c).evaluations ≡ 0
  pub reported : (c : Finished) → (report_of c).diagnostics.objective_poll_evaluations ≡ c.fit.evaluations

-- the radius after so many quarterings
abbrev pub radius_after : ℕ → Float
radius_after zero = first_radius
radius_after (suc n) = quartered_of (radius_after n)

-- Theorem `ten_radii`: 1e-2 quartered nine times is 1e-7, and no radius before it is as small.
pub record TenRadii : Type 0 where
  pub last : radius_after 9 ≡ least_radius
  pub tested : (n : ℕ) → n ≤ 9 → le (radius_after n) least_radius ≡ eqb n 9

-- a radius that is one of the ten, with so many smaller ones to come
pub record Level (radius : Float) (smaller : ℕ) : Type 0 where
  pub before : ℕ
  pub sum : before + smaller ≡ 9
  pub is : radius ≡ radius_after before

-- Theorem `radius_tested`: every pass of a poll has such a radius, from the first pass on, and so has what a pass without a gain goes on with. There the
-- source's test for the last radius, `radius <= 1e-7`, holds exactly where the countdown says that no smaller one is to come.
pub record RadiusTested : Type 0 where
  pub first : (information : Symmetric2) (centre : Point) (current : Float) → let s = first_pass information centre current in Level s.radius s.smaller
  pub next : (s t : Pass) (c : Point) → Level s.radius s.smaller → poll_step s ≡ evaluates c t → Level t.radius t.smaller
  pub seen_same : (s : Pass) (c : Point) (value : Float) → Level s.radius s.smaller → Level (seen c value s).radius (seen c value s).smaller
  pub quartered : (radius : Float) (smaller : ℕ) → Level radius (suc smaller) → Level (quartered_of radius) smaller
  pub tested : (radius : Float) (smaller : ℕ) → Level radius smaller → le radius least_radius ≡ eqb smaller 0

module _ {A : Type 0} where
  -- each result of the run has the property
  unfoldable pub Every : (A → Type 0) → Run A → Type 0
  Every P (done a) = P a
  Every P (refuse c i) = Unit {0}
  Every P (ask p w k) = (r : Reply) → Every P (k r)

-- how a fit is verified, and after how many poll evaluations: not at all, only where the poll used up its 1,024; by the gradient, without a poll; by the mesh,
-- at the radius 1e-7
abbrev pub Shown : Convergence → ℕ → Type 0
Shown not_converged n = n ≡ 1024
Shown scaled_gradient n = n ≡ 0
Shown (objective_mesh radius improvement) n = (radius ≡ least_radius) × (n ≤ 1024)

-- Theorem `fit_shown`: it is so in every finished run.
abbrev pub FitShown : Type 0
FitShown = (o : Opening) → Every (λ c. Shown c.fit.convergence c.fit.evaluations) (whole o)

-- ---- the warnings

-- a code's place in the source's order
abbrev pub index_of : TruingUncertaintyWarningCodeV1 → ℕ
index_of Warning.OptimizerDidNotConverge = 0
index_of Warning.ObjectiveMeshConvergence = 1
index_of Warning.WeakBcSensitivity = 2
index_of Warning.IllConditionedData = 3
index_of Warning.MvPriorDominated = 4
index_of Warning.BcPriorDominated = 5
index_of Warning.GaussianApproximationUnavailable = 6
index_of Warning.IntervalCrossesFitBounds = 7
index_of Warning.LowEffectiveDegreesOfFreedom = 8
index_of Warning.PredictionOutsideObservedDomain = 9

-- the codes but this one
abbrev pub without : TruingUncertaintyWarningCodeV1 → List TruingUncertaintyWarningCodeV1 → List TruingUncertaintyWarningCodeV1
without code codes = filter (λ c. not (eqb (index_of c) (index_of code))) codes

-- the places rise strictly, the first being n or more
unfoldable pub RisingFrom : ℕ → List TruingUncertaintyWarningCodeV1 → Type 0
RisingFrom n [] = Unit {0}
RisingFrom n (c ∷ cs) = (n ≤ index_of c) × RisingFrom (suc (index_of c)) cs

-- no code occurs twice
abbrev pub NotIn : TruingUncertaintyWarningCodeV1 → List TruingUncertaintyWarningCodeV1 → Type 0
NotIn c [] = Unit {0}
NotIn c (d ∷ ds) = (c ≡ d → ⊥) × NotIn c ds

abbrev pub Distinct : List TruingUncertaintyWarningCodeV1 → Type 0
Distinct [] = Unit {0}
Distinct (c ∷ cs) = NotIn c cs × Distinct cs

-- Theorems `warnings_in_order` and `warnings_once`: a report's warnings stand in the source's order, each once.
abbrev pub WarningsInOrder : Type 0
WarningsInOrder = (c : Finished) → RisingFrom 0 (report_of c).warnings

abbrev pub WarningsOnce : Type 0
WarningsOnce = (c : Finished) → Distinct (report_of c).warnings

-- ---- ranges

-- a number from the lower to the upper end, ends included: a not-a-number passes neither test
abbrev pub Between : Float → Float → Float → Type 0
Between lower upper x = (le lower x ≡ true) × (le x upper ≡ true)

-- Theorem `correlation_range`: where a report has the approximation, its correlation lies in −1..1.
abbrev pub CorrelationRange : Type 0
CorrelationRange =
    (c : Finished) (g : TruingGaussianApproximationV1) (q : Symmetric2) → (report_of c).approximation ≡ available g q
    → Between (neg one64) one64 g.mv_bc_correlation

-- Theorem `effective_count_range`: where a report has the effective count, it lies in 0..2 or is a not-a-number.
abbrev pub EffectiveCountRange : Type 0
EffectiveCountRange =
    (c : Finished) (count : Float) → (report_of c).diagnostics.effective_parameter_count ≡ Some count
    → (count ≡ nan) ⊎ Between zero64 two64 count

-- ---- presence

abbrev pub IsAvailable : Approximation → Type 0
IsAvailable a = (g : TruingGaussianApproximationV1) × (q : Symmetric2) × (a ≡ available g q)

-- the fit converged and is not near a bound; the inverse, both intervals and a finite correlation exist
pub record Exist (verified : Bool) (p : Point) (information : Symmetric2) : Type 0 where
  pub converged : verified ≡ true
  pub apart : at_bound_of p.mv p.bc ≡ false
  pub covariance : Symmetric2
  pub condition : Float
  pub inverted : inverse_of information ≡ inverse covariance condition
  pub mv_interval : GaussianIntervalV1
  pub mv_exists : interval95 p.mv (covariance_of covariance).mv_variance_fps2 ≡ Some mv_interval
  pub bc_interval : GaussianIntervalV1
  pub bc_exists : interval95 p.bc (covariance_of covariance).bc_variance ≡ Some bc_interval
  pub correlated : finite (correlation_of (covariance_of covariance)) ≡ true

-- Theorem `presence`: the approximation, with its covariance, both intervals and correlation, is available if and only if these exist.
abbrev pub Presence : Type 0
Presence = (verified : Bool) (p : Point) (information : Symmetric2) → IsAvailable (approximation_of verified p information) ↔ Exist verified p information
