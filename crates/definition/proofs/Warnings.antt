-- A report's warnings stand in the source's order, each once: `warnings_in_order`, `warnings_once`. Those of two reports agree but for one code: `crossing_alone`,
-- `outside_alone`. Assumes nothing.
use Prim.Native.Nat.{ℕ, suc, ◌≤◌, ◌<◌}
use mathlib.Core.Path.{◌≡◌, refl, sym, ap, ◌∙◌}
use mathlib.Core.Bool.{Bool, true, false, cond, not, ◌||◌}
use mathlib.Core.List.{List, [], ◌∷◌}
use native.Mathlib.Omega.{arith}
use lib.ListN.{length}
use Rattle.std.proofs.Common.{eqb, eq-eqb}
use lib.Ieee.{lt}
use Rattle.numeric.specs.Numeric.{finite}
use Rattle.definition.specs.Constants.{least_sensitivity_ratio, largest_condition}
use Rattle.definition.specs.Lists.{any}
use Rattle.definition.specs.Request.{Requested, Measured}
use Rattle.definition.specs.Fit.{Fit}
use Rattle.definition.specs.Summary.{Approximation, Diagnostics, converged, is_mesh, where_available, is_unavailable, at_most_one, is_outside, warn}
use Rattle.definition.specs.Summary.{approximation_of, diagnostics_of, crosses_of, warnings_with, warnings_of, report_of}
use Rattle.definition.specs.declared.Evaluation.{Evaluation}
use Rattle.definition.specs.Laws.{index_of, without, RisingFrom, NotIn, Distinct, WarningsInOrder, WarningsOnce}
use Rattle.definition.specs.declared.TruingUncertaintyWarningCodeV1.TheVariants as Warning
use Rattle.definition.specs.declared.TruingUncertaintyWarningCodeV1.{TruingUncertaintyWarningCodeV1}

rising_less : (m n : ℕ) (cs : List TruingUncertaintyWarningCodeV1) → m ≤ n → RisingFrom n cs → RisingFrom m cs
unfolding RisingFrom
rising_less m n [] h r = tt
rising_less m n (c ∷ cs) h r = (omega (arith, r.0), r.1)

-- a code that is pushed before later ones only
warn_rising : (n : ℕ) (b : Bool) (c : TruingUncertaintyWarningCodeV1) (cs : List TruingUncertaintyWarningCodeV1) → n ≤ index_of c
    → RisingFrom (suc (index_of c)) cs → RisingFrom n (warn b c cs)
unfolding RisingFrom
warn_rising n true c cs h r = (h, r)
warn_rising n false c cs h r = rising_less n (suc (index_of c)) cs (omega arith) r

none_rising : (n : ℕ) → RisingFrom n []
unfolding RisingFrom
none_rising n = tt

-- however the crossing is judged
pub rising : (crosses : Bool) (m : Measured) (f : Fit) (e : Evaluation) (a : Approximation) (d : Diagnostics) (requested : List Requested)
    → RisingFrom 0 (warnings_with crosses m f e a d requested)
rising crosses m f e a d requested =
    warn_rising 0 (not (converged f.convergence)) Warning.OptimizerDidNotConverge _ (omega arith)
    (warn_rising 1 (is_mesh f.convergence) Warning.ObjectiveMeshConvergence _ (omega arith)
    (warn_rising 2 (lt e.bc_sensitivity_ratio least_sensitivity_ratio) Warning.WeakBcSensitivity _ (omega arith)
    (warn_rising 3 (not (finite e.data_condition_number) || lt largest_condition e.data_condition_number) Warning.IllConditionedData _ (omega arith)
    (warn_rising 4 (where_available _ a) Warning.MvPriorDominated _ (omega arith)
    (warn_rising 5 (where_available _ a) Warning.BcPriorDominated _ (omega arith)
    (warn_rising 6 (is_unavailable a) Warning.GaussianApproximationUnavailable _ (omega arith)
    (warn_rising 7 crosses Warning.IntervalCrossesFitBounds _ (omega arith)
    (warn_rising 8 (at_most_one d.effective_degrees_of_freedom) Warning.LowEffectiveDegreesOfFreedom _ (omega arith)
    (warn_rising 9 (any (is_outside m.observations) requested) Warning.PredictionOutsideObservedDomain [] (omega arith) (none_rising 10))))))))))

pub warnings_in_order : WarningsInOrder
unfolding report_of warnings_of
warnings_in_order c =
    let a = approximation_of (converged c.fit.convergence) c.fit.point c.evaluation.posterior_information in
    rising (crosses_of a) c.measured c.fit c.evaluation a (diagnostics_of (length c.measured.observations) c.fit c.evaluation a) c.requested

-- what rises from above a code's place does not have the code
rising_not_in : (c : TruingUncertaintyWarningCodeV1) (n : ℕ) (cs : List TruingUncertaintyWarningCodeV1) → index_of c < n → RisingFrom n cs → NotIn c cs
unfolding RisingFrom
rising_not_in c n [] h r = tt
rising_not_in c n (d ∷ ds) h r = (λ e. omega (arith, r.0, ap index_of e), rising_not_in c (suc (index_of d)) ds (omega (arith, r.0)) r.1)

pub rising_distinct : (n : ℕ) (cs : List TruingUncertaintyWarningCodeV1) → RisingFrom n cs → Distinct cs
unfolding RisingFrom
rising_distinct n [] r = tt
rising_distinct n (c ∷ cs) r = (rising_not_in c (suc (index_of c)) cs (omega arith) r.1, rising_distinct (suc (index_of c)) cs r.1)

pub warnings_once : WarningsOnce
warnings_once c = rising_distinct 0 _ (warnings_in_order c)

-- ---- but for one code

-- a code in front of both lists
without_warn : (out : TruingUncertaintyWarningCodeV1) (b : Bool) (code : TruingUncertaintyWarningCodeV1) (xs ys : List TruingUncertaintyWarningCodeV1)
    → without out xs ≡ without out ys → without out (warn b code xs) ≡ without out (warn b code ys)
without_warn out true code xs ys e =
    ap (λ (zs : List TruingUncertaintyWarningCodeV1). cond (not (eqb (index_of code) (index_of out))) (code ∷ zs) zs) e
without_warn out false code xs ys e = e

-- the code itself in front, or not
without_own : (out : TruingUncertaintyWarningCodeV1) (b : Bool) (xs : List TruingUncertaintyWarningCodeV1) → without out (warn b out xs) ≡ without out xs
without_own out true xs = rw (eq-eqb (index_of out) (index_of out) refl)
without_own out false xs = refl

-- only the code of the crossing goes by how it is judged
pub crossing_alone : (x y : Bool) (m : Measured) (f : Fit) (e : Evaluation) (a : Approximation) (d : Diagnostics) (ds : List Requested)
    → without Warning.IntervalCrossesFitBounds (warnings_with x m f e a d ds) ≡ without Warning.IntervalCrossesFitBounds (warnings_with y m f e a d ds)
crossing_alone x y m f e a d ds =
    let out = Warning.IntervalCrossesFitBounds in
    without_warn out (not (converged f.convergence)) Warning.OptimizerDidNotConverge _ _
    (without_warn out (is_mesh f.convergence) Warning.ObjectiveMeshConvergence _ _
    (without_warn out (lt e.bc_sensitivity_ratio least_sensitivity_ratio) Warning.WeakBcSensitivity _ _
    (without_warn out (not (finite e.data_condition_number) || lt largest_condition e.data_condition_number) Warning.IllConditionedData _ _
    (without_warn out (where_available _ a) Warning.MvPriorDominated _ _
    (without_warn out (where_available _ a) Warning.BcPriorDominated _ _
    (without_warn out (is_unavailable a) Warning.GaussianApproximationUnavailable _ _ (without_own out x _ ∙ sym (without_own out y _))))))))

-- only the code of the requested distances looks at them
pub outside_alone : (crosses : Bool) (m : Measured) (f : Fit) (e : Evaluation) (a : Approximation) (d : Diagnostics) (l k : List Requested)
    → without Warning.PredictionOutsideObservedDomain (warnings_with crosses m f e a d k)
    ≡ without Warning.PredictionOutsideObservedDomain (warnings_with crosses m f e a d l)
outside_alone crosses m f e a d l k =
    let out = Warning.PredictionOutsideObservedDomain in
    without_warn out (not (converged f.convergence)) Warning.OptimizerDidNotConverge _ _
    (without_warn out (is_mesh f.convergence) Warning.ObjectiveMeshConvergence _ _
    (without_warn out (lt e.bc_sensitivity_ratio least_sensitivity_ratio) Warning.WeakBcSensitivity _ _
    (without_warn out (not (finite e.data_condition_number) || lt largest_condition e.data_condition_number) Warning.IllConditionedData _ _
    (without_warn out (where_available _ a) Warning.MvPriorDominated _ _
    (without_warn out (where_available _ a) Warning.BcPriorDominated _ _
    (without_warn out (is_unavailable a) Warning.GaussianApproximationUnavailable _ _
    (without_warn out crosses Warning.IntervalCrossesFitBounds _ _
    (without_warn out (at_most_one d.effective_degrees_of_freedom) Warning.LowEffectiveDegreesOfFreedom _ _
    (without_own out (any (is_outside m.observations) k) [] ∙ sym (without_own out (any (is_outside m.observations) l) []))))))))))
