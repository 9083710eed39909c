-- The report under a coverage table: `row_direct`, `single_row`, `rows_alone`, `under_in_order`, `under_once`. Assumes nothing.
use mathlib.Core.Path.{◌≡◌, refl, sym, ap, ◌∙◌}
use mathlib.Core.Bool.{Bool, true, false, cond}
use mathlib.Core.List.{List, [], ◌∷◌, map}
use Rattle.std.specs.Prelude.{Option, None, Some, option_map}
use lib.ListN.{length}
use lib.Ieee.{Float}
use Rattle.numeric.specs.Numeric.{finite}
use Rattle.matrix.specs.Matrix.{Inverted, inverse, non_finite, rank_deficient, inverse_of}
use Rattle.matrix.specs.declared.Symmetric2.{Symmetric2}
use Rattle.interval.specs.Interval.{level95, factor95}
use Rattle.interval.specs.declared.GaussianIntervalV1.{GaussianIntervalV1}
use Rattle.interval.proofs.Drawn.{drawn}
use Rattle.criteria.specs.Criteria.{at_bound_of}
use Rattle.definition.specs.Lists.{zip_with}
use Rattle.definition.specs.Request.{Requested}
use Rattle.definition.specs.Likelihood.{rows_of}
use Rattle.definition.specs.Summary.{interval95, Approximation, available, unavailable, covariance_of, correlation_of, with_intervals, with_inverse}
use Rattle.definition.specs.Summary.{build_approximation_of, approximation_of, converged, diagnostics_of, results_of, band_variance_of, interval_at}
use Rattle.definition.specs.Summary.{latent_of, latent_with, future_of, BandWith, Band, band_of, crosses_bounds_of, crosses_of, warnings_with, warnings_of}
use Rattle.definition.specs.Summary.{ReportWith, Finished, report_of}
use Rattle.coverage.specs.Rows.{Table, built_in_row, built_in, at_row, rows_under}
use Rattle.definition.proofs.Warnings.{rising, rising_distinct, crossing_alone}
use Rattle.coverage.specs.Report.{UnderInOrder, UnderOnce}
use Rattle.coverage.specs.Report.{approximation_by, band_by, IntervalRows}
use Rattle.coverage.specs.Report.{crosses_under, warnings_under, report_under, RowDirect, SingleRow, bare_approximation}
use Rattle.coverage.specs.Report.{bare_band, RowsAlone}
use Rattle.definition.specs.declared.Point.{Point}
use Rattle.definition.specs.declared.Row.{Row}
use Rattle.definition.specs.declared.TruingGaussianApproximationV1.{TruingGaussianApproximationV1}
use Rattle.definition.specs.declared.TruingUncertaintyWarningCodeV1.{TruingUncertaintyWarningCodeV1}

pub row_direct : RowDirect
row_direct r estimate variance = drawn r.level r.factor level95 factor95 estimate variance

-- ---- the built-in row

-- an interval that stands at the built-in row
abbrev Own : GaussianIntervalV1 → Type 0
Own g = at_row g built_in_row ≡ g

-- where there is one
abbrev OwnIn : Option GaussianIntervalV1 → Type 0
OwnIn o = (g : GaussianIntervalV1) → o ≡ Some g → Own g

own_some : (o : Option GaussianIntervalV1) → o ≡ option_map (λ g. at_row g built_in_row) o → OwnIn o
own_some None k g e = let z : None ≡ Some g = e in cc
own_some (Some x) k g e = let y : Some x ≡ Some (at_row x built_in_row) = k in cc

own_interval : (estimate variance : Float) → OwnIn (interval95 estimate variance)
own_interval estimate variance = own_some (interval95 estimate variance) (row_direct built_in_row estimate variance)

own_none : OwnIn None
own_none g e = let z : None ≡ Some g = e in cc

own_rows : (g : GaussianIntervalV1) → Own g → rows_under built_in g ≡ g ∷ []
unfolding rows_under
own_rows g e = ap (λ (x : GaussianIntervalV1). x ∷ []) e

own_option : (o : Option GaussianIntervalV1) → OwnIn o → option_map (rows_under built_in) o ≡ option_map (λ g. g ∷ []) o
own_option None h = refl
own_option (Some g) h = ap (λ (x : IntervalRows). Some x) (own_rows g (h g refl))

-- the approximation's two intervals do
record Owns (a : Approximation) : Type 0 where
  pub rows : approximation_by (rows_under built_in) a ≡ approximation_by (λ g. g ∷ []) a
  pub crosses : crosses_under built_in a ≡ crosses_of a

owns_available : (g : TruingGaussianApproximationV1) (q : Symmetric2) → Own g.muzzle_velocity_interval_95 → Own g.ballistic_coefficient_interval_95
    → Owns (available g q)
unfolding crosses_under
owns_available g q mv bc = record {
  rows = rw (own_rows g.muzzle_velocity_interval_95 mv, own_rows g.ballistic_coefficient_interval_95 bc);
  crosses =
      ap (λ (x : GaussianIntervalV1). crosses_bounds_of x (at_row g.ballistic_coefficient_interval_95 built_in_row)) mv
      ∙ ap (λ (x : GaussianIntervalV1). crosses_bounds_of g.muzzle_velocity_interval_95 x) bc;
}

owns_unavailable : (code : _) → Owns (unavailable code)
unfolding crosses_under
owns_unavailable code = record { rows = refl; crosses = refl }

owns_either : (b : Bool) (x y : Approximation) → Owns x → Owns y → Owns (cond b x y)
owns_either true x y h k = h
owns_either false x y h k = k

owns_intervals : (q : Symmetric2) (condition : Float) (mv bc : Option GaussianIntervalV1) → OwnIn mv → OwnIn bc → Owns (with_intervals q condition mv bc)
owns_intervals q condition None bc h k = owns_unavailable _
owns_intervals q condition (Some mv) None h k = owns_unavailable _
owns_intervals q condition (Some mv) (Some bc) h k =
    owns_either (finite (correlation_of (covariance_of q))) _ _ (owns_available _ q (h mv refl) (k bc refl)) (owns_unavailable _)

owns_inverse : (p : Point) (i : Inverted) → Owns (with_inverse p i)
owns_inverse p non_finite = owns_unavailable _
owns_inverse p rank_deficient = owns_unavailable _
owns_inverse p (inverse q condition) = owns_intervals q condition _ _ (own_interval _ _) (own_interval _ _)

owns_approximation : (verified : Bool) (p : Point) (s : Symmetric2) → Owns (approximation_of verified p s)
unfolding approximation_of build_approximation_of
owns_approximation true p s = owns_either (at_bound_of p.mv p.bc) _ _ (owns_unavailable _) (owns_inverse p (inverse_of s))
owns_approximation false p s = owns_unavailable _

own_at : (predicted : Float) (variance : Option Float) → OwnIn (interval_at predicted variance)
own_at predicted None = own_none
own_at predicted (Some variance) = own_interval predicted variance

own_latent : (a : Approximation) (r : Row) → OwnIn (latent_with a r)
unfolding latent_of
own_latent (available g q) r = own_at r.predicted_drop (band_variance_of q _ _)
own_latent (unavailable code) r = own_none

own_future : (predicted : Float) (latent : Option GaussianIntervalV1) (sigma : Option Float) → OwnIn (future_of predicted latent sigma)
unfolding future_of
own_future predicted None sigma = own_none
own_future predicted (Some latent) None = own_none
own_future predicted (Some latent) (Some sigma) = own_interval predicted _

own_band : (a : Approximation) (d : Requested) (r : Row) → band_by (rows_under built_in) (band_of a d r) ≡ band_by (λ g. g ∷ []) (band_of a d r)
unfolding band_of
own_band a d r =
    rw (
      own_option (latent_with a r) (own_latent a r),
      own_option (future_of r.predicted_drop (latent_with a r) d.future_observation_sigma) (own_future r.predicted_drop (latent_with a r) d.future_observation_sigma),
    )

-- lists read together, by what is made of each pair
zip_same : {A B C : Type 0} (f g : A → B → C) → ((a : A) (b : B) → f a b ≡ g a b) → (xs : List A) (ys : List B) → zip_with f xs ys ≡ zip_with g xs ys
zip_same f g h [] ys = refl
zip_same f g h (a ∷ xs) [] = refl
zip_same {C = C} f g h (a ∷ xs) (b ∷ ys) = ap (λ (c : C). c ∷ zip_with f xs ys) (h a b) ∙ ap (λ (cs : List C). g a b ∷ cs) (zip_same f g h xs ys)

-- a report of a finished run with these parts
abbrev parted : {A I : Type 0} → Finished → A → List (BandWith I) → List TruingUncertaintyWarningCodeV1 → ReportWith A I
parted c a bands warnings =
    let x = approximation_of (converged c.fit.convergence) c.fit.point c.evaluation.posterior_information in
    record {
      schema_version = 1;
      point = c.fit.point;
      iterations = c.fit.iterations;
      is_converged = converged c.fit.convergence;
      priors = c.measured.priors;
      observations = results_of c.measured.observations c.predicted;
      baseline = c.baseline;
      diagnostics = diagnostics_of (length c.measured.observations) c.fit c.evaluation x;
      approximation = a;
      bands = bands;
      warnings = warnings;
    }

module _ {A I : Type 0} (c : Finished) where
  same_parts : {a a' : A} {bs bs' : List (BandWith I)} {ws ws' : List TruingUncertaintyWarningCodeV1} → a ≡ a' → bs ≡ bs' → ws ≡ ws'
      → parted c a bs ws ≡ parted c a' bs' ws'
  same_parts {a' = a'} {bs = bs} {bs' = bs'} {ws = ws} e f g =
      ap (λ (x : A). parted {I = I} c x bs ws) e
      ∙ ap (λ (x : List (BandWith I)). parted c a' x ws) f
      ∙ ap (λ (x : List TruingUncertaintyWarningCodeV1). parted {I = I} c a' bs' x) g

pub single_row : SingleRow
unfolding report_under warnings_under warnings_of
single_row c =
    let a = approximation_of (converged c.fit.convergence) c.fit.point c.evaluation.posterior_information in
    let owns = owns_approximation (converged c.fit.convergence) c.fit.point c.evaluation.posterior_information in
    same_parts c owns.rows
    (zip_same (λ q r. band_by (rows_under built_in) (band_of a q r)) (λ q r. band_by (λ g. g ∷ []) (band_of a q r)) (own_band a) c.requested
    (rows_of c.band_rows))
    (ap (λ (b : Bool). warnings_with b c.measured c.fit c.evaluation a
    (diagnostics_of (length c.measured.observations) c.fit c.evaluation a) c.requested) owns.crosses)

-- ---- any two tables

bare_approximation_lem : (t u : Table) (a : Approximation)
    → bare_approximation (approximation_by (rows_under t) a) ≡ bare_approximation (approximation_by (rows_under u) a)
bare_approximation_lem t u (available g q) = refl
bare_approximation_lem t u (unavailable code) = refl

abbrev rowless : IntervalRows → Unit {0}
rowless rows = tt

bare_option : (t u : Table) (o : Option GaussianIntervalV1)
    → option_map rowless (option_map (rows_under t) o) ≡ option_map rowless (option_map (rows_under u) o)
bare_option t u None = refl
bare_option t u (Some g) = refl

bare_band_lem : (t u : Table) (b : Band) → bare_band (band_by (rows_under t) b) ≡ bare_band (band_by (rows_under u) b)
bare_band_lem t u b = rw (bare_option t u b.latent, bare_option t u b.future)

map_zip : {A B C D : Type 0} (m : C → D) (f : A → B → C) (xs : List A) (ys : List B) → map m (zip_with f xs ys) ≡ zip_with (λ a b. m (f a b)) xs ys
map_zip m f [] ys = refl
map_zip m f (a ∷ xs) [] = refl
map_zip {D = D} m f (a ∷ xs) (b ∷ ys) = ap (λ (ds : List D). m (f a b) ∷ ds) (map_zip m f xs ys)

-- the bands under a table are those without one, each told by its rows
pub covered_bands : (t : Table) (c : Finished) → (report_under t c).bands ≡ map (band_by (rows_under t)) (report_of c).bands
unfolding report_under report_of
covered_bands t c =
    let a = approximation_of (converged c.fit.convergence) c.fit.point c.evaluation.posterior_information in
    sym (map_zip (band_by (rows_under t)) (λ q r. band_of a q r) c.requested (rows_of c.band_rows))

pub rows_alone : RowsAlone
unfolding report_under warnings_under
rows_alone t u c =
    let a = approximation_of (converged c.fit.convergence) c.fit.point c.evaluation.posterior_information in
    let rows = rows_of c.band_rows in
    same_parts c (bare_approximation_lem t u a)
    (map_zip bare_band (λ q r. band_by (rows_under t) (band_of a q r)) c.requested rows
    ∙ zip_same (λ q r. bare_band (band_by (rows_under t) (band_of a q r))) (λ q r. bare_band (band_by (rows_under u) (band_of a q r)))
    (λ q r. bare_band_lem t u (band_of a q r)) c.requested rows
    ∙ sym (map_zip bare_band (λ q r. band_by (rows_under u) (band_of a q r)) c.requested rows))
    (crossing_alone (crosses_under t a) (crosses_under u a) c.measured c.fit c.evaluation a
    (diagnostics_of (length c.measured.observations) c.fit c.evaluation a) c.requested)

-- ---- the warnings

pub under_in_order : UnderInOrder
unfolding report_under warnings_under
under_in_order t c =
    let a = approximation_of (converged c.fit.convergence) c.fit.point c.evaluation.posterior_information in
    rising (crosses_under t a) c.measured c.fit c.evaluation a (diagnostics_of (length c.measured.observations) c.fit c.evaluation a) c.requested

pub under_once : UnderOnce
under_once t c = rising_distinct 0 _ (under_in_order t c)
