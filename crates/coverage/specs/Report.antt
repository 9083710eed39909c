-- L2: the report under a laboratory's coverage table. Every interval comes once per row, and whether one crosses the fit's bounds is judged by the last row. The
-- theorems stand in proofs/Report.antt under the names that stand here.
use Rattle.std.specs.Prelude.{◌≡◌, Bool, true, false, cond, List, [], ◌∷◌, map, Float, option_map}
use Rattle.interval.specs.Interval.{interval_of}
use Rattle.interval.specs.declared.GaussianIntervalV1.{GaussianIntervalV1}
use Rattle.definition.specs.Summary.{Approximation, available, unavailable, interval95, BandWith, Band, ReportWith, Finished, Warns, report_with}
use Rattle.definition.specs.Summary.{where_available, crosses_bounds_of, warned_by, warnings_of}
use Rattle.definition.specs.Laws.{RisingFrom, Distinct, without}
use Rattle.definition.specs.declared.TruingCovarianceV1.{TruingCovarianceV1}
use Rattle.definition.specs.declared.TruingGaussianApproximationV1.{TruingGaussianApproximationV1}
use Rattle.definition.specs.declared.TruingApproximationFailureCodeV1.{TruingApproximationFailureCodeV1}
use Rattle.definition.specs.declared.TruingUncertaintyWarningCodeV1.TheVariants as Warning
use Rattle.definition.specs.declared.TruingUncertaintyWarningCodeV1.{TruingUncertaintyWarningCodeV1}
use Rattle.coverage.specs.declared.CoverageRow.{CoverageRow}
use Rattle.coverage.specs.Rows.{Table, built_in, last_row, at_row, rows_under}

-- ---- a report by what its intervals are told by

-- the approximation where it is available, I being what an interval is told by
pub record GaussianWith (I : Type 0) : Type 0 where
  pub covariance : TruingCovarianceV1
  pub muzzle_velocity : I
  pub ballistic_coefficient : I
  pub correlation : Float
  pub condition_number : Float

pub data ApproximationWith (I : Type 0) : Type 0 where
  told : GaussianWith I → ApproximationWith I
  withheld : TruingApproximationFailureCodeV1 → ApproximationWith I

module _ {I : Type 0} (tell : GaussianIntervalV1 → I) where
  abbrev pub gaussian_by : TruingGaussianApproximationV1 → GaussianWith I
  gaussian_by g = record {
    covariance = g.covariance;
    muzzle_velocity = tell g.muzzle_velocity_interval_95;
    ballistic_coefficient = tell g.ballistic_coefficient_interval_95;
    correlation = g.mv_bc_correlation;
    condition_number = g.scaled_information_condition_number;
  }

  -- the scaled covariance is no field of the report
  abbrev pub approximation_by : Approximation → ApproximationWith I
  approximation_by (available g q) = told (gaussian_by g)
  approximation_by (unavailable code) = withheld code

  abbrev pub band_by : Band → BandWith I
  band_by b = record { range = b.range; predicted_drop = b.predicted_drop; latent = option_map tell b.latent; future = option_map tell b.future }

  -- each interval told in this way
  abbrev pub report_told : Warns → Finished → ReportWith (ApproximationWith I) I
  report_told warnings c = report_with approximation_by band_by warnings c

-- ---- the report under a table

-- an interval by its rows
abbrev pub IntervalRows : Type 0
IntervalRows = List GaussianIntervalV1

abbrev pub CoveredApproximation : Type 0
CoveredApproximation = ApproximationWith IntervalRows

abbrev pub CoveredBand : Type 0
CoveredBand = BandWith IntervalRows

abbrev pub CoveredReport : Type 0
CoveredReport = ReportWith CoveredApproximation IntervalRows

-- whether a parameter's interval at the last row reaches beyond the fit's bounds
unfoldable pub crosses_under : Table → Approximation → Bool
crosses_under t a =
    where_available (λ g. crosses_bounds_of (at_row g.muzzle_velocity_interval_95 (last_row t)) (at_row g.ballistic_coefficient_interval_95 (last_row t))) a

-- the source's warnings, in its order, with that of the crossing so judged
unfoldable pub warnings_under : Table → Warns
warnings_under t m f e a d requested = warned_by (crosses_under t) m f e a d requested

unfoldable pub report_under : Table → Finished → CoveredReport
report_under t c = report_told (rows_under t) (warnings_under t) c

-- ---- what holds of every table

-- Theorem `row_direct`: an interval at a row is the one that its estimate and its variance have at that level and factor.
abbrev pub RowDirect : Type 0
RowDirect = (r : CoverageRow) (estimate variance : Float)
    → interval_of r.level r.factor estimate variance ≡ option_map (λ g. at_row g r) (interval95 estimate variance)

-- Theorem `single_row`: under the built-in row the report is the one without a table, each interval being its own only row.
abbrev pub SingleRow : Type 0
SingleRow = (c : Finished) → report_under built_in c ≡ report_told (λ g. g ∷ []) warnings_of c

-- a report without the rows of its intervals, of which only stays whether there are any, and without the code of the crossing
abbrev pub bare_approximation : CoveredApproximation → ApproximationWith (Unit {0})
bare_approximation (told g) =
    told (record {
      covariance = g.covariance;
      muzzle_velocity = tt;
      ballistic_coefficient = tt;
      correlation = g.correlation;
      condition_number = g.condition_number;
    })
bare_approximation (withheld code) = withheld code

abbrev pub bare_band : CoveredBand → BandWith (Unit {0})
bare_band b = record {
  range = b.range;
  predicted_drop = b.predicted_drop;
  latent = option_map (λ g. tt) b.latent;
  future = option_map (λ g. tt) b.future;
}

abbrev pub bare : CoveredReport → ReportWith (ApproximationWith (Unit {0})) (Unit {0})
bare p = record {
  schema_version = p.schema_version;
  point = p.point;
  iterations = p.iterations;
  is_converged = p.is_converged;
  priors = p.priors;
  observations = p.observations;
  baseline = p.baseline;
  diagnostics = p.diagnostics;
  approximation = bare_approximation p.approximation;
  bands = map bare_band p.bands;
  warnings = without Warning.IntervalCrossesFitBounds p.warnings;
}

-- Theorem `rows_alone`: two tables give reports that differ in the rows of the intervals and in the code of the crossing alone: no presence of an interval
-- depends on the table. No question and no refusal does: a run (Whole.antt of the definition) takes no table.
abbrev pub RowsAlone : Type 0
RowsAlone = (t u : Table) (c : Finished) → bare (report_under t c) ≡ bare (report_under u c)

-- Theorems `under_in_order` and `under_once`: its warnings stand in the source's order, each once, under every table.
abbrev pub UnderInOrder : Type 0
UnderInOrder = (t : Table) (c : Finished) → RisingFrom 0 (report_under t c).warnings

abbrev pub UnderOnce : Type 0
UnderOnce = (t : Table) (c : Finished) → Distinct (report_under t c).warnings
