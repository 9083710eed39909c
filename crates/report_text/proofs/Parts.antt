-- The parts of a report make its text. Assumes nothing.
use mathlib.Core.Path.{◌≡◌, refl}
use mathlib.Core.List.{List}
use Rattle.coverage.specs.Rows.{Table, rows_under}
use Rattle.coverage.specs.Report.{approximation_by, CoveredBand}
use Rattle.report.specs.Report.{Results, seen_with, baseline_says}
use Rattle.report.specs.declared.UncertaintyTruingReportV1.{UncertaintyTruingReportV1}
use Rattle.report_text.specs.Texts.{results_text, baseline_text, bands_text, report_text, parts_text}

pub report_parts : (t : Table) (h : UncertaintyTruingReportV1) (results entered : Results) (bands : List CoveredBand)
    → parts_text t h (results_text results) (baseline_text (baseline_says h.baseline entered)) (bands_text bands)
    ≡ report_text (seen_with (approximation_by (rows_under t)) h results entered bands)
unfolding parts_text report_text
report_parts t h results entered bands = refl
