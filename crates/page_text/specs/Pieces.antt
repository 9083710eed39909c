-- The page by the values of the code: the lines before the lists, under a table.
use Rattle.std.specs.Prelude.{◌++◌}
use Rattle.definition.specs.Meaning.{approximation_says}
use Rattle.coverage.specs.Rows.{Table, rows_under}
use Rattle.coverage.specs.Report.{approximation_by}
use Rattle.report.specs.declared.UncertaintyTruingReportV1.{UncertaintyTruingReportV1}
use Rattle.report_text.specs.Writing.{Text}
use Rattle.page_text.specs.Page.{speed_line, coefficient_line, chi_square_line}

unfoldable pub head_text : Table → UncertaintyTruingReportV1 → Text
head_text t h =
    let a = approximation_by (rows_under t) (approximation_says h.approximation) in
    speed_line h.map_muzzle_velocity_fps a ++ (coefficient_line h.map_ballistic_coefficient a ++ chi_square_line h.diagnostics.chi_square)
