-- The page of a report by its head, under a table, its lists read where a session stands.
use Rattle.std.specs.Prelude.{◌++◌, map}
use Rattle.definition.specs.Session.{State}
use Rattle.coverage.specs.Rows.{Table}
use Rattle.warnings.specs.Warnings.{codes_of}
use Rattle.report.specs.Reading.{report_in}
use Rattle.report.specs.declared.UncertaintyTruingReportV1.{UncertaintyTruingReportV1}
use Rattle.covered_report.specs.Reading.{covered_in}
use Rattle.report_text.specs.Writing.{Text}
use Rattle.report_text.specs.Lists.{present}
use Rattle.answer_text.specs.Answers.{texts_in}
use Rattle.page_text.specs.Page.{shot_line, band_line, warning_line, joined_lines}
use Rattle.page_text.specs.Pieces.{head_text}

unfoldable pub shown_page : Table → State → UncertaintyTruingReportV1 → Text
shown_page t x h =
    head_text t h ++
    (joined_lines (present h.observations (texts_in shot_line (λ p. p.observations) (report_in x))) ++
    (joined_lines (present h.predictive_bands (texts_in band_line (λ p. p.bands) (covered_in t x))) ++ joined_lines (map warning_line (codes_of h.warnings))))
