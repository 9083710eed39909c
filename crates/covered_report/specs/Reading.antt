-- What is read of a session under a coverage table, by where the session stands.
use Rattle.std.specs.Prelude.{Option, option_map}
use Rattle.definition.specs.Session.{State, finished_in}
use Rattle.coverage.specs.Rows.{Table, rows_under}
use Rattle.coverage.specs.Report.{approximation_by, CoveredReport, report_under}
use Rattle.report.specs.Reading.{ShowsWith}
use Rattle.report.specs.declared.UncertaintyTruingReportV1.{UncertaintyTruingReportV1}

-- the report that stands, under a table
abbrev pub covered_in : Table → State → Option CoveredReport
covered_in t x = option_map (report_under t) (finished_in x)

-- a head stands for a report under a table: each interval of its approximation by its rows
abbrev pub ShowsUnder : Table → Option UncertaintyTruingReportV1 → Option CoveredReport → Type 0
ShowsUnder t r p = ShowsWith (approximation_by (rows_under t)) r p

pub record ReportReadUnder (t : Table) (x : State) (r : Option UncertaintyTruingReportV1) : Type 0 where
  pub is : ShowsUnder t r (covered_in t x)
