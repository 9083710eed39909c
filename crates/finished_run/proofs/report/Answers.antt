-- `report`: by its parts, where a report stands.
use Rattle.finished_run.proofs.Reading.{shown}
use Rattle.finished_run.proofs.report.Goals as goal

pub returns : goal.returns
returns c =
    shown c.args.s c.report.result _ _ _ _ (cc) c.report.ensures c.results_count-n.ensures c.bands_count-m.ensures c.any_outside-outside.ensures
    c.baseline_of-baseline.ensures
