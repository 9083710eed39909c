-- What stands at the place in both lists makes the band.
use Rattle.std.proofs.Common.{sym, ap, ◌∙◌}
use Rattle.std.specs.Prelude.{Some}
use Rattle.report.proofs.Laws.{zip_get}
use Rattle.report.proofs.band_at.Goals as goal

pub returns : goal.returns
returns c =
    ap Some c.band.ensures ∙ sym (zip_get _ c.args.requested.now _ c.args.i _ _ (sym c.place.ensures ∙ c.in_ok-d.was) (sym c.get.ensures ∙ c.in_ok-row.was))
