-- `page::Bands::get` meets its contract. Assumes nothing.
use Rattle.coverage.specs.Table.{rows_in}
use Rattle.page.proofs.Laws.{band_lines}
use Rattle.page.proofs.BandsPlaces.get.Goals as goal

pub returns-in_err-band : goal.returns-in_err-band
returns-in_err-band c = rw c.from_residual.ensures (band_lines (rows_in c.args.self.now.table.now) (c.in_err-band.ensures))

pub returns : goal.returns
returns c = band_lines (rows_in c.args.self.now.table.now) (c.in_ok-band.ensures)
