-- `answer_text::Bands::get` meets its contract. Assumes nothing.
use Rattle.coverage.specs.Table.{rows_in}
use Rattle.answer_text.proofs.Laws.{band_texts}
use Rattle.answer_text.proofs.BandsPlaces.get.Goals as goal

pub returns-in_err-it : goal.returns-in_err-it
returns-in_err-it c = rw c.from_residual.ensures (band_texts (rows_in c.args.self.now.table.now) (c.in_err-it.ensures))

pub returns : goal.returns
returns c = band_texts (rows_in c.args.self.now.table.now) (c.in_ok-it.ensures)
