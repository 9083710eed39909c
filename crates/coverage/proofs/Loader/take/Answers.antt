-- `Loader::take` keeps what holds of a reader.
use Rattle.std.proofs.Math.Logic.{∥∥₁_map}
use Rattle.coverage.specs.Held.{held}
use Rattle.coverage.proofs.Fitting.{fits_step}
use Rattle.coverage.proofs.Loader.take.Goals as goal

pub invariant_of-self : goal.invariant_of-self
invariant_of-self c =
    let was = c.args.self.now in
    record {
      fits =
          rw (c.unwrap_or-self.ensures, c.next-spot.ensures.spot, c.next-spot.ensures.rows)
          (∥∥₁_map was.fits (λ h. fits_step was.spot (held was.rows) c.args.c c.line-line.result h.0 h.1));
    }
