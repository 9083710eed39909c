-- `next_iteration` with an iteration left: one more is begun.
use Rattle.std.proofs.Common.{arith, ◌-◌}
use Rattle.fitting.specs.Meaning.{left_of, iterations_of}
use Rattle.fitting.proofs.Laws.{bind_assoc, some_left}
use Rattle.fitting.proofs.next_iteration.Goals as goal

pub returns : goal.returns
returns c =
    let g = c.args.g in
    let k = c.iterations_left-left.result - 1 in
    record {
      leads = λ m ds.
          simp (
            some_left m (left_of g) (100 - (100 - k)) (iterations_of g) (100 - k) g.point g.current g.damping (omega arith) (omega arith),
            bind_assoc,
          );
    }
