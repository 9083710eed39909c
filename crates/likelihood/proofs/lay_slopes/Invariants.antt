-- `lay_slopes` meets its contract: the first `i` slopes are laid over the slice, and the drops after them are still there. Assumes nothing.
use Rattle.std.proofs.Common.{◌≡◌, length, take, map}
use Rattle.definition.specs.Run.{drop_or0}
use Rattle.definition.specs.Likelihood.{slopes}
use Rattle.slices.specs.Slices.{laid_over}
use Rattle.likelihood.proofs.lay_slopes.Given as goal

abbrev pub invariant-loop-i : goal.invariant-loop-i
invariant-loop-i l = record {
  same_length : length l.out ≡ length l.initial.out;
  laid : l.out ≡ laid_over (take l.i (slopes l.step l.initial.out (map drop_or0 l.entries))) l.initial.out;
}
