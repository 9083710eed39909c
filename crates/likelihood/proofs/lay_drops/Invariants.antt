-- `lay_drops` meets its contract: the first `i` drops are laid over the slice. Assumes nothing.
use Rattle.std.proofs.Common.{◌≡◌, length, take, map}
use Rattle.definition.specs.Run.{drop_or0}
use Rattle.slices.specs.Slices.{laid_over}
use Rattle.likelihood.proofs.lay_drops.Given as goal

abbrev pub invariant-loop-i : goal.invariant-loop-i
invariant-loop-i l = record {
  same_length : length l.out ≡ length l.initial.out;
  laid : l.out ≡ laid_over (take l.i (map drop_or0 l.entries)) l.initial.out;
}
