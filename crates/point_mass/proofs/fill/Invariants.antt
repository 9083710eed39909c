-- `fill` meets its contract: the first `i` entries are laid over the list. Assumes nothing.
use Rattle.std.proofs.Common.{◌≡◌, length, take}
use Rattle.slices.specs.Slices.{laid_over}
use Rattle.point_mass.specs.Flight.{entries_at}
use Rattle.point_mass.proofs.fill.Given as goal

abbrev pub invariant-loop-i : goal.invariant-loop-i
invariant-loop-i l = record {
  same_length : length l.entries ≡ length l.initial.entries;
  laid : l.entries ≡ laid_over (take l.i (entries_at l.p l.unit l.distances)) l.initial.entries;
}
