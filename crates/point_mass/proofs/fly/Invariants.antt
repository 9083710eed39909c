-- `fly` meets its contract: with so many steps left, the flight is the one from where it stands. Assumes nothing.
use Rattle.std.proofs.Common.{◌≡◌, ℕ, ◌+◌}
use Rattle.point_mass.specs.Flight.{flight}
use Rattle.point_mass.proofs.fly.Given as goal

abbrev pub invariant-loop : goal.invariant-loop
invariant-loop l = record {
  left : (n : ℕ) → n + l.counter ≡ 4096 → flight n l.fn.k l.fn.x l.s ≡ flight 4096 l.fn.k l.fn.x l.fn.start;
}
