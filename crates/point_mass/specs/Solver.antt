-- The demonstration solver as a solver of the third demand: its refusal depends on the point alone, its entry at a distance on the point and that distance
-- alone. The theorem stands in proofs/Solver.antt.
use Rattle.std.specs.Prelude.{◌≤◌, ◌≡◌, true, not, List, length, take, Float}
use Rattle.numeric.specs.declared.DropUnit.{DropUnit}
use Rattle.definition.specs.Run.{Entry, entries}
use Rattle.definition.specs.declared.Point.{Point}
use Rattle.fresh_outcome.specs.Solver.{Solver, reply_at}
use Rattle.point_mass.specs.Flight.{is_sane, entry_at, Filled}

abbrev pub solver : DropUnit → Solver
solver unit = record { refuses = λ p. not (is_sane p); drops = λ p yards. entry_at p unit yards }

-- Theorem `filled_reply`: at a point that is not refused, with room for every distance, what `fill` leaves in the first places is the solver's reply.
abbrev pub FilledReply : Type 0
FilledReply =
    (p : Point) (unit : DropUnit) (yards : List Float) (entries₀ entries₁ : List Entry)
    → is_sane p ≡ true → length yards ≤ length entries₀ → Filled p unit yards entries₀ entries₁
    → entries (take (length yards) entries₁) ≡ reply_at (solver unit) p yards
