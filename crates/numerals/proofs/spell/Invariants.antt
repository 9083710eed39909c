-- The digits of what is left, and behind them those that are written.
use Rattle.std.proofs.Common.{◌≡◌, ◌++◌, drop, length}
use Rattle.numerals.specs.Numbers.{digits_of}
use Rattle.numerals.proofs.spell.Given as goal

abbrev pub invariant-loop-i : goal.invariant-loop-i
invariant-loop-i l = digits_of l.base l.i l.rest ++ drop l.i l.out ≡ digits_of l.base (length l.out) l.n
