-- The digits that are left, read on from here, give what all of them give.
use Rattle.std.proofs.Common.{◌≡◌, ◌<◌, ◌^◌, drop}
use Rattle.numerals.specs.Numbers.{number_from, within64}
use Rattle.numerals.proofs.number.Given as goal

abbrev pub invariant-loop-c : goal.invariant-loop-c
invariant-loop-c l = (l.m < 2 ^ 64) × (within64 (number_from l.base l.m (drop l.c-index l.s)) ≡ within64 (number_from l.base 0 l.s))
