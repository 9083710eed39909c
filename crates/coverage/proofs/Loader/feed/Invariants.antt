-- `Loader::feed` meets its contract. The loop's invariant: the bytes before the index are fed.
use Rattle.std.proofs.Common.{◌≡◌, take}
use Rattle.coverage.specs.Reading.{fed_all}
use Rattle.coverage.specs.Table.{standing}
use Rattle.coverage.proofs.Loader.feed.Given as goal

abbrev pub invariant-loop-c : goal.invariant-loop-c
invariant-loop-c l = standing l.self ≡ fed_all (standing l.initial.self) (take l.c-index l.bytes)
