-- `stream::Reader::scan` meets its contract. The invariant: what is read, and what is left up to the line feed.
use Rattle.stream.proofs.Bytes.{Scanning}
use Rattle.stream.proofs.Reader.scan.Given as goal

abbrev pub invariant-loop-i : goal.invariant-loop-i
invariant-loop-i l = Scanning l.bytes l.initial.self l.at l.self l.i
