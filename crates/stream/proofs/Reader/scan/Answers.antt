-- `stream::Reader::scan` meets its contract. Assumes nothing.
use Rattle.stream.proofs.Bytes.{scan_on}
use Rattle.stream.proofs.Reader.scan.Goals as goal

pub loop-i-preserved : goal.loop-i-preserved
loop-i-preserved c =
    let l = c.loop-i in
    scan_on c.args.bytes.now c.args.self.now c.args.at l.self l.i l.invariant c.loop-i-test.true c.push.new.self c.if-c-eq10.false c.push.ensures
