-- `stream::State::feed` meets its contract: up to the end of a line, which is answered, or to the end of the bytes. Assumes nothing.
use Rattle.std.proofs.Common.{◌∙◌, ap}
use Rattle.lines.specs.Reading.{form_if}
use Rattle.stream.proofs.Bytes.{feed_line, feed_none, ends_line}
use Rattle.stream.proofs.State.feed.Goals as goal

pub returns-in_default : goal.returns-in_default
returns-in_default c = feed_none c.args.self.now c.args.bytes.now c.args.at c.scan.new.self c.in_default.ensures c.args.out.now

pub returns : goal.returns
returns c =
    let q = c.scan.new.self in
    feed_line c.args.self.now c.args.bytes.now c.args.at q c.in-Some.next c.in-Some.ensures c.args.out.now c.answer-len.new.out c.take.new.self.line
    c.answer-len.new.self c.answer-len.result c.new-self.result
    (λ s k. ap (λ r. form_if r.line) c.take.ensures ∙ ends_line q s k)
    c.answer-len.ensures c.new-self.ensures
