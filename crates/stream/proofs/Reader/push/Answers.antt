-- `stream::Reader::push` meets its contract. Assumes nothing.
use Rattle.std.proofs.Common.{false, refl}
use borrow.Author.Tests.{eq-eqb, ne_eqb}
use Rattle.fixed_list.proofs.Pushed.{pushed_first}
use Rattle.lines.specs.Reading.{take_of}
use Rattle.stream.specs.Bytes.{uncut, cut_from}
use Rattle.stream.proofs.Bytes.{reads_blank, reads_more}
use Rattle.stream.proofs.Reader.push.Goals as goal

pub returns-then-c-eq32 : goal.returns-then-c-eq32
returns-then-c-eq32 c = λ s k.
    let h = c.args.self.now in
    rw c.take.ensures
    (reads_blank h s k c.args.c (take_of h.line h.word.items h.first false) c.new-self.result (eq-eqb c.args.c 32 c.if-c-eq32.true) refl c.new-self.ensures)

pub returns-else-c-eq32 : goal.returns-else-c-eq32
returns-else-c-eq32 c = λ s k.
    let h = c.args.self.now in
    let e = c.try_push.ensures in
    reads_more h s k c.args.c c.try_push.new.self (ne_eqb c.args.c 32 c.if-c-eq32.false)
    (pushed_first 32 h.word c.try_push.new.self c.args.c c.try_push.result (cut_from uncut s).word e.variant e.ok e.err e.full k.word)
