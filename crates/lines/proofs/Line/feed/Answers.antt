-- `lines::Line::feed` meets its contract. Assumes nothing.
use Rattle.std.proofs.Common.{sym, ap, ◌∙◌, ◌≡◌}
use Rattle.std.proofs.Common.{length, take, [], ◌∷◌, ◌++◌, refl, Option, Some}
use borrow.Author.Tests.{le-ltb}
use Rattle.words.specs.declared.Word.TheVariants as word
use Rattle.lines.specs.Reading.{feed_of, after_first, reading_or, word_reading}
use Rattle.lines.specs.declared.Reading.{Reading}
use Rattle.lines.specs.declared.Line.{Line}
use Rattle.definition.specs.Run.{Entry}
use Rattle.fixed_list.specs.FixedList.{FixedList}
use Rattle.fixed_list.proofs.Pushed.{pushed}
use Rattle.lines.proofs.AfterFirst.{after_none, after_some, after_no, five_kept}
use Rattle.lines.proofs.Line.feed.Goals.{then-not-is_empty, else-not-is_empty}
use Rattle.lines.proofs.Line.feed.Goals as goal

abbrev line : FixedList Reading → Option (FixedList Entry) → Line
line ws es = record { words = ws; entries = es }

pub returns-then-is_none : goal.returns-then-is_none
unfolding feed_of
returns-then-is_none c =
    let l = c.args.self.now in
    let x = word_reading c.args.s.now in
    let e = after_no l.words.items l.entries (reading_or x word.Missing) (c.if-is_none.ensures) in
    let f = five_kept l.words.items x (sym c.len.ensures.value ∙ c.if-len-eq5.true) in
    rw (le-ltb 20 (length c.args.s.now) c.if-s-gt20.false) (λ i. Some (line (record { items = f i }) (e i)))

pub returns : goal.returns
unfolding feed_of
returns c =
    let e = c.try_push.ensures in
    let l = c.args.self.now in
    let k = c.if-not-is_empty.self in
    let x = c.of-word.result in
    let d = reading_or x word.Missing in
    let f : c.try_push.new.self ≡ record { items = take 5 (k.words.items ++ (x ∷ [])) } =
    ap (λ zs. record { items = zs }) (pushed 5 k.words c.try_push.new.self x c.try_push.result e.variant e.ok e.err e.full) in
    let g : k ≡ line l.words (after_first l.words.items l.entries d) =
    elim c.if-not-is_empty.branch [
      | then-not-is_empty w ↦ w.self-is ∙ ap (line l.words) (w.with_entry.ensures ∙ after_some l.words.items l.entries d (sym c.is_empty.ensures ∙ w.if-not-is_empty.true))
      | else-not-is_empty w ↦ w.self-is ∙ ap (line l.words) (after_none l.words.items l.entries d (sym c.is_empty.ensures ∙ w.if-not-is_empty.false))
    ] in
    rw (f, g, c.of-word.ensures, le-ltb 20 (length c.args.s.now) c.if-s-gt20.false) refl
