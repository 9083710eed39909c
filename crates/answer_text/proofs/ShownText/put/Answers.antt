-- `answer_text::Shown::put` meets its contract: its fields one after another. Assumes nothing.
use Rattle.std.proofs.Common.{◌≡◌, List, [], ◌∷◌, ◌++◌, append-nil, append_assoc, sym, ap, ◌∙◌}
use Rattle.words.specs.Words.{bytes, word_at}
use Rattle.report_text.specs.Writing.{Text}
use Rattle.report_text.specs.Writer.{Held, put}
use Rattle.report_text.specs.Texts.{led, opened, bracketed, parts_text}
use Rattle.report_text.proofs.Putting.{next_field, closing}
use Rattle.answer_text.specs.Answers.{shown_text}
use Rattle.answer_text.proofs.ShownText.put.Goals as goal

-- fields one after another
abbrev put_fields : List Text → Held → Held
put_fields [] h = h
put_fields (f ∷ fs) h = put_fields fs (put (led (f ∷ [])) h)

-- behind those that are there
more_fields : (g : Text) (gs fs : List Text) (h : Held) → put_fields fs (put (opened (g ∷ gs)) h) ≡ put (opened (g ∷ (gs ++ fs))) h
more_fields g gs [] h = ap (λ (l : List Text). put (opened (g ∷ l)) h) (sym (append-nil gs))
more_fields g gs (f ∷ fs) h =
    ap (put_fields fs) (next_field g gs f h) ∙ more_fields g (gs ++ (f ∷ [])) fs h
    ∙ ap (λ (l : List Text). put (opened (g ∷ l)) h) (append_assoc gs (f ∷ []) fs)

record_put : (f : Text) (fs : List Text) (h : Held) → put (bytes ")") (put_fields fs (put (opened (f ∷ [])) h)) ≡ put (bracketed (f ∷ fs)) h
record_put f fs h = ap (put (bytes ")")) (more_fields f [] fs h) ∙ closing (f ∷ fs) h

pub returns : goal.returns
unfolding shown_text parts_text word_at
returns c =
    rw (
      c.close.ensures,
      c.field-12.ensures,
      c.field-11.ensures,
      c.field-10.ensures,
      c.field-9.ensures,
      c.field-8.ensures,
      c.field-7.ensures,
      c.field-6.ensures,
      c.field-5.ensures,
      c.field-4.ensures,
      c.field-3.ensures,
      c.field-2.ensures,
      c.field.ensures,
      c.open.ensures,
    )
    (record_put _ (_ ∷ _ ∷ _ ∷ _ ∷ _ ∷ _ ∷ _ ∷ _ ∷ _ ∷ _ ∷ _ ∷ _ ∷ []) _)
