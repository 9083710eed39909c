-- What each line comes to, over plain values. Assumes nothing.
use Rattle.std.specs.Prelude.{None, Some, Option, option_map}
use Prim.Native.Nat.{ℕ, suc, ◌+◌, ◌≤◌, min}
use mathlib.Core.Path.{◌≡◌, refl, sym, ap, ◌∙◌, subst}
use mathlib.Core.Bool.{Bool, true, false, cond, true≢false}
use mathlib.Core.List.{[], ◌∷◌, ◌++◌}
use native.Mathlib.Omega.{arith}
use borrow.Author.Tests.{ltb-true, ltb-false}
use lib.Dec.{ltb}
use lib.ListN.{length, drop, length-append, take-append-drop}
use Rattle.definition.specs.Request.{Opening}
use Rattle.definition.specs.Laws.{put}
use Rattle.definition.specs.Whole.{whole}
use Rattle.definition.specs.Session.{more_of, says_of, Opened}
use Rattle.definition.specs.declared.Step.{Step}
use Rattle.definition.specs.declared.Step.TheVariants as step
use Rattle.lines.specs.Reading.{form_says, form_if}
use Rattle.lines.specs.declared.Form.{Form as Read}
use Rattle.lines.specs.declared.Line.{Line}
use Rattle.coverage.specs.Rows.{Table}
use Rattle.coverage.specs.Table.{rows_in}
use Rattle.coverage.specs.Report.{CoveredReport, report_under}
use Rattle.coverage.specs.declared.Table.{Table as TableHeld}
use Rattle.coverage.proofs.TableRows.{rows_most}
use Rattle.covered_report.specs.Reading.{covered_in}
use Rattle.editing.specs.Meaning.{state, seen}
use Rattle.editing.specs.declared.Session.{Session}
use Rattle.editing.specs.Meaning.{Answer as Given}
use Rattle.demands.specs.Calls.{Call, finished_at}
use Rattle.demands.specs.Demands.{Meets, count}
use Rattle.report_text.proofs.Writing as writing
use Rattle.report_text.specs.Writing.{Text, Writes}
use Rattle.report_text.specs.Writer as writer
use Rattle.report_text.specs.Writer.{Wrote}
use Rattle.report_text.specs.declared.writer.Writer.{Writer}
use Rattle.report_text.proofs.Lengths.{asked_length, page_count_length, malformed_length}
use Rattle.report_text.specs.Texts.{asked_text, page_count_text, malformed_text, bracketed}
use Rattle.numerals.specs.Numbers.{count_text}
use Rattle.words.specs.Words.{word_at, place_in}
use Rattle.words.specs.declared.Word.TheVariants as word
use Rattle.answer_text.specs.Answers as answers
use Rattle.answer_text.specs.Answers.{line}
use Rattle.answer_text.proofs.Fits.{answer_fits}
use Rattle.page_text.specs.Page.{lines_in, page_in}
use Rattle.page.proofs.Laws.{page_length}
use Rattle.conversation.specs.Conversation.{Conversation, Answer, malformed_at, Answered, answer_text, malformed_line, collected, in_place, opens, calls}
use Rattle.conversation.specs.Conversation.{said_text, page_answer, shown_in, takes_shot, answer_to, next_line}
use Rattle.requests.specs.Kept.{held, Keeps}
use Rattle.conversation.specs.Tracks.{Tracks, response_says, response_text, Responds, Fills, Answers, AnswersUnended}
use Rattle.conversation.specs.declared.Section.{Section}
use Rattle.conversation.specs.declared.Section.TheVariants.{Closed, Shots, Priors, Distances}
use Rattle.requests.specs.declared.Request.{Request}
use Rattle.conversation.specs.declared.Conversation.{Conversation as Held}
use Rattle.conversation.specs.declared.Response.{Response}
use Rattle.conversation.specs.declared.Response.TheVariants as response
use Rattle.conversation.proofs.Standing.{called, opened, counts, finished}

-- ---- in its place or not

module _ {h : Held} {u : Conversation} (k : Tracks h u) (f : Section → Bool) (a : Answered) (b : Bool) (e : b ≡ f h.section) {g : Held} {r : Option Response} where
  pub late : b ≡ false → Responds g r (malformed_line u) → Responds g r (in_place (f u.section) u a)
  late n d = subst (λ (v : Bool). Responds g r (in_place v u a)) (sym n ∙ e ∙ ap f k.section) d

  pub timely : b ≡ true → Responds g r a → Responds g r (in_place (f u.section) u a)
  timely n d = subst (λ (v : Bool). Responds g r (in_place v u a)) (sym n ∙ e ∙ ap f k.section) d

pub is_shots : (s : Section) → takes_shot s ≡ true → s ≡ Shots
is_shots Closed e = absurd (true≢false (sym e))
is_shots Shots e = refl
is_shots Priors e = absurd (true≢false (sym e))
is_shots Distances e = absurd (true≢false (sym e))

-- ---- what is answered

module _ (h : Held) (u : Conversation) (k : Tracks h u) where
  pub malformed_responds : Responds h (Some (response.Malformed h.lines)) (malformed_line u)
  malformed_responds = record { conversation = k; says = ap malformed_at k.lines }

  pub collected_responds : (s section : Section) (r : Request) (o : Opening) → s ≡ section → Keeps r o
      → Responds (record { lines = h.lines; section = s; request = r; session = h.session; table = h.table }) None (collected u section o)
  collected_responds s section r o e q = record { conversation = record { lines = k.lines; section = e; request = q; session = k.session; table = k.table }; says = refl }

  pub call_responds : (x : Call) (a : Given) → Meets x h.session a
      → Responds (record { lines = h.lines; section = h.section; request = h.request; session = a.session; table = h.table }) (Some (response.Says a.step)) (calls u x)
  call_responds x a m =
      let c = called h.session u.opening u.at k.session x a m in
      record { conversation = record { lines = k.lines; section = k.section; request = k.request; session = c.stands; table = k.table }; says = ap Answer.says c.says }

  pub open_responds : (a : Given) → Opened seen (held h.request) (says_of a.step) a.session
      → Responds (record { lines = h.lines; section = Closed; request = h.request; session = a.session; table = h.table }) (Some (response.Says a.step)) (opens u)
  open_responds a m =
      let c = opened u.request a (subst (λ (o : Opening). Opened seen o (says_of a.step) a.session) k.request.same m) in
      record { conversation = record { lines = k.lines; section = refl; request = k.request; session = c.stands; table = k.table }; says = ap Answer.says c.says }

  pub asked_responds : (n : ℕ) → n ≡ count h.session → Responds h (Some (response.Asked n)) (u, Answer.count (put (whole u.opening) u.at.run))
  asked_responds n e = record { conversation = k; says = ap Answer.count (e ∙ counts h.session u.opening u.at k.session) }

  pub page_responds : Responds h (Some response.Page) (u, Answer.shown_page)
  page_responds = record { conversation = k; says = refl }

  shown : covered_in (rows_in h.table) (state h.session) ≡ shown_in u
  shown =
      ap (option_map (report_under (rows_in h.table))) (finished h.session u.opening u.at k.session)
      ∙ ap (λ (t : Table). option_map (report_under t) (finished_at u.opening u.at)) k.table

  pub text_so : (r : Option Response) (a : Answer) → response_says r ≡ a → response_text (rows_in h.table) h.session r ≡ answer_text u a
  text_so r a e = by r ∙ ap (answer_text u) e
    where
      by : (r : Option Response) → response_text (rows_in h.table) h.session r ≡ answer_text u (response_says r)
      by None = refl
      by (Some (response.Malformed n)) = refl
      by (Some (response.Asked n)) = refl
      by (Some response.Page) = ap page_answer shown
      by (Some (response.Says step)) = ap (λ (p : Option CoveredReport). line (said_text (says_of step) p)) shown

-- ---- texts

-- what an answer says is the answer's text
pub said_same : (x : Step) (p : Option CoveredReport) → answers.said_text x p ≡ said_text (says_of x) p
said_same (step.Question mv bc list) p = refl
said_same step.Report p = refl
said_same (step.Refused r) p = refl

pub asked_word : (n : ℕ) → bracketed (word_at (place_in word.Asked) ∷ count_text n ∷ []) ≡ asked_text n
unfolding word_at asked_text
asked_word n = refl

pub malformed_word : (n : ℕ) → bracketed (word_at (place_in word.Malformed) ∷ count_text n ∷ []) ≡ malformed_text n
unfolding word_at malformed_text
malformed_word n = refl

pub page_word : (n : ℕ) → bracketed (word_at (place_in word.Page) ∷ count_text n ∷ []) ≡ page_count_text n
unfolding word_at page_count_text
page_word n = refl

-- the page and its head fit the buffer
page_fits : (t : Table) → length t ≤ 8 → (s : Session) → length (page_answer (covered_in t (state s))) ≤ 131072
page_fits t few s =
    let shown = covered_in t (state s) in
    let head = page_count_text (length (lines_in shown)) in
    omega (
      arith,
      page_count_length (length (lines_in shown)),
      length-append head (10 ∷ []),
      length-append (line head) (page_in shown),
      page_length t few s,
    )

said_fits : (w : TableHeld) (s : Session) (x : Step) → length (line (said_text (says_of x) (covered_in (rows_in w) (state s)))) ≤ 131072
unfolding answers.answer_text
said_fits w s x = subst (λ (t : Text). length (line t) ≤ 131072) (said_same x (covered_in (rows_in w) (state s)))
    (answer_fits (rows_in w) (rows_most w) (record { step = x; session = s }))

-- every response fits the buffer
pub response_fits : (w : TableHeld) (s : Session) (r : Option Response) → length (response_text (rows_in w) s r) ≤ 131072
response_fits w s None = omega arith
response_fits w s (Some (response.Malformed n)) = omega (arith, malformed_length n, length-append (malformed_text n) (10 ∷ []))
response_fits w s (Some (response.Asked n)) = omega (arith, asked_length n, length-append (asked_text n) (10 ∷ []))
response_fits w s (Some response.Page) = page_fits (rows_in w) (rows_most w) s
response_fits w s (Some (response.Says x)) = said_fits w s x

-- a text that fits is written whole
pub fills : {out after_call : Text} {n : ℕ} {text : Text} → length text ≤ length out → Writes out 0 after_call n text → Fills out after_call n text
fills {out} {after_call} {n} {text} h w =
    let b = writing.whole w (omega arith) in
    let e : n ≡ length text = omega (arith, b.1) in
    record {
      stands =
          sym (take-append-drop n after_call) ∙ ap (λ (s : Text). s ++ drop n after_call) b.0 ∙ ap (λ (s : Text). text ++ s) w.keeps
          ∙ ap (λ (m : ℕ). text ++ drop m out) e;
      counts = e;
    }

-- what is answered stands whole in the buffer
pub answered_fills :
    {out after_call : Text} {n : ℕ} (h : Held) (u : Conversation) → Tracks h u → (r : Option Response) (a : Answer) → response_says r ≡ a → length out ≡ 131072
    → Writes out 0 after_call n (response_text (rows_in h.table) h.session r) → Fills out after_call n (answer_text u a)
answered_fills {out} {after_call} {n} h u k r a e l w = subst (Fills out after_call n) (text_so h u k r a e)
    (fills (omega (arith, response_fits h.table h.session r)) w)

pub malformed_fills :
    {out after_call : Text} {n : ℕ} (m : ℕ) → length out ≡ 131072 → Writes out 0 after_call n (line (malformed_text m))
    → Fills out after_call n (line (malformed_text m))
malformed_fills {out} {after_call} {n} m l w = fills (omega (arith, malformed_length m, length-append (malformed_text m) (10 ∷ []))) w

-- a putting keeps the buffer
pub same_buffer : (w v : Writer) (text : Text) → Wrote w v text → w.out.ghost_name ≡ v.out.ghost_name
unfolding writer.held writer.put
same_buffer w v text e = sym (ap (λ (h : writer.Held). h.buffer) e)

-- a line's answer, once it is written
pub line_answers :
    {h k : Held} {l : Option Line} {out after_line : Text} {n : ℕ} {r : Option Response} → length out ≡ 131072
    → Writes out 0 after_line n (response_text (rows_in k.table) k.session r) → ((t : Conversation) → Tracks h t → Responds k r (answer_to (next_line t) (form_if l)))
    → Answers h l out after_line k n
line_answers {h} {k} {l} {out} {after_line} {n} {r} e w d =
    record { room = writing.same_room w; goes = λ t m. let a = d t m in (a.conversation, answered_fills k _ a.conversation r _ a.says e w) }

pub unended_answers :
    {h : Held} {out after_line : Text} {n m : ℕ} → length out ≡ 131072
    → Writes out 0 after_line n (line (bracketed (word_at (place_in word.Malformed) ∷ count_text m ∷ []))) → m ≡ more_of h.lines
    → AnswersUnended h out after_line n
unended_answers {h} {out} {after_line} {n} {m} e w d = record {
  room = writing.same_room w;
  goes = λ t k.
      subst (Fills out after_line n) (ap (λ (i : ℕ). line (malformed_text i)) (d ∙ ap more_of k.lines))
      (malformed_fills m e (writing.as_text w (ap line (malformed_word m))));
}

-- by the form that is read
pub by_form : (f g : Option Read) → f ≡ g → (h : Held) (r : Option Response) (u : Conversation) → Responds h r (answer_to u (form_says g))
    → Responds h r (answer_to u (form_says f))
by_form f g e h r u d = subst (λ (x : Option Read). Responds h r (answer_to u (form_says x))) (sym e) d

-- the next line's number
pub more_is : (n m : ℕ) → m ≡ min (n + 1) 18446744073709551615 → n ≤ 18446744073709551615 → m ≡ more_of n
unfolding more_of
more_is n m e h = by (ltb n 0xffff_ffff_ffff_ffff) refl where
  by : (b : Bool) → ltb n 0xffff_ffff_ffff_ffff ≡ b → m ≡ cond b (suc n) n
  by true f = omega (arith, e, h, ltb-true n 0xffff_ffff_ffff_ffff f)
  by false f = omega (arith, e, h, ltb-false n 0xffff_ffff_ffff_ffff f)
