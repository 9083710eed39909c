-- The three demands, by induction over the calls. The invariant: what a session stands for is what is left of the run or of the last edit.
use Rattle.std.proofs.Common.{◌≡◌, ◌↔◌, ℕ, suc, ◌≤◌, ◌<◌, Bool, true, false, cond, eqb, List, [], ◌∷◌, ◌++◌, map, length, Float, Option, None, Some}
use Rattle.std.proofs.Common.{refl, sym, ap, ◌∙◌, subst, arith, lt-ltb}
use Rattle.definition.specs.Request.{Opening}
use Rattle.definition.specs.Run.{Run, done, refuse, ask, bind, Entry, Reply, refused, entries, Which, shots, distances, new}
use Rattle.definition.specs.Host.{questions}
use Rattle.definition.specs.Likelihood as likelihood
use Rattle.definition.specs.Fit as fit
use Rattle.definition.specs.Summary.{Finished, Report, report_of}
use Rattle.coverage.specs.Rows.{Table, rows_under}
use Rattle.coverage.specs.Report.{band_by, CoveredReport, report_under}
use Rattle.definition.specs.Whole.{Edit, put_in, take_out, exchange, placed, edit, whole, run, checked_measured, checked_requested}
use Rattle.definition.specs.Laws.{Asks, put}
use Rattle.definition.specs.declared.Point.{Point}
use Rattle.definition.proofs.Questions.{asks_now, asks_next, asks_edit, every_new, count, count_of_edit}
use Rattle.fitting.proofs.Laws.{bind_assoc}
use Rattle.fresh_outcome.specs.Solver.{Solver, host_of}
use Rattle.definition.specs.Session.{State, standing, finished_in, Said, says_of, head, more_of, counted, Sizes, sizes_for, wants, Sized, either}
use Rattle.definition.specs.declared.Distances.{Distances}
use Rattle.definition.specs.Session as meaning
use Rattle.report.specs.Reading.{Shows, place_in, baseline_results, report_in}
use Rattle.covered_report.specs.Reading.{covered_in, ShowsUnder}
use Rattle.covered_report.proofs.Laws.{results_under, baseline_results_under, bands_under}
use Rattle.editing.specs.Meaning.{state, seen}
use Rattle.editing.specs.declared.Session.{Session}
use Rattle.editing.specs.Meaning.{Answer}
use Rattle.demands.specs.Calls.{Call, reply, refuse_point, change, resume, Editing, At, first, rest_by, rest_at, kept_by, finished_by, finished_at}
use Rattle.demands.specs.Calls.{Taking, declines, takes, taking_reply, taking_refusal, taking_edit, stance, with_reply, with_edit, after_taken, unless_declined}
use Rattle.demands.specs.Calls.{after_call, due, due_to}
use Rattle.demands.specs.Book.{heard, opened, Ends, standing_run as standsWith, Holds, Trail, begun, followed}
use Rattle.demands.specs.Demands as stated
use Rattle.demands.specs.Demands.{Made, Meets, Chained, Throughout, ReadsPlain, ReadsUnder, ReadsAs, checked, OpensProperly, counted_said, most_of, EndsProperly, Demand1}
use Rattle.demands.specs.Demands.{OpensAsDefined, AsDefined, Demand2, edited_from, next_trail, AllFrom, before_edit, Along}
use Rattle.demands.specs.Demands.{Demand3}
use Rattle.std.specs.Prelude.{option_map}
use Rattle.bands.specs.Bands.{band_says}
use Rattle.bands.specs.declared.TruingPredictiveBandV1.{TruingPredictiveBandV1}
use Rattle.demands.specs.Example as example
use Rattle.demands.specs.Standing.{IsNew, News, Inv}
use Rattle.demands.proofs.Book.{rest_more, Agrees, agrees_first, agrees_ruled, agrees_next, agrees_holds, agrees_changes}
use Rattle.demands.proofs.Book.{agrees_opened, opened_stops}

-- ---- the contracts of the calls, of an answer as a whole

abbrev Stands : Answer → Sizes → Option Finished → ℕ → Run Finished → Type 0
Stands a z kept n t = meaning.Stands seen (says_of a.step) a.session z kept n t

abbrev Declines : Answer → Session → ℕ → Type 0
Declines a s n = meaning.Declines seen (says_of a.step) a.session s n

abbrev entries_taken : State → Session → List Entry → Answer → Type 0
entries_taken t s es a = meaning.entries_taken seen t s es (says_of a.step) a.session

abbrev refusal_taken : State → Session → Answer → Type 0
refusal_taken t s a = meaning.refusal_taken seen t s (says_of a.step) a.session

abbrev edit_taken : State → Session → Edit → Answer → Type 0
edit_taken t s e a = meaning.edit_taken seen t s e (says_of a.step) a.session

abbrev Opened : Opening → Answer → Type 0
Opened o a = meaning.Opened seen o (says_of a.step) a.session

-- ---- the count

-- the questions put, where so many were put before what is left
abbrev plus : ℕ → Run Finished → ℕ
plus n (done c) = n
plus n (refuse m i) = n
plus n (ask p w k) = suc n

first_put : (t : Run Finished) → put t [] ≡ plus 0 t
first_put (done c) = refl
first_put (refuse n i) = refl
first_put (ask p w k) = refl

plus_suc : (n : ℕ) (t : Run Finished) → plus (suc n) t ≡ suc (plus n t)
plus_suc n (done c) = refl
plus_suc n (refuse m i) = refl
plus_suc n (ask p w k) = refl

put_more : (t : Run Finished) (rs : List Reply) (r : Reply) (p : Point) (w : Which) (k : Reply → Run Finished) → resume t rs ≡ ask p w k
    → put t (rs ++ (r ∷ [])) ≡ plus (put t rs) (k r)
put_more t [] r p w k e = rw e (ap suc (first_put (k r)) ∙ sym (plus_suc 0 (k r)))
put_more (done c) (x ∷ rs) r p w k e = cc
put_more (refuse n i) (x ∷ rs) r p w k e = cc
put_more (ask p' w' k') (x ∷ rs) r p w k e = ap suc (put_more (k' x) rs r p w k e) ∙ sym (plus_suc (put (k' x) rs) (k r))

-- the count does not reach the largest number that it can hold
counted_plus : (n : ℕ) (t : Run Finished) → n ≤ 4546 → counted None n t ≡ plus n t
unfolding more_of
counted_plus n (done c) h = refl
counted_plus n (refuse m i) h = refl
counted_plus n (ask p w k) h = ap (λ (b : Bool). cond b (suc n) n) (lt-ltb n 0xffff_ffff_ffff_ffff (omega arith))

-- the count by what is said
said_plus : (n : ℕ) (t : Run Finished) → plus n t ≡ counted_said None n (head t)
said_plus n (done c) = refl
said_plus n (refuse m i) = refl
said_plus n (ask p w k) = refl

-- ---- an edit's questions

-- where a question is open, one was put before each reply
asked_after : (t : Run Finished) (rs : List Reply) (p : Point) (w : Which) (k : Reply → Run Finished) → resume t rs ≡ ask p w k → put t rs ≡ suc (length rs)
asked_after t [] p w k e = rw e
asked_after (done c) (r ∷ rs) p w k e = cc
asked_after (refuse n i) (r ∷ rs) p w k e = cc
asked_after (ask p' w' k') (r ∷ rs) p w k e = ap suc (asked_after (k' r) rs p w k e)

few_replies : (c : Finished) (e : Edit) (rs : List Reply) (p : Point) (w : Which) (k : Reply → Run Finished) → resume (edit c e) rs ≡ ask p w k
    → length rs < most_of e
unfolding edit
few_replies c (put_in i d) rs p w k e = omega (arith, count_of_edit c (put_in i d) rs, asked_after (edit c (put_in i d)) rs p w k e)
few_replies c (take_out i) [] p w k e = absurd (grind arith)
few_replies c (take_out i) (r ∷ rs) p w k e = absurd (grind arith)
few_replies c (exchange i d) rs p w k e = omega (arith, count_of_edit c (exchange i d) rs, asked_after (edit c (exchange i d)) rs p w k e)

edit_asks : (o : Opening) (t : At) (x : Editing) → t.last ≡ Some x → (mv bc : Float) (list : Distances) → head (rest_at o t) ≡ Said.question mv bc list
    → length x.replies < most_of x.made
edit_asks o t x l mv bc list q =
    by (resume (edit x.of x.made) x.replies) refl (subst (λ (y : Option Editing). head (rest_by o t.run y) ≡ Said.question mv bc list) l q)
  where
    by : (u : Run Finished) → resume (edit x.of x.made) x.replies ≡ u → head u ≡ Said.question mv bc list → length x.replies < most_of x.made
    by (done c) e h = absurd (grind arith)
    by (refuse n i) e h = absurd (grind arith)
    by (ask p w k) e h = few_replies x.of x.made x.replies p w k e

-- ---- the report

reads_plain : (s : Session) (p : Option Report) → report_in (state s) ≡ p → ReadsPlain s p
reads_plain s p same = record {
  heads = λ r d. subst (Shows r) same d.is;
  results = λ i r d. d.is ∙ ap (place_in (λ q. q.observations) i) same;
  baseline_results = λ i r d. d.is ∙ ap (place_in baseline_results i) same;
  bands = λ i r d. d.is ∙ ap (place_in (λ q. q.bands) i) same;
}

-- of what a place gives, first its band and then that by its rows
told_band : (t : Table) (r : Option TruingPredictiveBandV1)
    → option_map (λ b. band_by (rows_under t) (band_says b)) r ≡ option_map (band_by (rows_under t)) (option_map band_says r)
told_band t None = refl
told_band t (Some b) = refl

-- under a table the lists have the places that they have without one, each interval by its rows
reads_under : (t : Table) (s : Session) (p : Option CoveredReport) → covered_in t (state s) ≡ p → ReadsUnder t s p
reads_under t s p same = record {
  heads = λ r d. subst (ShowsUnder t r) same d.is;
  results = λ i r d. d.is ∙ results_under t i (state s) ∙ ap (place_in (λ q. q.observations) i) same;
  baseline_results = λ i r d. d.is ∙ baseline_results_under t i (state s) ∙ ap (place_in baseline_results i) same;
  bands = λ i r d.
      told_band t r ∙ ap (option_map (band_by (rows_under t))) d.is ∙ bands_under t i (state s)
      ∙ ap (place_in (λ q. q.bands) i) same;
}

pub finished_after : (kept : Option Finished) (t : Run Finished) → finished_in (meaning.after kept t) ≡ finished_by kept t
finished_after kept (done c) = refl
finished_after None (refuse n i) = refl
finished_after (Some c) (refuse n i) = refl
finished_after kept (ask p w k) = refl

pub report_after : (kept : Option Finished) (t : Run Finished) → report_in (meaning.after kept t) ≡ option_map report_of (finished_by kept t)
report_after kept t = ap (option_map report_of) (finished_after kept t)

-- ---- the invariant

inv_reads : (o : Opening) (t : At) (s : Session) → Inv o t s → ReadsAs s (finished_at o t)
inv_reads o t s h =
    let same : finished_in (state s) ≡ finished_at o t = ap finished_in h.leads ∙ finished_after (kept_by t.last) (rest_at o t) in
    record {
      plain = reads_plain s (option_map report_of (finished_at o t)) (ap (option_map report_of) same);
      under = λ x. reads_under x s (option_map (report_under x) (finished_at o t)) (ap (option_map (report_under x)) same);
    }

news_edit : (c : Finished) (e : Edit) → Asks IsNew 5 (edit c e)
news_edit c e = asks_edit c e (every_new IsNew (λ p x. tt) e)

-- how many entries the open question wants: by the opening, or one
same_wants : (last : Option Editing) (p : Point) (w : Which) (k : Reply → Run Finished) (z y : Sizes) → Sized (kept_by last) z y → News last (ask p w k)
    → wants y w ≡ wants z w
same_wants None p w k z y d n = ap (λ (x : Sizes). wants x w) d
same_wants (Some x) p shots k z y d n = absurd (asks_now n)
same_wants (Some x) p distances k z y d n = absurd (asks_now n)
same_wants (Some x) p (new f) k z y d n = refl

abbrev of_or : Finished → Option Editing → Finished
of_or d None = d
of_or d (Some z) = z.of

apart : {n : ℕ} → takes ≡ declines n → ⊥
apart q = absurd (grind arith)

no_question : {n i : ℕ} {mv bc : Float} {list : Distances} {A : Type 0} → Said.refusal n i ≡ Said.question mv bc list → A
no_question q = absurd (grind arith)

numbers : {m n : ℕ} → declines m ≡ declines n → m ≡ n
numbers q = cc

-- ---- one call

pub record Good (o : Opening) (t : At) (s : Session) (c : Made) : Type 0 where
  pub inv : Inv o (after_call o t c.call) c.answer.session
  pub proper : EndsProperly o t s c
  pub defined : AsDefined o t s c

module _ (o : Opening) where
  limited : (rs : List Reply) (n : ℕ) → n ≡ put (whole o) rs → n ≤ 4546
  limited rs n e = let b = count o rs in omega arith

  -- an edit that is let through is of the finished run that stands
  edits_of : (t : At) (s : Session) → Inv o t s → (x : Call) (y : Editing) → stance o t x ≡ takes → x ≡ change y.made → (after_call o t x).last ≡ Some y
      → ReadsAs s (Some y.of)
  edits_of t s h x y st ex el =
      by (finished_at o t) refl (subst (λ (z : Call). stance o t z ≡ takes) ex st) (subst (λ (z : Call). (after_call o t z).last ≡ Some y) ex el)
    where
      by : (f : Option Finished) → finished_at o t ≡ f → taking_edit f y.made ≡ takes
          → (unless_declined (taking_edit f y.made) t (with_edit t f y.made)).last ≡ Some y
          → ReadsAs s (Some y.of)
      by None e st el = absurd (apart (sym st))
      by (Some c) e st el =
          let q : Some (record { of = c; made = y.made; replies = [] }) ≡ Some y = sym
          (ap (λ (z : Taking). (unless_declined z t (with_edit t (Some c) y.made)).last) st) ∙ el in
          let one : c ≡ y.of = ap (λ (z : Option Editing). of_or c z) q in
          subst (λ (f : Finished). ReadsAs s (Some f)) one (subst (λ (f : Option Finished). ReadsAs s f) e (inv_reads o t s h))

  module _ (t : At) (s : Session) (h : Inv o t s) where
    -- a refused edit restores the report
    restores : (v : At) (r : Session) → Inv o v r → (x : Editing) (n i : ℕ) → v.last ≡ Some x → rest_at o v ≡ refuse n i → ReadsAs r (Some x.of)
    restores v r g x n i el er =
        subst (λ (f : Option Finished). ReadsAs r f)
        (ap (λ (l : Option Editing). finished_by (kept_by l) (rest_at o v)) el
        ∙ ap (λ (u : Run Finished). finished_by (Some x.of) u) er) (inv_reads o v r g)

    -- declined: the answer is the number, and the session as it was
    no : (c : Made) (n : ℕ) → stance o t c.call ≡ declines n → Declines c.answer s n → Good o t s c
    no c n e d =
        let same : c.answer.session ≡ s = d.same in
        let stays : after_call o t c.call ≡ t = ap (λ (x : Taking). unless_declined x t (after_taken o t c.call)) e in
        let number : says_of c.answer.step ≡ Said.refusal n 0 = d.says in
        let next : Inv o (after_call o t c.call) c.answer.session = subst (λ (v : At). Inv o v c.answer.session) (sym stays)
        (subst (Inv o t) (sym same) h) in
        record {
          inv = next;
          proper = record {
            declined = λ m f. (number ∙ ap (λ (x : ℕ). Said.refusal x 0) (numbers (sym e ∙ f)), same);
            counted = ap stated.count same ∙ sym (ap (counted_said (after_call o t c.call).last (stated.count s)) number
                ∙ refused_counts (after_call o t c.call).last (stated.count s) n);
            limited = limited (after_call o t c.call).run (stated.count c.answer.session) next.counts;
            edit_limited = λ x el mv bc list q. no_question (sym number ∙ q);
            edits = λ x st ex el. edits_of t s h c.call x st ex el;
            restored = λ x m i el er. restores (after_call o t c.call) c.answer.session next x m i el er;
          };
          defined = record {
            says = number ∙ ap (λ (x : Taking). due x (rest_at o (after_call o t c.call))) (sym e);
            counts = next.counts;
            reads = inv_reads o (after_call o t c.call) c.answer.session next;
          };
        }
      where
        refused_counts : (last : Option Editing) (m n : ℕ) → counted_said last m (Said.refusal n 0) ≡ m
        refused_counts None m n = refl
        refused_counts (Some x) m n = refl

    -- taken: the run or the edit goes on
    yes : (c : Made) (v : At) → stance o t c.call ≡ takes → after_call o t c.call ≡ v → Inv o v c.answer.session → says_of c.answer.step ≡ head (rest_at o v)
        → stated.count c.answer.session ≡ counted_said v.last (stated.count s) (says_of c.answer.step) → Good o t s c
    yes c v e goes g says counts =
        let next : Inv o (after_call o t c.call) c.answer.session = subst (λ (u : At). Inv o u c.answer.session) (sym goes) g in
        record {
          inv = next;
          proper = record {
            declined = λ n f. absurd (apart (sym e ∙ f));
            counted = counts ∙ ap (λ (u : At). counted_said u.last (stated.count s) (says_of c.answer.step)) (sym goes);
            limited = limited (after_call o t c.call).run (stated.count c.answer.session) next.counts;
            edit_limited = λ x el mv bc list q. edit_asks o (after_call o t c.call) x el mv bc list (ap (λ (u : At). head (rest_at o u)) goes ∙ sym says ∙ q);
            edits = λ x st ex el. edits_of t s h c.call x st ex el;
            restored = λ x m i el er. restores (after_call o t c.call) c.answer.session next x m i el er;
          };
          defined = record {
            says = says ∙ ap (λ (u : At). head (rest_at o u)) (sym goes) ∙ ap (λ (x : Taking). due x (rest_at o (after_call o t c.call))) (sym e);
            counts = next.counts;
            reads = inv_reads o (after_call o t c.call) c.answer.session next;
          };
        }

  -- one reply more
  replies : (rs : List Reply) (last : Option Editing) (s : Session) → Inv o (record { run = rs; last = last }) s
      → (r : Reply) (p : Point) (w : Which) (k : Reply → Run Finished)
      → rest_at o (record { run = rs; last = last }) ≡ ask p w k → (a : Answer) → Stands a (seen s).sizes (kept_by last) (stated.count s) (k r)
      → Inv o (with_reply rs last r) a.session × (stated.count a.session ≡ counted_said (with_reply rs last r).last (stated.count s) (says_of a.step))
  replies rs None s h r p w k at a d =
      let goes : rest_at o (with_reply rs None r) ≡ k r = rest_more o rs None r p w k at in
      let small : stated.count s ≤ 4546 = limited rs (stated.count s) h.counts in (
        record {
          leads = d.leads ∙ ap (meaning.after None) (sym goes);
          sized = d.sized ∙ h.sized;
          news = tt;
          counts =
              d.counts ∙ counted_plus (stated.count s) (k r) small ∙ ap (λ (n : ℕ). plus n (k r)) h.counts ∙ sym (put_more (whole o) rs r p w k at);
        },
        d.counts ∙ counted_plus (stated.count s) (k r) small ∙ said_plus (stated.count s) (k r) ∙ ap (counted_said None (stated.count s)) (sym d.says),
      )
  replies rs (Some x) s h r p w k at a d =
      let goes : rest_at o (with_reply rs (Some x) r) ≡ k r = rest_more o rs (Some x) r p w k at in (
        record {
          leads = d.leads ∙ ap (meaning.after (Some x.of)) (sym goes);
          sized = tt;
          news = subst (Asks IsNew 5) (sym goes) (asks_next (subst (Asks IsNew 5) at h.news) r);
          counts = d.counts ∙ h.counts;
        },
        d.counts,
      )

  module _ (t : At) (s : Session) (h : Inv o t s) where
    at_state : (u : Run Finished) → rest_at o t ≡ u → state s ≡ meaning.after (kept_by t.last) u
    at_state u e = h.leads ∙ ap (meaning.after (kept_by t.last)) e

    by_wants : (p : Point) (w : Which) (k : Reply → Run Finished) → rest_at o t ≡ ask p w k → wants (seen s).sizes w ≡ wants (sizes_for o) w
    by_wants p w k e = same_wants t.last p w k (sizes_for o) (seen s).sizes h.sized (subst (News t.last) e h.news)

    -- a reply that is taken
    took : (c : Made) (r : Reply) (p : Point) (w : Which) (k : Reply → Run Finished) → rest_at o t ≡ ask p w k → stance o t c.call ≡ takes
        → after_taken o t c.call ≡ with_reply t.run t.last r
        → Stands c.answer (seen s).sizes (kept_by t.last) (stated.count s) (k r) → Good o t s c
    took c r p w k at e same d =
        let goes : after_call o t c.call ≡ with_reply t.run t.last r = ap (λ (x : Taking). unless_declined x t (after_taken o t c.call)) e ∙ same in
        let next = replies t.run t.last s h r p w k at c.answer d in
        yes t s h c (with_reply t.run t.last r) e goes next.0 (d.says ∙ ap head (sym (rest_more o t.run t.last r p w k at))) next.1

    -- no question is open
    replied_closed : (es : List Entry) (a : Answer) (kept : Option Finished) (u : Run Finished) → entries_taken (meaning.after kept u) s es a
        → taking_reply (sizes_for o) u es ≡ declines 8
        → Declines a s 8
    replied_closed es a kept (done c) d e = d
    replied_closed es a None (refuse n i) d e = d
    replied_closed es a (Some c) (refuse n i) d e = d
    replied_closed es a kept (ask p w k) d e = by (eqb (length es) (wants (sizes_for o) w)) e
      where
        by : (b : Bool) → cond b takes (declines 9) ≡ declines 8 → Declines a s 8
        by true f = absurd (apart f)
        by false f = let z : ◌≡◌ {A = ℕ} 9 8 = numbers f in absurd (omega arith)

    replied : (es : List Entry) (a : Answer) → Meets (reply es) s a → (u : Run Finished) → rest_at o t ≡ u
        → Good o t s (record { call = reply es; answer = a })
    replied es a m (done c) e =
        let f : stance o t (reply es) ≡ declines 8 = ap (λ (u : Run Finished). taking_reply (sizes_for o) u es) e in
        no t s h _ 8 f (replied_closed es a (kept_by t.last) (done c) (subst (λ (x : State). entries_taken x s es a) (at_state (done c) e) m.is) refl)
    replied es a m (refuse n i) e =
        let f : stance o t (reply es) ≡ declines 8 = ap (λ (u : Run Finished). taking_reply (sizes_for o) u es) e in
        no t s h _ 8 f (replied_closed es a (kept_by t.last) (refuse n i)
        (subst (λ (x : State). entries_taken x s es a) (at_state (refuse n i) e) m.is) refl)
    replied es a m (ask p w k) e =
        by (eqb (length es) (wants (seen s).sizes w))
        (ap (λ (u : Run Finished). taking_reply (sizes_for o) u es) e ∙ ap (λ (n : ℕ). cond (eqb (length es) n) takes (declines 9)) (sym (by_wants p w k e)))
        (subst (λ (x : State). entries_taken x s es a) (at_state (ask p w k) e) m.is)
      where
        by : (b : Bool) → stance o t (reply es) ≡ cond b takes (declines 9)
            → either b (Stands a (seen s).sizes (kept_by t.last) (stated.count s) (k (entries es))) (Declines a s 9)
            → Good o t s (record { call = reply es; answer = a })
        by true f d = took _ (entries es) p w k e f refl d
        by false f d = no t s h _ 9 f d

    pointed_closed : (a : Answer) (kept : Option Finished) (u : Run Finished) → refusal_taken (meaning.after kept u) s a → taking_refusal u ≡ declines 8
        → Declines a s 8
    pointed_closed a kept (done c) d e = d
    pointed_closed a None (refuse n i) d e = d
    pointed_closed a (Some c) (refuse n i) d e = d
    pointed_closed a kept (ask p w k) d e = absurd (apart e)

    pointed : (a : Answer) → Meets refuse_point s a → (u : Run Finished) → rest_at o t ≡ u → Good o t s (record { call = refuse_point; answer = a })
    pointed a m (done c) e =
        no t s h _ 8 (ap taking_refusal e) (pointed_closed a (kept_by t.last) (done c)
        (subst (λ (x : State). refusal_taken x s a) (at_state (done c) e) m.is) refl)
    pointed a m (refuse n i) e =
        no t s h _ 8 (ap taking_refusal e) (pointed_closed a (kept_by t.last) (refuse n i)
        (subst (λ (x : State). refusal_taken x s a) (at_state (refuse n i) e) m.is) refl)
    pointed a m (ask p w k) e = took _ refused p w k e (ap taking_refusal e) refl (subst (λ (x : State). refusal_taken x s a) (at_state (ask p w k) e) m.is)

    -- an edit, by the finished run that stands
    not_finished : (e : Edit) (a : Answer) (kept : Option Finished) (u : Run Finished) → finished_by kept u ≡ None → edit_taken (meaning.after kept u) s e a
        → Declines a s 14
    not_finished e a kept (done c) f d = absurd (grind arith)
    not_finished e a None (refuse n i) f d = d
    not_finished e a (Some c) (refuse n i) f d = absurd (grind arith)
    not_finished e a kept (ask p w k) f d = d

    finished : (e : Edit) (a : Answer) (kept : Option Finished) (u : Run Finished) (c : Finished) → finished_by kept u ≡ Some c
        → edit_taken (meaning.after kept u) s e a → edit_taken (standing c) s e a
    finished e a kept (done b) c f d = let q : b ≡ c = cc in subst (λ (x : Finished). edit_taken (standing x) s e a) q d
    finished e a None (refuse n i) c f d = absurd (grind arith)
    finished e a (Some b) (refuse n i) c f d = let q : b ≡ c = cc in subst (λ (x : Finished). edit_taken (standing x) s e a) q d
    finished e a kept (ask p w k) c f d = absurd (grind arith)

    changed : (e : Edit) (a : Answer) → Meets (change e) s a → (f : Option Finished) → finished_at o t ≡ f → Good o t s (record { call = change e; answer = a })
    changed e a m None f =
        no t s h _ 14 (ap (λ (x : Option Finished). taking_edit x e) f)
        (not_finished e a (kept_by t.last) (rest_at o t) f (subst (λ (x : State). edit_taken x s e a) h.leads m.is))
    changed e a m (Some c) f =
        by (placed e (length c.requested)) (ap (λ (x : Option Finished). taking_edit x e) f)
        (finished e a (kept_by t.last) (rest_at o t) c f (subst (λ (x : State). edit_taken x s e a) h.leads m.is))
      where
        v : At
        v = record { run = t.run; last = Some (record { of = c; made = e; replies = [] }) }

        by : (b : Bool) → stance o t (change e) ≡ cond b takes (declines 15)
            → either b (Stands a (seen s).sizes (Some c) (stated.count s) (edit c e)) (Declines a s 15)
            → Good o t s (record { call = change e; answer = a })
        by true g d =
            yes t s h _ v g (ap (λ (x : Taking). unless_declined x t (after_taken o t (change e))) g ∙ ap (λ (x : Option Finished). with_edit t x e) f)
            (record { leads = d.leads; sized = tt; news = news_edit c e; counts = d.counts ∙ h.counts }) d.says d.counts
        by false g d = no t s h _ 15 g d

    pub step : (x : Call) (a : Answer) → Meets x s a → Good o t s (record { call = x; answer = a })
    step (reply es) a m = replied es a m (rest_at o t) refl
    step refuse_point a m = pointed a m (rest_at o t) refl
    step (change e) a m = changed e a m (finished_at o t) refl

-- ---- the opening

module _ (o : Opening) where
  first_count : (t : Run Finished) → counted None 0 t ≡ put t []
  first_count t = counted_plus 0 t (omega arith) ∙ sym (first_put t)

  pub begins : (a : Answer) → Opened o a → Inv o first a.session
  begins a m = record { leads = m.is.leads; sized = m.is.sized; news = tt; counts = m.is.counts ∙ first_count (whole o) }

  checks_first : whole o ≡ bind (checked o) (λ u. run o.measured o.requested)
  unfolding whole
  checks_first = sym (bind_assoc (checked_measured o.measured) (λ u. checked_requested o.requested) (λ u. run o.measured o.requested))

  by_checks : (t : Run (Unit {0})) → checked o ≡ t → whole o ≡ bind t (λ u. run o.measured o.requested)
  by_checks t e = checks_first ∙ ap (λ (x : Run (Unit {0})). bind x (λ u. run o.measured o.requested)) e

  -- a run begins with the question at the entered point
  asks_first : head (run o.measured o.requested) ≡ Said.question o.measured.entered.mv o.measured.entered.bc Distances.Shots
  unfolding run fit.fit_map likelihood.objective
  asks_first = refl

  asks_once : counted None 0 (run o.measured o.requested) ≡ 1
  unfolding run fit.fit_map likelihood.objective more_of
  asks_once = refl

  opens_properly : (a : Answer) → Opened o a → OpensProperly o a
  opens_properly a m = record {
    faulty = λ n i e. (m.is.says ∙ ap head (by_checks (refuse n i) e), m.is.counts ∙ ap (counted None 0) (by_checks (refuse n i) e));
    sound = λ e. (m.is.says ∙ ap head (by_checks (done tt) e) ∙ asks_first, m.is.counts ∙ ap (counted None 0) (by_checks (done tt) e) ∙ asks_once);
  }

  opens_as_defined : (a : Answer) → Opened o a → OpensAsDefined o a
  opens_as_defined a m = record { says = m.is.says; counts = m.is.counts ∙ first_count (whole o); reads = inv_reads o first a.session (begins a m) }

-- ---- all calls

walk_1 : (o : Opening) (t : At) (a : Answer) (cs : List Made) → Inv o t a.session → Chained a cs → Throughout (EndsProperly o) o t a.session cs
walk_1 o t a [] h m = tt
walk_1 o t a (c ∷ cs) h m = let g = step o t a.session h c.call c.answer m.0 in
    (g.proper, walk_1 o (after_call o t c.call) c.answer cs g.inv m.1)

walk_2 : (o : Opening) (t : At) (a : Answer) (cs : List Made) → Inv o t a.session → Chained a cs → Throughout (AsDefined o) o t a.session cs
walk_2 o t a [] h m = tt
walk_2 o t a (c ∷ cs) h m = let g = step o t a.session h c.call c.answer m.0 in
    (g.defined, walk_2 o (after_call o t c.call) c.answer cs g.inv m.1)

pub demand_1 : Demand1
demand_1 o a m cs ch = (opens_properly o a m, walk_1 o first a cs (begins o a m) ch)

pub demand_2 : Demand2
demand_2 o a m cs ch = (opens_as_defined o a m, walk_2 o first a cs (begins o a m) ch)

-- ---- demand 3: the book agrees with the definition at each call

module _ (σ : Solver) (o : Opening) where
  -- what holds of what is due holds of what was said, read as the session shows it
  reads_end : (f : _) (before : Option Finished) (x y : Said) (s : Session) (r : Option Finished) → y ≡ x → ReadsAs s r → Ends f before x (λ p. r ≡ p)
      → Ends f before y (ReadsAs s)
  reads_end f before x y s r e d h = record { says = e ∙ h.says; reads = subst (ReadsAs s) h.reads d }

  holds_said : (u : Trail) (c : Made) (x : Said) (r : Option Finished) → says_of c.answer.step ≡ x → ReadsAs c.answer.session r
      → Holds σ o u c.call x (λ p. r ≡ p)
      → Holds σ o u c.call (says_of c.answer.step) (ReadsAs c.answer.session)
  holds_said u c x r e d h =
      let Q : Said → Type 0 = λ y. Holds σ o u c.call y (ReadsAs c.answer.session) in
      subst Q (sym e)
      (record {
        run_stops = h.run_stops;
        edit_stops = h.edit_stops;
        run_ends = λ n at ru he. reads_end _ None x x c.answer.session r refl d (h.run_ends n at ru he);
        edit_ends = λ y ed ru he. reads_end _ _ x x c.answer.session r refl d (h.edit_ends y ed ru he);
        stands = subst (ReadsAs c.answer.session) h.stands d;
        reported = h.reported;
      })

  -- the session that the last edit was made on reads as the finished run that the edit is of
  abbrev Before : At → Session → Type 0
  Before t old = (x : Editing) → t.last ≡ Some x → ReadsAs old (Some x.of)

  reply_before : (rs : List Reply) (last : Option Editing) (r : Reply) (old : Session) → Before (record { run = rs; last = last }) old
      → Before (with_reply rs last r) old
  reply_before rs None r old b x e = absurd (grind arith)
  reply_before rs (Some y) r old b x e =
      let same : y.of ≡ x.of = ap (λ (z : Option Editing). of_or y.of z) e in
      subst (λ (c : Finished). ReadsAs old (Some c)) same (b y refl)

  -- an edit is made on the session as it is
  edit_before : (t : At) (s : Session) → Inv o t s → (f : Edit) (q : Option Finished) → finished_at o t ≡ q → taking_edit q f ≡ takes → Before (with_edit t q f) s
  edit_before t s h f None e st = absurd (apart (sym st))
  edit_before t s h f (Some c) e st = λ x l.
      let same : c ≡ x.of = ap (λ (z : Option Editing). of_or c z) l in
      subst (λ (d : Finished). ReadsAs s (Some d)) same (subst (λ (z : Option Finished). ReadsAs s z) e (inv_reads o t s h))

  taken_before : (t : At) (old s : Session) → Inv o t s → Before t old → (x : Call) → stance o t x ≡ takes → Before (after_taken o t x) (edited_from old s x)
  taken_before t old s h b (reply es) e = reply_before t.run t.last _ old b
  taken_before t old s h b refuse_point e = reply_before t.run t.last _ old b
  taken_before t old s h b (change f) e = edit_before t s h f (finished_at o t) refl e

  next_before : (t : At) (u : Trail) (old s : Session) (x : Call) → Inv o t s → Agrees σ o t u → Before t old
      → Before (after_call o t x) (before_edit σ o u old s x)
  next_before t u old s x h g b =
      subst (λ (z : Taking). Before (after_call o t x) (unless_declined z old (edited_from old s x))) (sym (agrees_ruled σ o t u g x)) (by (stance o t x) refl)
    where
      by : (y : Taking) → stance o t x ≡ y → Before (unless_declined y t (after_taken o t x)) (unless_declined y old (edited_from old s x))
      by (declines n) e = b
      by takes e = taken_before t old s h b x e

  kept_before : (s : Session) (was : Finished) (l : Option Editing) → ((x : Editing) → l ≡ Some x → ReadsAs s (Some x.of)) → kept_by l ≡ Some was
      → ReadsAs s (Some was)
  kept_before s was None b e = absurd (grind arith)
  kept_before s was (Some x) b e = let same : x.of ≡ was = cc in subst (λ (c : Finished). ReadsAs s (Some c)) same (b x refl)

  walk_3 : (t : At) (u : Trail) (old : Session) (a : Answer) (cs : List Made) → Inv o t a.session → Agrees σ o t u → Before t old → Chained a cs
      → AllFrom σ o u cs
      → Along σ o u old a.session cs
  walk_3 t u old a [] h g b m f = tt
  walk_3 t u old a (c ∷ cs) h g b m f =
      let k = step o t a.session h c.call c.answer m.0 in
      let says = k.defined.says in
      let now = next_before t u old a.session c.call h g b in (
        record {
          declined = λ n e. k.proper.declined n (sym (agrees_ruled σ o t u g c.call) ∙ e);
          holds = holds_said u c (due_to o t c.call) (finished_at o (after_call o t c.call)) says k.defined.reads
              (agrees_holds σ o t u g c.call f.0);
          changes = λ e i r z.
              let x = agrees_changes σ o t u g c.call f.0 e i r (ap (heard o) (sym says) ∙ z) in
              record {
                old = x.0;
                new = x.1;
                reads_old = kept_before (before_edit σ o u old a.session c.call) x.0 (after_call o t c.call).last now x.2;
                reads_new = subst (ReadsAs c.answer.session) x.3 k.defined.reads;
                made = λ y. x.4 (sym says ∙ y);
                refused = λ n j y. x.5 n j (sym says ∙ y);
              };
        },
        walk_3 (after_call o t c.call) (next_trail σ o u c) (before_edit σ o u old a.session c.call) c.answer cs k.inv
            (subst (λ (x : Said). Agrees σ o (after_call o t c.call) (followed σ o u c.call x)) (sym says) (agrees_next σ o t u g c.call f.0)) now
            m.1 f.1,
      )

pub demand_3 : Demand3
demand_3 σ o a m cs ch f =
    let says : says_of a.step ≡ head (whole o) = m.is.says in
    let opens = agrees_opened σ o in
    let reads = inv_reads o first a.session (begins o a m) in (
      record {
        stops = subst (λ (x : Said). (heard o x ≡ None) ↔ (0 ≡ questions (host_of σ o) (whole o))) (sym says) (opened_stops σ o);
        ends = λ e. reads_end σ o _ None (head (whole o)) (says_of a.step) a.session _ says reads (opens.0 (ap (heard o) (sym says) ∙ e));
        stands = subst (ReadsAs a.session) (opens.1 ∙ ap (λ (x : Said). standsWith σ o (opened o (heard o x))) (sym says)) reads;
      },
      walk_3 σ o first (begun o (says_of a.step)) a.session a cs (begins o a m) (subst (λ (x : Said). Agrees σ o first (begun o x)) (sym says) (agrees_first σ o))
          (λ x e. absurd (grind arith)) ch f,
    )

-- ---- a list of calls that is known: what is due to it is said

module _ (σ : Solver) (o : Opening) where
  all_due : (t : At) (u : Trail) (a : Answer) (cs : List Made) → Inv o t a.session → Chained a cs → example.AllDue σ o t u (map (λ c. c.call) cs)
      → (map (λ c. example.brief (says_of c.answer.step)) cs ≡ example.told o t (map (λ c. c.call) cs)) × AllFrom σ o u cs
  all_due t u a [] h m d = (refl, tt)
  all_due t u a (c ∷ cs) h m d =
      let k = step o t a.session h c.call c.answer m.0 in
      let says = k.defined.says in
      let r = all_due (after_call o t c.call) (followed σ o u c.call (due_to o t c.call)) c.answer cs k.inv m.1 d.1 in (
        ap (λ (x : Said). example.brief x ∷ map (λ e. example.brief (says_of e.answer.step)) cs) says
            ∙ ap (λ (l : List example.Brief). example.brief (due_to o t c.call) ∷ l) r.0,
        (d.0, subst (λ (x : Said). AllFrom σ o (followed σ o u c.call x) cs) (sym says) r.1),
      )

  pub as_due : (a : Answer) → Opened o a → (cs : List Made) → Chained a cs → (xs : List Call) → map (λ c. c.call) cs ≡ xs
      → example.AllDue σ o first (begun o (head (whole o))) xs
      → (map (λ c. example.brief (says_of c.answer.step)) cs ≡ example.told o first xs) × AllFrom σ o (begun o (says_of a.step)) cs
  as_due a m cs ch xs e d =
      let r = all_due first (begun o (head (whole o))) a cs (begins o a m) ch (subst (example.AllDue σ o first (begun o (head (whole o)))) (sym e) d) in
      (r.0 ∙ ap (example.told o first) e, subst (λ (x : Said). AllFrom σ o (begun o x) cs) (sym m.is.says) r.1)
