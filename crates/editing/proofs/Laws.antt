-- Sessions over plain values: the state while an edit has a question open, and what is left of an edit.
use Rattle.std.proofs.Common.{◌≡◌, ℕ, Bool, true, false, ◌&&◌, cond, eqb, length, List, Option, None, Some, refl, sym, ap, ◌∙◌, subst, arith}
use Rattle.std.proofs.Common.{eq-eqb}
use Rattle.definition.specs.Run.{Run, done, refuse, ask, bind, answered, Entry, Reply, refused, entries, Which, new, require}
use Rattle.definition.specs.Request.{Requested}
use Rattle.definition.specs.Likelihood.{Rows}
use Rattle.definition.specs.Summary.{Finished, Report}
use Rattle.definition.specs.Whole.{Edit, take_out, placed, renewed, sound_requested_of, edit_questions, edit}
use Rattle.definition.specs.Session.{Said, question, report, refusal, head, State, asking, standing, over, finished_in, after, Sizes, wants, either, Stands, Declines}
use Rattle.definition.specs.Session.{entries_taken, refusal_taken, Replied, PointRefused, Edited}
use Rattle.definition.proofs.Calls.{reply_wrong, reply_taken, refusal_taken_lem, edit_taken_lem}
use Rattle.definition.specs.declared.Point.{Point}
use Rattle.definition.specs.declared.Distances.TheVariants.{New}
use Rattle.stencil.specs.Stencil.{stencil_next, point_at, next_of, rows_next, laid_rows, all_rows}
use Rattle.stencil.specs.declared.StencilPoint.{StencilPoint}
use Rattle.stencil.specs.declared.StencilPoint.TheVariants.{Nominal}
use Rattle.stencil.specs.declared.StencilRows.{StencilRows}
use Rattle.stencil.proofs.Laws.{stencil_asks, one_next}
use Rattle.lists.specs.Changing.{edit_of, place_of, entry_in, roomy, rows_from}
use Rattle.lists.specs.declared.Change.{Change}
use Rattle.lists.specs.declared.Change.TheVariants.{PutIn, TakeOut, Exchange}
use Rattle.report.specs.Reading.{place_in, report_in}
use Rattle.session.specs.Meaning as run
use Rattle.run_body.specs.Meaning.{sizes_of}
use Rattle.finished_run.specs.Changing.{fitted_in, changed_from, Changed}
use Rattle.session.specs.declared.Session.{Session as Running}
use Rattle.editing.specs.Meaning.{range_in, opens, ended_with, edit_left, open_in, open_point, state_by, state, seen, asks_with, newly, row_from, next_left}
use Rattle.editing.specs.declared.OpenEdit.{OpenEdit}
use Rattle.editing.specs.declared.Session.{Session}

-- an open edit fits the finished run, and asks about its distance
abbrev pub Fits : Finished → Change → Type 0
Fits c change = opens (edit_of change) (length c.requested) ≡ true

abbrev pub about : Change → Which
about change = new (range_in (edit_of change))

-- what follows the reply to its question
abbrev pub reached : Finished → OpenEdit → Reply → Run Finished
reached c x reply =
    let k = x.question in
    let p = c.fit.point in
    bind (bind (answered reply) (λ d. stencil_next k p (about x.change) (rows_next k p (all_rows x.row) d))) (ended_with c (edit_of x.change))

abbrev pub open_run : Finished → OpenEdit → Run Finished
open_run c x = ask (point_at x.question c.fit.point) (about x.change) (reached c x)

edit_asks : (c : Finished) (x : OpenEdit) → edit_left c x.change x.question (all_rows x.row) ≡ open_run c x
edit_asks c x = ap (λ (t : Run Rows). bind t (ended_with c (edit_of x.change))) (stencil_asks x.question c.fit.point (about x.change) (all_rows x.row))

pub open_state : (c : Finished) (x : OpenEdit) → Fits c x.change → open_in (standing c) x ≡ asking (Some c) (open_run c x)
open_state c x f = rw (f, edit_asks c x)

-- while an edit has a question open, no finished run stands
pub unfinished : (t : State) (x : OpenEdit) → finished_in (open_in t x) ≡ None
unfinished (asking kept t) x = refl
unfinished over x = refl
unfinished (standing c) x = by (opens (edit_of x.change) (length c.requested)) refl
  where
    by : (b : Bool) → opens (edit_of x.change) (length c.requested) ≡ b → finished_in (open_in (standing c) x) ≡ None
    by true f = rw (open_state c x f)
    by false f = rw f

pub unfitted : (t : State) (x : OpenEdit) → fitted_in (open_in t x) ≡ None
unfitted t x = rw (unfinished t x)

pub unreported : (t : State) (x : OpenEdit) → report_in (open_in t x) ≡ None
unreported t x = rw (unfinished t x)

pub unread : {A : Type 0} (f : Report → List A) (i : ℕ) (t : State) (x : OpenEdit) → place_in f i (report_in (open_in t x)) ≡ None
unread f i t x = rw (unreported t x)

-- ---- with no edit open the session is its run

abbrev pub shut : Running → Session
shut s = record { run = s; edit = None }

module _ (s : Running) (said : Said) (r : Running) where
  declined_shut : (n : ℕ) → Declines run.seen said r s n → Declines seen said (shut r) (shut s) n
  declined_shut n d = record { says = d.says; same = ap shut d.same }

  stands_shut : (z : Sizes) (kept : Option Finished) (n : ℕ) (t : Run Finished) → Stands run.seen said r z kept n t → Stands seen said (shut r) z kept n t
  stands_shut z kept n t d = record { leads = d.leads; says = d.says; counts = d.counts; sized = d.sized }

  replied_shut : (t : State) (es : List Entry) → entries_taken run.seen t s es said r → entries_taken seen t (shut s) es said (shut r)
  replied_shut over es d = declined_shut 8 d
  replied_shut (standing c) es d = declined_shut 8 d
  replied_shut (asking kept (done c)) es d = declined_shut 8 d
  replied_shut (asking kept (refuse n i)) es d = declined_shut 8 d
  replied_shut (asking kept (ask p w k)) es d = by (eqb (length es) (wants (sizes_of s.body) w)) d
    where
      by : (b : Bool) → either b (Stands run.seen said r (sizes_of s.body) kept s.asked (k (entries es))) (Declines run.seen said r s 9)
          → either b (Stands seen said (shut r) (sizes_of s.body) kept s.asked (k (entries es))) (Declines seen said (shut r) (shut s) 9)
      by true d = stands_shut (sizes_of s.body) kept s.asked (k (entries es)) d
      by false d = declined_shut 9 d

  refused_shut : (t : State) → refusal_taken run.seen t s said r → refusal_taken seen t (shut s) said (shut r)
  refused_shut over d = declined_shut 8 d
  refused_shut (standing c) d = declined_shut 8 d
  refused_shut (asking kept (done c)) d = declined_shut 8 d
  refused_shut (asking kept (refuse n i)) d = declined_shut 8 d
  refused_shut (asking kept (ask p w k)) d = stands_shut (sizes_of s.body) kept s.asked (k refused) d

-- the session as it is, with no edit open
module _ (s : Session) (none : s.edit ≡ None) (said : Said) (r : Running) where
  shut_same : shut s.run ≡ s
  shut_same = ap (λ (x : Option OpenEdit). record { run = s.run; edit = x }) (sym none)

  pub run_replied : (es : List Entry) → Replied run.seen s.run es said r → Replied seen s es said (shut r)
  run_replied es d = subst (λ (x : Session). Replied seen x es said (shut r)) shut_same (record { is = replied_shut s.run said r (run.state s.run) es d.is })

  pub run_refused : PointRefused run.seen s.run said r → PointRefused seen s said (shut r)
  run_refused d = subst (λ (x : Session). PointRefused seen x said (shut r)) shut_same (record { is = refused_shut s.run said r (run.state s.run) d.is })

-- ---- an edit goes on, or ends

-- what an answer says, and the session then, stand for this run, which goes on from a finished run that is kept
abbrev pub Goes : Running → Finished → Said → Session → Run Finished → Type 0
Goes s c said r t = Stands seen said r (sizes_of s.body) (Some c) s.asked t

-- what an answer stands for, by a run, or by an answer, that is the same
module _ {z : Sizes} {kept : Option Finished} {n : ℕ} where
  pub stands_same : {said : Said} {r : Session} {t u : Run Finished} → Stands seen said r z kept n t → t ≡ u → Stands seen said r z kept n u
  stands_same {said} {r} d e = subst (Stands seen said r z kept n) e d

  pub stands_as : {said saying : Said} {r q : Session} {t : Run Finished} → said ≡ saying → r ≡ q → Stands seen saying q z kept n t
      → Stands seen said r z kept n t
  stands_as {said} {saying} {r} {q} {t} e f d =
      subst (λ (x : Said). Stands seen x r z kept n t) (sym e) (subst (λ (x : Session). Stands seen saying x z kept n t) (sym f) d)

module _ (s : Running) (c : Finished) (at : run.state s ≡ standing c) where
  -- it ends with a refusal: the finished run stands as before
  pub refused_stands : (n i : ℕ) → Goes s c (refusal n i) (shut s) (refuse n i)
  refused_stands n i = record { leads = at; says = refl; counts = refl; sized = tt }

  -- it ends with its change made
  pub changed_stands : (r : Running) (d : Finished) → (run.state r ≡ standing d) × (r.asked ≡ s.asked) → Goes s c report (shut r) (done d)
  changed_stands r d h = record { leads = h.0; says = refl; counts = h.1; sized = tt }

  pub change_made : (r : Running) (e : Edit) (one : Rows) → placed e (length c.requested) ≡ true → roomy e (length c.requested) ≡ true → Changed s e one r
      → (run.state r ≡ standing (renewed c e one)) × (r.asked ≡ s.asked)
  change_made r e one p m d =
      let A = (run.state r ≡ standing (renewed c e one)) × (r.asked ≡ s.asked) in
      let fits : (placed e (length c.requested) && roomy e (length c.requested)) ≡ true = rw (p, m) in
      subst (λ (b : Bool). either b A (r ≡ s)) fits (subst (λ (t : State). changed_from t s e one r) at d.is)

  -- it has a question open
  pub asks_stands : (x : OpenEdit) → Fits c x.change
      → (let q = point_at x.question c.fit.point in Goes s c (question q.mv q.bc New) (asks_with s x) (edit_left c x.change x.question (all_rows x.row)))
  asks_stands x f = record {
    leads = ap (λ (t : State). open_in t x) at ∙ open_state c x f ∙ sym (ap (after (Some c)) (edit_asks c x));
    says = sym (ap head (edit_asks c x));
    counts = refl;
    sized = tt;
  }

  -- after the reply to one of the five questions
  module _ (change : Change) (k : StencilPoint) (p : Point) (row : StencilRows 1) (point : c.fit.point ≡ p) (f : Fits c change) where
    pub one_of_five : (q : StencilPoint) → next_of k ≡ Some q
        → Goes s c (question (point_at q p).mv (point_at q p).bc New) (asks_with s (record { change = change; question = q; row = row }))
        (next_left c change k p (all_rows row))
    one_of_five q e = rw (sym point, e) (asks_stands (record { change = change; question = q; row = row }) f)

    pub last_of_five : (r : Running) → next_of k ≡ None → row.gap ≡ 0 → Changed s (edit_of change) (rows_from (row_from row)) r
        → Goes s c report (shut r) (next_left c change k p (all_rows row))
    last_of_five r e g d = rw (e, g) (changed_stands r _ (change_made r (edit_of change) (rows_from (row_from row)) (grind arith) (grind arith) d))

-- the finished run that an open edit is of
pub record Open (s : Running) (x : OpenEdit) (p : Point) : Type 0 where
  pub of : Finished
  pub stands : run.state s ≡ standing of
  pub point : of.fit.point ≡ p
  pub fits : Fits of x.change

module _ (s : Running) (x : OpenEdit) (p : Point) (here : open_point (fitted_in (run.state s)) (edit_of x.change) ≡ Some p) where
  pub opened : Open s x p
  opened = by (run.state s) refl here
    where
      by : (t : State) → run.state s ≡ t → open_point (fitted_in t) (edit_of x.change) ≡ Some p → Open s x p
      by (asking kept t) at e = absurd (grind arith)
      by over at e = absurd (grind arith)
      by (standing c) at e = fitting (opens (edit_of x.change) (length c.requested)) refl e
        where
          fitting : (b : Bool) → opens (edit_of x.change) (length c.requested) ≡ b → cond b (Some c.fit.point) None ≡ Some p → Open s x p
          fitting true f g = record { of = c; stands = at; point = grind arith; fits = f }
          fitting false f g = absurd (grind arith)

  asking_now : state (asks_with s x) ≡ asking (Some opened.of) (open_run opened.of x)
  asking_now = ap (λ (t : State). open_in t x) opened.stands ∙ open_state opened.of x opened.fits

  pub wrong_count : (es : List Entry) (said : Said) (r : Session) → eqb (length es) 1 ≡ false → Declines seen said r (asks_with s x) 9
      → Replied seen (asks_with s x) es said r
  wrong_count es said r l d = reply_wrong seen (asks_with s x) said r es _ _ _ _ asking_now l d

  pub one_more : (es : List Entry) (said : Said) (r : Session) (one : Rows) → length es ≡ 1
      → length x.row.predicted ≡ 1 → length x.row.by_mv ≡ 1 → length x.row.by_bc ≡ 1 → one ≡ laid_rows x.question p es (all_rows x.row)
      → ((c : Finished) → run.state s ≡ standing c → c.fit.point ≡ p → Fits c x.change → Goes s c said r (next_left c x.change x.question p one))
      → Replied seen (asks_with s x) es said r
  one_more es said r one l a b g rows d =
      let c = opened.of in
      let same : (c : Finished) → c.fit.point ≡ p → next_left c x.change x.question p one ≡ reached c x (entries es) =
      λ c e. rw (rows, one_next x.question p es l (all_rows x.row) a b g, sym e) in
      reply_taken seen (asks_with s x) said r es _ _ _ _ asking_now (eq-eqb (length es) 1 l)
      (subst (Goes s c said r) (same c opened.point) (d c opened.stands opened.point opened.fits))

  pub point_refused : PointRefused seen (asks_with s x) (refusal 10 0) (shut s)
  point_refused = refusal_taken_lem seen (asks_with s x) (refusal 10 0) (shut s) _ _ _ _ asking_now (refused_stands s opened.of opened.stands 10 0)

-- ---- an edit is begun

-- the finished run that stands: the session's, and its run's
record Stood (s : Session) (p : Point) (n : ℕ) : Type 0 where
  of : Finished
  stands : state s ≡ standing of
  runs : run.state s.run ≡ standing of
  point : of.fit.point ≡ p
  size : length of.requested ≡ n

module _ (s : Session) (p : Point) (n : ℕ) (here : fitted_in (state s) ≡ Some (p, n)) where
  stood : Stood s p n
  stood = by s.edit refl
    where
      fitted_at : (t : State) → fitted_in t ≡ Some (p, n) → (c : Finished) × (t ≡ standing c) × (c.fit.point ≡ p) × (length c.requested ≡ n)
      fitted_at (standing c) e = (c, refl, grind arith, grind arith)
      fitted_at (asking kept t) e = absurd (grind arith)
      fitted_at over e = absurd (grind arith)

      by : (x : Option OpenEdit) → s.edit ≡ x → Stood s p n
      by None none =
          let same : state s ≡ run.state s.run = rw none in
          let h = fitted_at (run.state s.run) (ap fitted_in (sym same) ∙ here) in
          record { of = h.0; stands = same ∙ h.1; runs = h.1; point = h.2; size = h.3 }
      by (Some x) asks =
          let z : ◌≡◌ {A = Option (Point × ℕ)} None (Some (p, n)) =
          sym (ap (λ (y : Option OpenEdit). fitted_in (state_by s.run y)) asks ∙ unfitted (run.state s.run) x) ∙ here in
          absurd (grind arith)

  -- what an edit at a place of the list comes to
  edit_stands : (e : Edit) (said : Said) (r : Session) → placed e n ≡ true
      → ((c : Finished) → run.state s.run ≡ standing c → c.fit.point ≡ p → length c.requested ≡ n → Goes s.run c said r (edit c e))
      → Edited seen s e said r
  edit_stands e said r q d =
      edit_taken_lem seen s said r e stood.of stood.stands (ap (placed e) stood.size ∙ q) (d stood.of stood.runs stood.point stood.size)

  -- taking out
  pub taken_out : (place : ℕ) (one : Rows) (r : Running) → placed (take_out place) n ≡ true → Changed s.run (take_out place) one r
      → Edited seen s (take_out place) report (shut r)
  unfolding edit
  taken_out place one r q d =
      edit_stands (take_out place) _ _ q
      (λ c at point size. changed_stands s.run c at r _ (change_made s.run c at r (take_out place) one (rw (size, q)) refl d))

-- an edit that brings a distance: refused by its size or by the distance, or its questions are put
abbrev checked : Finished → Change → Requested → ℕ → Rows → Run Finished
checked c x d n one =
    bind (require (roomy (edit_of x) n) 6 0) (λ u. bind (require (sound_requested_of d) 7 (place_of (edit_of x))) (λ v. edit_left c x Nominal one))

edit_checked : (c : Finished) (x : Change) (d : Requested) (one : Rows) → entry_in (edit_of x) ≡ Some d
    → edit c (edit_of x) ≡ checked c x d (length c.requested) one
unfolding edit edit_questions
edit_checked c (PutIn i y) d one e = ap (λ (z : Requested). checked c (PutIn i y) z (length c.requested) one) (grind arith)
edit_checked c (TakeOut i) d one e = absurd (grind arith)
edit_checked c (Exchange i y) d one e = ap (λ (z : Requested). checked c (Exchange i y) z (length c.requested) one) (grind arith)

module _ (s : Session) (p : Point) (n : ℕ) (here : fitted_in (state s) ≡ Some (p, n)) (x : Change) (d : Requested) (is : entry_in (edit_of x) ≡ Some d)
    (q : placed (edit_of x) n ≡ true) where
  checks : (said : Said) (r : Session)
      → ((c : Finished) → run.state s.run ≡ standing c → c.fit.point ≡ p → opens (edit_of x) (length c.requested) ≡ (roomy (edit_of x) n && true)
      → Goes s.run c said r (checked c x d n (all_rows (newly x).row)))
      → Edited seen s (edit_of x) said r
  checks said r t = edit_stands s p n here (edit_of x) said r q
      (λ c at point size. rw (edit_checked c x d (all_rows (newly x).row) is, size) (t c at point (rw (size, q, is))))

  -- 6
  pub no_room : roomy (edit_of x) n ≡ false → Edited seen s (edit_of x) (refusal 6 0) (shut s.run)
  no_room m = checks _ _ (λ c at point f. rw m (refused_stands s.run c at 6 0))

  -- 7
  pub faulty : roomy (edit_of x) n ≡ true → sound_requested_of d ≡ false → Edited seen s (edit_of x) (refusal 7 (place_of (edit_of x))) (shut s.run)
  faulty m f = checks _ _ (λ c at point g. rw (m, f) (refused_stands s.run c at 7 (place_of (edit_of x))))

  -- the first question about the new distance
  pub begins : roomy (edit_of x) n ≡ true → sound_requested_of d ≡ true → Edited seen s (edit_of x) (question p.mv p.bc New) (asks_with s.run (newly x))
  begins m f = checks _ _ (λ c at point g. rw (m, f, sym point) (asks_stands s.run c at (newly x) (rw m at g)))
