-- The book and the definition agree at every call of a host whose replies come from one solver: by induction over the calls. Assumes nothing.
use Rattle.std.proofs.Common.{◌≡◌, ◌↔◌, ℕ, suc, ◌+◌, Bool, true, false, cond, eqb, List, [], ◌∷◌, ◌++◌, length, Option, None, Some}
use Rattle.std.proofs.Common.{refl, sym, ap, ◌∙◌, subst, arith}
use Rattle.definition.specs.Request.{Requested, Opening}
use Rattle.definition.specs.Run.{Run, done, refuse, ask, Entry, Reply, refused, entries, Which, shots, distances, new}
use Rattle.definition.specs.Host.{Outcome, ends, refuses, Host, play, questions}
use Rattle.definition.specs.Summary.{Finished, report_of, crosses_of, warnings_of}
use Rattle.definition.specs.Whole.{whole, Edit, put_in, take_out, exchange, edited, placed, edit}
use Rattle.definition.specs.Laws.{Asks}
use Rattle.definition.specs.declared.Point.{Point}
use Rattle.definition.proofs.Questions.{asks_now, asks_next, asks_whole, asks_edit}
use Rattle.fresh_outcome.specs.Solver.{Solver, reply_at, host_of, with_list, fresh}
use Rattle.fresh_outcome.proofs.Edits.{edit_fresh, list_kept}
use Rattle.fresh_outcome.proofs.Reports.{only_band}
use Rattle.coverage.specs.Rows.{rows_under}
use Rattle.coverage.specs.Report.{approximation_by, band_by, crosses_under, warnings_under, report_under}
use Rattle.demands.specs.Demands.{OnlyBandOf}
use Rattle.definition.specs.Session.{Said, head, list_of, sizes_for, wants}
use Rattle.demands.specs.Calls.{Call, reply, refuse_point, change, resume, Editing, At, first, rest_at, kept_by, finished_by, finished_at, Taking}
use Rattle.demands.specs.Calls.{declines, takes, taking_reply, taking_refusal, taking_edit, stance, with_reply, with_edit, after_taken, unless_declined}
use Rattle.demands.specs.Calls.{after_call, due, due_to}
use Rattle.demands.specs.Book.{size_of, heard, Where, in_run, idle, in_edit, Book, is_report, opened, reports, ruled_reply, ruled_refusal, ruled_edit, ruled}
use Rattle.demands.specs.Book.{stands_by, settled, edit_heard, run_heard, reply_heard, call_heard, booked, Question, about_of, question_in, Trail, replies_with}
use Rattle.demands.specs.Book.{begun, followed, Replies, Comes, FromSolver, said_by, finished_from, Ends, Edits, standing_run, Holds}

-- ---- in general

apart : {n : ℕ} {A : Type 0} → declines n ≡ takes → A
apart e = absurd (grind arith)

not_none : {A B : Type 0} {a : A} → ◌≡◌ {A = Option A} (Some a) None → B
not_none e = absurd (grind arith)

not_both : {A : Type 0} → ◌≡◌ {A = Bool} true false → A
not_both e = absurd (grind arith)

no_refusal : {n i : ℕ} {A : Type 0} → Said.report ≡ Said.refusal n i → A
no_refusal e = absurd (grind arith)

if_takes : (b : Bool) (n : ℕ) → cond b takes (declines n) ≡ takes → b ≡ true
if_takes true n e = refl
if_takes false n e = apart e

-- what an edit changes in a report, without a table and under every one
only_band_of : (σ : Solver) (o : Opening) (l : List Requested) (c d : Finished) (e : Edit) → fresh σ o l ≡ ends c → placed e (length l) ≡ true
    → fresh σ o (edited e l) ≡ ends d → OnlyBandOf e c d
unfolding report_of warnings_of report_under warnings_under
only_band_of σ o l c d e w p v = record {
  plain = only_band σ o l c d e w p v _ _ (λ a. a) (λ b. b) (λ b. refl) crosses_of;
  under = λ t. only_band σ o l c d e w p v _ _ (approximation_by (rows_under t)) (band_by (rows_under t)) (λ b. refl) (crosses_under t);
}

same_end : {c d : Finished} → ends c ≡ ends d → c ≡ d
same_end e = cc

-- ---- one reply more

pub resume_more : (t : Run Finished) (rs : List Reply) (r : Reply) (p : Point) (w : Which) (k : Reply → Run Finished) → resume t rs ≡ ask p w k
    → resume t (rs ++ (r ∷ [])) ≡ k r
resume_more t [] r p w k e = rw e
resume_more (done c) (x ∷ rs) r p w k e = cc
resume_more (refuse n i) (x ∷ rs) r p w k e = cc
resume_more (ask p' w' k') (x ∷ rs) r p w k e = resume_more (k' x) rs r p w k e

module _ (o : Opening) (run : List Reply) where
  pub rest_more : (last : Option Editing) (r : Reply) (p : Point) (w : Which) (k : Reply → Run Finished)
      → rest_at o (record { run = run; last = last }) ≡ ask p w k → rest_at o (with_reply run last r) ≡ k r
  rest_more None r p w k e = resume_more (whole o) run r p w k e
  rest_more (Some x) r p w k e = resume_more (edit x.of x.made) x.replies r p w k e

  pub kept_more : (last : Option Editing) (r : Reply) → kept_by (with_reply run last r).last ≡ kept_by last
  kept_more None r = refl
  kept_more (Some x) r = refl

-- ---- the invariant

module _ (σ : Solver) (o : Opening) where
  -- the host's reply to this question is the solver's, while the session stands so
  abbrev Suits : Host → (ℕ → Where) → Point → Which → Type 0
  Suits h at p w = (n : ℕ) → h p w ≡ reply_at σ p (about_of o (at n) (list_of w))

  -- what is left of the run comes to the fresh outcome of the opening's list
  record RunGoes (kept : Option Finished) (left : Run Finished) (list : List Requested) (replies : ℕ) : Type 0 where
    pub none_kept : kept ≡ None
    pub listed : list ≡ o.requested
    pub suits : Asks (Suits (host_of σ o) in_run) 4546 left
    pub plays : play (host_of σ o) left ≡ fresh σ o o.requested
    pub counted : replies + questions (host_of σ o) left ≡ questions (host_of σ o) (whole o)

  -- what is left of an edit comes to the fresh outcome of the edited list; kept is the finished run of the list as it is
  record EditGoes (e : Edit) (kept : Option Finished) (left : Run Finished) (list : List Requested) (replies : ℕ) : Type 0 where
    pub was : Finished
    pub was_kept : kept ≡ Some was
    pub before : fresh σ o list ≡ ends was
    pub reported : reports σ o o.requested ≡ true
    pub fits : placed e (length list) ≡ true
    pub suits : Asks (Suits (host_of σ (with_list o list)) (λ n. in_edit n e)) 5 left
    pub plays : play (host_of σ (with_list o list)) left ≡ fresh σ o (edited e list)
    pub counted : replies + questions (host_of σ (with_list o list)) left ≡ questions (host_of σ (with_list o list)) (edit was e)

  -- a question is left, and this one is open
  record Opens (at : ℕ → Where) (n : ℕ) (left : Run Finished) (asked : Option Question) : Type 0 where
    pub hears : heard o (head left) ≡ Some n
    pub asks : asked ≡ question_in o (at n) (head left)

  -- no question is left
  record Rests (kept : Option Finished) (left : Run Finished) (list : List Requested) : Type 0 where
    pub hears : heard o (head left) ≡ None
    pub finished : finished_by kept left ≡ cond (reports σ o o.requested) (finished_from None (fresh σ o list)) None
    pub reported : reports σ o o.requested ≡ true → reports σ o list ≡ true

  abbrev Stands : Option Finished → Run Finished → List Requested → Option Question → ℕ → Where → Type 0
  Stands kept left list asked m (in_run n) = RunGoes kept left list m × Opens in_run n left asked
  Stands kept left list asked m idle = Rests kept left list
  Stands kept left list asked m (in_edit n e) = EditGoes e kept left list m × Opens (λ n. in_edit n e) n left asked

  abbrev StandsBy : Option Finished → Run Finished → Trail → Type 0
  StandsBy kept left u = Stands kept left u.book.list u.asked u.replies u.book.at

pub record Agrees (σ : Solver) (o : Opening) (t : At) (u : Trail) : Type 0 where
  is : StandsBy σ o (kept_by t.last) (rest_at o t) u

-- ---- what comes next is heard

-- the trail with this book, what was said and so many replies
abbrev noted : Opening → Book → Said → ℕ → Trail
noted o b said m = record { book = b; asked = question_in o b.at said; replies = m }

module _ (σ : Solver) (o : Opening) where
  run_heard_lem : (kept : Option Finished) (left : Run Finished) (list : List Requested) (m : ℕ) → RunGoes σ o kept left list m
      → StandsBy σ o kept left (noted o (run_heard σ o list (heard o (head left))) (head left) m)
  run_heard_lem kept (ask p w k) list m g = (g, record { hears = refl; asks = refl })
  run_heard_lem kept (done c) list m g =
      let f : fresh σ o o.requested ≡ ends c = sym g.plays in
      let is : fresh σ o list ≡ ends c = ap (fresh σ o) g.listed ∙ f in
      record { hears = refl; finished = rw (f, is); reported = λ b. ap is_report is }
  run_heard_lem kept (refuse n i) list m g =
      let f : fresh σ o o.requested ≡ refuses n i = sym g.plays in
      record { hears = refl; finished = g.none_kept ∙ rw f; reported = λ b. ap (λ (l : List Requested). reports σ o l) g.listed ∙ b }

  edit_heard_lem : (e : Edit) (kept : Option Finished) (left : Run Finished) (list : List Requested) (m : ℕ) → EditGoes σ o e kept left list m
      → StandsBy σ o kept left (noted o (edit_heard σ o e list (heard o (head left))) (head left) m)
  edit_heard_lem e kept (ask p w k) list m g = (g, record { hears = refl; asks = refl })
  edit_heard_lem e kept (done c) list m g =
      let f : fresh σ o (edited e list) ≡ ends c = sym g.plays in
      let is : settled σ o e list ≡ edited e list = ap (λ (b : Bool). cond b (edited e list) list) (ap is_report f) in
      let same : fresh σ o (settled σ o e list) ≡ ends c = ap (fresh σ o) is ∙ f in
      record { hears = refl; finished = rw (g.reported, same); reported = λ b. ap is_report same }
  edit_heard_lem e kept (refuse n i) list m g =
      let f : fresh σ o (edited e list) ≡ refuses n i = sym g.plays in
      let is : settled σ o e list ≡ list = ap (λ (b : Bool). cond b (edited e list) list) (ap is_report f) in
      let same : fresh σ o (settled σ o e list) ≡ ends g.was = ap (fresh σ o) is ∙ g.before in
      record { hears = refl; finished = g.was_kept ∙ rw (g.reported, same); reported = λ b. ap is_report same }

  -- no question comes: what is said, and what stands, is the outcome
  ends_so : (h : Host) (kept : Option Finished) (left : Run Finished) (f : Outcome Finished) (before : Option Finished)
      → play h left ≡ f → kept ≡ before → heard o (head left) ≡ None → Ends f before (head left) (λ p. finished_by kept left ≡ p)
  ends_so h kept (done c) f before e k z = record { says = ap said_by e; reads = ap (finished_from before) e }
  ends_so h kept (refuse n i) f before e k z = record { says = ap said_by e; reads = k ∙ ap (finished_from before) e }
  ends_so h kept (ask p w k) f before e l z = not_none z

  -- no question comes exactly where the play has put them all
  stops_so : (h : Host) (left : Run Finished) (n all : ℕ) → n + questions h left ≡ all → (heard o (head left) ≡ None) ↔ (n ≡ all)
  stops_so h (done c) n all e = (λ z. omega arith, λ z. refl)
  stops_so h (refuse m i) n all e = (λ z. omega arith, λ z. refl)
  stops_so h (ask p w k) n all e = (λ z. not_none z, λ z. absurd (omega arith))

  -- an edit has ended: its finished run, the report that stands then, and what is new in it
  abbrev Ended : Edit → Option Finished → Option Finished → Said → Type 0
  Ended e kept stands said =
      (was : Finished) × (new : Finished) × (kept ≡ Some was) × (stands ≡ Some new)
      × (said ≡ Said.report → OnlyBandOf e was new) × ((n i : ℕ) → said ≡ Said.refusal n i → new ≡ was)

  changes_so : (e : Edit) (kept : Option Finished) (left : Run Finished) (list : List Requested) (m : ℕ) → EditGoes σ o e kept left list m
      → heard o (head left) ≡ None → Ended e kept (finished_by kept left) (head left)
  changes_so e kept (done d) list m g z =
      (g.was, d, g.was_kept, refl, λ r. only_band_of σ o list g.was d e g.before g.fits (sym g.plays), λ n i r. no_refusal r)
  changes_so e kept (refuse n i) list m g z = (g.was, g.was, g.was_kept, g.was_kept, λ r. no_refusal (sym r), λ n i r. refl)
  changes_so e kept (ask p w k) list m g z = not_none z

  -- ---- at the opening

  first_goes : RunGoes σ o None (whole o) o.requested 0
  unfolding fresh
  first_goes = record { none_kept = refl; listed = refl; suits = asks_whole (λ p n. refl) (λ p n. refl) o; plays = refl; counted = omega arith }

  opened_so : (h : Option ℕ) → opened o h ≡ run_heard σ o o.requested h
  opened_so (Some n) = refl
  opened_so None = refl

  -- ---- what stands, and what is ruled

  open_none : (n : ℕ) (kept : Option Finished) (left : Run Finished) → heard o (head left) ≡ Some n → finished_by kept left ≡ None
  open_none n kept (done c) e = not_none (sym e)
  open_none n kept (refuse m i) e = not_none (sym e)
  open_none n kept (ask p w k) e = refl

  reads_so : (kept : Option Finished) (left : Run Finished) (list : List Requested) (asked : Option Question) (m : ℕ) (at : Where)
      → Stands σ o kept left list asked m at
      → finished_by kept left ≡ cond (stands_by σ o at) (finished_from None (fresh σ o list)) None
  reads_so kept left list asked m (in_run n) s = open_none n kept left s.1.hears
  reads_so kept left list asked m idle s = s.finished
  reads_so kept left list asked m (in_edit n e) s = open_none n kept left s.1.hears

  reported_so : (kept : Option Finished) (left : Run Finished) (list : List Requested) (asked : Option Question) (m : ℕ) (at : Where)
      → Stands σ o kept left list asked m at
      → stands_by σ o at ≡ true → reports σ o list ≡ true
  reported_so kept left list asked m (in_run n) s b = not_both (sym b)
  reported_so kept left list asked m idle s b = s.reported b
  reported_so kept left list asked m (in_edit n e) s b = not_both (sym b)

  sized_so : (w : Which) → size_of o (list_of w) ≡ wants (sizes_for o) w
  sized_so shots = refl
  sized_so distances = refl
  sized_so (new d) = refl

  module _ (es : List Entry) where
    reply_open : (n : ℕ) (left : Run Finished) → heard o (head left) ≡ Some n
        → cond (eqb (length es) n) takes (declines 9) ≡ taking_reply (sizes_for o) left es
    reply_open n (done c) e = not_none (sym e)
    reply_open n (refuse m i) e = not_none (sym e)
    reply_open n (ask p w k) e =
        let same : n ≡ wants (sizes_for o) w = same_some (sym e) ∙ sized_so w in
        ap (λ (m : ℕ). cond (eqb (length es) m) takes (declines 9)) same
      where
        same_some : {a b : ℕ} → ◌≡◌ {A = Option ℕ} (Some a) (Some b) → a ≡ b
        same_some q = cc

    reply_none : (left : Run Finished) → heard o (head left) ≡ None → declines 8 ≡ taking_reply (sizes_for o) left es
    reply_none (done c) e = refl
    reply_none (refuse m i) e = refl
    reply_none (ask p w k) e = not_none e

    reply_so : (kept : Option Finished) (left : Run Finished) (list : List Requested) (asked : Option Question) (m : ℕ) (at : Where)
        → Stands σ o kept left list asked m at
        → ruled_reply σ o at es ≡ taking_reply (sizes_for o) left es
    reply_so kept left list asked m (in_run n) s = reply_open n left s.1.hears
    reply_so kept left list asked m idle s = reply_none left s.hears
    reply_so kept left list asked m (in_edit n e) s = reply_open n left s.1.hears

  refusal_open : (n : ℕ) (left : Run Finished) → heard o (head left) ≡ Some n → takes ≡ taking_refusal left
  refusal_open n (done c) e = not_none (sym e)
  refusal_open n (refuse m i) e = not_none (sym e)
  refusal_open n (ask p w k) e = refl

  refusal_none : (left : Run Finished) → heard o (head left) ≡ None → declines 8 ≡ taking_refusal left
  refusal_none (done c) e = refl
  refusal_none (refuse m i) e = refl
  refusal_none (ask p w k) e = not_none e

  refusal_so : (kept : Option Finished) (left : Run Finished) (list : List Requested) (asked : Option Question) (m : ℕ) (at : Where)
      → Stands σ o kept left list asked m at
      → ruled_refusal σ o at ≡ taking_refusal left
  refusal_so kept left list asked m (in_run n) s = refusal_open n left s.1.hears
  refusal_so kept left list asked m idle s = refusal_none left s.hears
  refusal_so kept left list asked m (in_edit n e) s = refusal_open n left s.1.hears

  -- the list of a finished run is the book's
  edit_so : (e : Edit) (kept : Option Finished) (left : Run Finished) (list : List Requested) (asked : Option Question) (m : ℕ) (at : Where)
      → Stands σ o kept left list asked m at
      → cond (stands_by σ o at) (cond (placed e (length list)) takes (declines 15)) (declines 14) ≡ taking_edit (finished_by kept left) e
  edit_so e kept left list asked m (in_run n) s = ap (λ (q : Option Finished). taking_edit q e) (sym (open_none n kept left s.1.hears))
  edit_so e kept left list asked m (in_edit n f) s = ap (λ (q : Option Finished). taking_edit q e) (sym (open_none n kept left s.1.hears))
  edit_so e kept left list asked m idle s = by (reports σ o o.requested) s.reported (fresh σ o list) refl
      ∙ ap (λ (q : Option Finished). taking_edit q e) (sym s.finished)
    where
      by : (b : Bool) → (b ≡ true → reports σ o list ≡ true) → (f : Outcome Finished) → fresh σ o list ≡ f
          → cond b (cond (placed e (length list)) takes (declines 15)) (declines 14) ≡ taking_edit (cond b (finished_from None (fresh σ o list)) None) e
      by false h f q = refl
      by true h (ends c) q =
          let same : length list ≡ length c.requested = ap length (sym (list_kept σ o list c q).0) in
          ap (λ (n : ℕ). cond (placed e n) takes (declines 15)) same ∙ ap (λ (f : Outcome Finished). taking_edit (finished_from None f) e) (sym q)
      by true h (refuses n i) q = not_both (sym (h refl) ∙ ap is_report q)

-- ---- a call that is taken

module _ (σ : Solver) (o : Opening) (t : At) where
  -- a reply from the solver is the host's, so what is left comes to what it came to
  goes_on_lem : {most : ℕ} (h : Host) (at : ℕ → Where) (n : ℕ) (asked : Option Question) (r : Reply) (left : Run Finished) → rest_at o t ≡ left
      → Opens σ o at n left asked
      → Asks (Suits σ o h at) most left → Replies σ asked r
      → Asks (Suits σ o h at) most (rest_at o (with_reply t.run t.last r)) × (play h (rest_at o (with_reply t.run t.last r)) ≡ play h left)
      × (suc (questions h (rest_at o (with_reply t.run t.last r))) ≡ questions h left)
  goes_on_lem h at n asked r (done c) e s w q = not_none (sym s.hears)
  goes_on_lem h at n asked r (refuse m i) e s w q = not_none (sym s.hears)
  goes_on_lem {most} h at n asked r (ask p v k) e s w q =
      let next : rest_at o (with_reply t.run t.last r) ≡ k r = rest_more o t.run t.last r p v k e in
      let same : r ≡ h p v = subst (λ (x : Option Question). Replies σ x r) s.asks q ∙ sym (asks_now w n) in (
        subst (Asks (Suits σ o h at) most) (sym next) (asks_next w r),
        ap (play h) next
            ∙ ap (λ (x : Reply). play h (k x)) same,
        ap (λ (x : Run Finished). suc (questions h x)) next ∙ ap (λ (x : Reply). suc (questions h (k x))) same,
      )

module _ (σ : Solver) (o : Opening) (t : At) (u : Trail) (a : Agrees σ o t u) where
  abbrev list : List Requested
  list = u.book.list

  stands_at : (at : Where) → u.book.at ≡ at → Stands σ o (kept_by t.last) (rest_at o t) list u.asked u.replies at
  stands_at at e = subst (Stands σ o (kept_by t.last) (rest_at o t) list u.asked u.replies) e a.is

  -- a reply to the run
  run_replied : (n : ℕ) → u.book.at ≡ in_run n → (r : Reply) → Replies σ u.asked r
      → RunGoes σ o (kept_by (with_reply t.run t.last r).last) (rest_at o (with_reply t.run t.last r)) list (suc u.replies)
  run_replied n e r q =
      let s = stands_at (in_run n) e in
      let g = goes_on_lem σ o t (host_of σ o) in_run n u.asked r (rest_at o t) refl s.1 s.0.suits q in
      record {
        none_kept = kept_more o t.run t.last r ∙ s.0.none_kept;
        listed = s.0.listed;
        suits = g.0;
        plays = g.1
            ∙ s.0.plays;
        counted = omega (arith, s.0.counted, g.2);
      }

  -- a reply to an edit
  edit_replied : (n : ℕ) (e : Edit) → u.book.at ≡ in_edit n e → (r : Reply) → Replies σ u.asked r
      → EditGoes σ o e (kept_by (with_reply t.run t.last r).last) (rest_at o (with_reply t.run t.last r)) list (suc u.replies)
  edit_replied n e i r q =
      let s = stands_at (in_edit n e) i in
      let g = goes_on_lem σ o t (host_of σ (with_list o list)) (λ n. in_edit n e) n u.asked r (rest_at o t) refl s.1 s.0.suits q in
      record {
        was = s.0.was;
        was_kept = kept_more o t.run t.last r ∙ s.0.was_kept;
        before = s.0.before;
        reported = s.0.reported;
        fits = s.0.fits;
        suits = g.0;
        plays = g.1 ∙ s.0.plays;
        counted = omega (arith, s.0.counted, g.2);
      }

  suits_new : (e : Edit) (c : Finished) → Asks (Suits σ o (host_of σ (with_list o list)) (λ n. in_edit n e)) 5 (edit c e)
  suits_new (put_in i d) c = asks_edit c (put_in i d) (λ p n. refl)
  suits_new (take_out i) c = asks_edit c (take_out i) tt
  suits_new (exchange i d) c = asks_edit c (exchange i d) (λ p n. refl)

  -- an edit, made where this finished run stands
  abbrev Changed : Edit → Option Finished → Type 0
  Changed e q = EditGoes σ o e (kept_by (with_edit t q e).last) (rest_at o (with_edit t q e)) list 0

  changed : (e : Edit) → ruled_edit σ o u.book e ≡ takes → Changed e (finished_at o t)
  changed e = by u.book.at refl
    where
      by_outcome : (f : Outcome Finished) → fresh σ o list ≡ f → Rests σ o (kept_by t.last) (rest_at o t) list → reports σ o o.requested ≡ true
          → placed e (length list) ≡ true → Changed e (finished_at o t)
      by_outcome (ends c) f s b p =
          let is : finished_at o t ≡ Some c = s.finished ∙ rw (b, f) in
          subst (Changed e) (sym is)
          (record { was = c; was_kept = refl; before = f; reported = b; fits = p; suits = suits_new e c; plays = edit_fresh σ o list c e f p; counted = omega arith })
      by_outcome (refuses n i) f s b p = not_both (sym (s.reported b) ∙ ap is_report f)

      by_report : (b : Bool) → reports σ o o.requested ≡ b → Rests σ o (kept_by t.last) (rest_at o t) list
          → cond b (cond (placed e (length list)) takes (declines 15)) (declines 14) ≡ takes → Changed e (finished_at o t)
      by_report true b s p = by_outcome (fresh σ o list) refl s b (if_takes (placed e (length list)) 15 p)
      by_report false b s p = apart p

      by : (at : Where) → u.book.at ≡ at → cond (stands_by σ o at) (cond (placed e (length list)) takes (declines 15)) (declines 14) ≡ takes
          → Changed e (finished_at o t)
      by (in_run n) i p = apart p
      by idle i p = by_report (reports σ o o.requested) refl (stands_at idle i) p
      by (in_edit n f) i p = apart p

  -- ---- by the call

  replies_so : (x : Taking) (r : Reply) → x ≡ takes → Comes σ x u.asked r → Replies σ u.asked r
  replies_so x r e q = subst (λ (y : Taking). Comes σ y u.asked r) e q

  run_taken : (x : Call) → FromSolver σ o u x → ruled σ o u.book x ≡ takes → (n : ℕ) → u.book.at ≡ in_run n
      → RunGoes σ o (kept_by (after_taken o t x).last) (rest_at o (after_taken o t x)) list (replies_with u.replies x)
  run_taken (reply es) q e n i = run_replied n i (entries es) (replies_so _ _ e q)
  run_taken refuse_point q e n i = run_replied n i refused (replies_so _ _ e q)
  run_taken (change f) q e n i =
      apart (sym (ap (λ (at : Where). cond (stands_by σ o at) (cond (placed f (length list)) takes (declines 15)) (declines 14)) i) ∙ e)

  edit_taken_lem : (x : Call) → FromSolver σ o u x → ruled σ o u.book x ≡ takes → (e : Edit) → Edits u.book x e
      → EditGoes σ o e (kept_by (after_taken o t x).last) (rest_at o (after_taken o t x)) list (replies_with u.replies x)
  edit_taken_lem (reply es) q e f i = edit_replied i.0 f i.1 (entries es) (replies_so _ _ e q)
  edit_taken_lem refuse_point q e f i = edit_replied i.0 f i.1 refused (replies_so _ _ e q)
  edit_taken_lem (change g) q e f i =
      subst (λ (f : Edit). EditGoes σ o f (kept_by (after_taken o t (change g)).last) (rest_at o (after_taken o t (change g))) list 0) i (changed g e)

  -- a taken call leads to where this book stands
  abbrev Leads : Call → (Option ℕ → Book) → Type 0
  Leads x b = let left = rest_at o (after_taken o t x) in StandsBy σ o (kept_by (after_taken o t x).last) left
      (noted o (b (heard o (head left))) (head left) (replies_with u.replies x))

  -- where a reply is taken, the run has a question open, or an edit has
  reply_leads : (x : Call) → FromSolver σ o u x → ruled σ o u.book x ≡ takes → ((n : ℕ) (e : Edit) → u.book.at ≡ in_edit n e → Edits u.book x e)
      → (u.book.at ≡ idle → ruled σ o u.book x ≡ declines 8) → Leads x (reply_heard σ o u.book.at list)
  reply_leads x q e edits closed = by u.book.at refl
    where
      by : (at : Where) → u.book.at ≡ at → Leads x (reply_heard σ o at list)
      by (in_run n) i = run_heard_lem σ o _ (rest_at o (after_taken o t x)) list _ (run_taken x q e n i)
      by idle i = apart (sym (closed i) ∙ e)
      by (in_edit n f) i = edit_heard_lem σ o f _ (rest_at o (after_taken o t x)) list _ (edit_taken_lem x q e f (edits n f i))

  leads : (x : Call) → FromSolver σ o u x → ruled σ o u.book x ≡ takes → Leads x (call_heard σ o u.book x)
  leads (reply es) q e = reply_leads (reply es) q e (λ n f i. (n, i)) (ap (λ (at : Where). ruled_reply σ o at es))
  leads refuse_point q e = reply_leads refuse_point q e (λ n f i. (n, i)) (ap (ruled_refusal σ o))
  leads (change f) q e = edit_heard_lem σ o f _ (rest_at o (after_taken o t (change f))) list _ (edit_taken_lem (change f) q e f refl)

-- ---- the theorems

pub agrees_first : (σ : Solver) (o : Opening) → Agrees σ o first (begun o (head (whole o)))
agrees_first σ o = record {
  is = subst (λ (b : Book). StandsBy σ o None (whole o) (noted o b (head (whole o)) 0)) (sym (opened_so σ o (heard o (head (whole o)))))
      (run_heard_lem σ o None (whole o) o.requested 0 (first_goes σ o));
}

-- the report that stands by the definition stands by the book
pub stands_by_lem : (σ : Solver) (o : Opening) (t : At) (u : Trail) → Agrees σ o t u → finished_at o t ≡ standing_run σ o u.book
stands_by_lem σ o t u a = reads_so σ o (kept_by t.last) (rest_at o t) u.book.list u.asked u.replies u.book.at a.is

pub opened_stops : (σ : Solver) (o : Opening) → (heard o (head (whole o)) ≡ None) ↔ (0 ≡ questions (host_of σ o) (whole o))
opened_stops σ o = stops_so σ o (host_of σ o) (whole o) 0 _ (first_goes σ o).counted

pub agrees_opened : (σ : Solver) (o : Opening)
    → (heard o (head (whole o)) ≡ None → Ends (fresh σ o o.requested) None (head (whole o)) (λ p. finished_at o first ≡ p))
    × (finished_at o first ≡ standing_run σ o (opened o (heard o (head (whole o)))))
agrees_opened σ o = (
  ends_so σ o (host_of σ o) None (whole o) (fresh σ o o.requested) None (first_goes σ o).plays refl,
  stands_by_lem σ o first (begun o (head (whole o)))
      (agrees_first σ o),
)

pub agrees_ruled : (σ : Solver) (o : Opening) (t : At) (u : Trail) → Agrees σ o t u → (x : Call) → ruled σ o u.book x ≡ stance o t x
agrees_ruled σ o t u a (reply es) = reply_so σ o es (kept_by t.last) (rest_at o t) u.book.list u.asked u.replies u.book.at a.is
agrees_ruled σ o t u a refuse_point = refusal_so σ o (kept_by t.last) (rest_at o t) u.book.list u.asked u.replies u.book.at a.is
agrees_ruled σ o t u a (change e) = edit_so σ o e (kept_by t.last) (rest_at o t) u.book.list u.asked u.replies u.book.at a.is

module _ (σ : Solver) (o : Opening) (t : At) (u : Trail) (a : Agrees σ o t u) (x : Call) (q : FromSolver σ o u x) where
  abbrev place_by : Taking → At
  place_by y = unless_declined y t (after_taken o t x)

  abbrev said_to : Taking → Said
  said_to y = due y (rest_at o (place_by y))

  abbrev trail_by : Taking → Said → Trail
  trail_by y said = unless_declined y u (noted o (unless_declined y u.book (call_heard σ o u.book x (heard o said))) said (replies_with u.replies x))

  next : Agrees σ o (after_call o t x) (followed σ o u x (due_to o t x))
  next = subst (λ (y : Taking). Agrees σ o (place_by (stance o t x)) (trail_by y (said_to (stance o t x)))) (sym (agrees_ruled σ o t u a x))
      (by (stance o t x) refl)
    where
      by : (y : Taking) → stance o t x ≡ y → Agrees σ o (place_by y) (trail_by y (said_to y))
      by (declines n) e = a
      by takes e = record { is = leads σ o t u a x q (agrees_ruled σ o t u a x ∙ e) }

  -- the book is that of the trail
  booked_so : (y : Taking) (said : Said) → unless_declined y u.book (call_heard σ o u.book x (heard o said)) ≡ (trail_by y said).book
  booked_so (declines n) said = refl
  booked_so takes said = refl

  -- what holds of the call as taken
  as_taken : (P : At → Said → Type 0) → ruled σ o u.book x ≡ takes → P (after_taken o t x) (head (rest_at o (after_taken o t x)))
      → P (after_call o t x) (due_to o t x)
  as_taken P e h = subst (λ (y : Taking). P (place_by y) (said_to y)) (sym (sym (agrees_ruled σ o t u a x) ∙ e)) h

  abbrev EndsSo : Outcome Finished → Option Finished → At → Said → Type 0
  EndsSo f before s said = heard o said ≡ None → Ends f before said (λ p. finished_at o s ≡ p)

  abbrev StopsSo : ℕ → At → Said → Type 0
  StopsSo all s said = (heard o said ≡ None) ↔ (replies_with u.replies x ≡ all)

  holds : Holds σ o u x (due_to o t x) (λ p. finished_at o (after_call o t x) ≡ p)
  holds =
      let list = u.book.list in
      let kept = kept_by (after_taken o t x).last in
      let left = rest_at o (after_taken o t x) in
      let then = followed σ o u x (due_to o t x) in
      let b : booked σ o u.book x (heard o (due_to o t x)) ≡ then.book = booked_so (ruled σ o u.book x) (due_to o t x) in
      record {
        run_stops = λ n i e.
            let g = run_taken σ o t u a x q e n i in
            as_taken (StopsSo (questions (host_of σ o) (whole o))) e (stops_so σ o (host_of σ o) left _ _ g.counted);
        edit_stops = λ f c i e w.
            let g = edit_taken_lem σ o t u a x q e f i in
            let host = host_of σ (with_list o list) in
            let same : g.was ≡ c = same_end (sym g.before ∙ w) in
            as_taken (StopsSo (questions host (edit c f))) e (stops_so σ o host left _ _ (g.counted ∙ ap (λ (b : Finished). questions host (edit b f)) same));
        run_ends = λ n i e.
            let g = run_taken σ o t u a x q e n i in
            as_taken (EndsSo (fresh σ o o.requested) None) e
            (ends_so σ o (host_of σ o) kept left (fresh σ o o.requested) None g.plays g.none_kept);
        edit_ends = λ f i e.
            let g = edit_taken_lem σ o t u a x q e f i in
            let was = finished_from None (fresh σ o list) in
            as_taken (EndsSo (fresh σ o (edited f list)) was) e
            (ends_so σ o (host_of σ (with_list o list)) kept left (fresh σ o (edited f list)) was g.plays
            (g.was_kept ∙ ap (finished_from None) (sym g.before)));
        stands = stands_by_lem σ o (after_call o t x) then next ∙ ap (standing_run σ o) (sym b);
        reported = λ h.
            let is : stands_by σ o then.book.at ≡ true = ap (λ (c : Book). stands_by σ o c.at) (sym b) ∙ h in
            ap (λ (c : Book). reports σ o c.list) b
            ∙ reported_so σ o (kept_by (after_call o t x).last) (rest_at o (after_call o t x)) then.book.list then.asked then.replies then.book.at
            next.is is;
      }

pub agrees_next : (σ : Solver) (o : Opening) (t : At) (u : Trail) → Agrees σ o t u → (x : Call) → FromSolver σ o u x
    → Agrees σ o (after_call o t x) (followed σ o u x (due_to o t x))
agrees_next σ o t u a x q = next σ o t u a x q

pub agrees_holds : (σ : Solver) (o : Opening) (t : At) (u : Trail) → Agrees σ o t u → (x : Call) → FromSolver σ o u x
    → Holds σ o u x (due_to o t x) (λ p. finished_at o (after_call o t x) ≡ p)
agrees_holds σ o t u a x q = holds σ o t u a x q

-- where an edit ends by the book's rules, what is new in the report that stands
pub agrees_changes : (σ : Solver) (o : Opening) (t : At) (u : Trail) → Agrees σ o t u → (x : Call) → FromSolver σ o u x
    → (e : Edit) → Edits u.book x e → ruled σ o u.book x ≡ takes → heard o (due_to o t x) ≡ None
    → Ended σ o e (kept_by (after_call o t x).last) (finished_at o (after_call o t x)) (due_to o t x)
agrees_changes σ o t u a x q e i r =
    as_taken σ o t u a x q (λ s said. heard o said ≡ None → Ended σ o e (kept_by s.last) (finished_at o s) said) r
    (changes_so σ o e (kept_by (after_taken o t x).last) (rest_at o (after_taken o t x)) u.book.list _ (edit_taken_lem σ o t u a x q r e i))
