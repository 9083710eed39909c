-- The book of demand 3. It is fed the opening, the calls and, of each answer, only whether a question came and with how many distances.
use Rattle.std.specs.Prelude.{ℕ, suc, ◌≡◌, Bool, true, false, cond, List, [], ◌∷◌, ◌↔◌, length, eqb, Float, Option, None, Some}
use Rattle.definition.specs.Request.{Requested, Opening}
use Rattle.definition.specs.Run.{Entry, Reply, refused, entries}
use Rattle.definition.specs.Host.{Outcome, ends, refuses, questions}
use Rattle.definition.specs.Summary.{Finished, ranges_of}
use Rattle.definition.specs.Whole.{Edit, put_in, take_out, exchange, edited, placed, edit, whole}
use Rattle.definition.specs.declared.Point.{Point}
use Rattle.fresh_outcome.specs.Solver.{Solver, reply_at, distances_of, host_of, with_list, fresh}
use Rattle.definition.specs.Session.{Said}
use Rattle.definition.specs.declared.Distances.{Distances}
use Rattle.demands.specs.Calls.{Call, reply, refuse_point, change, Taking, declines, takes, unless_declined}

-- ---- what the book hears

-- with how many distances a question came, if one came
abbrev pub Heard : Type 0
Heard = Option ℕ

abbrev pub size_of : Opening → Distances → ℕ
size_of o Distances.Shots = length o.measured.observations
size_of o Distances.Requested = length o.requested
size_of o Distances.New = 1

abbrev pub heard : Opening → Said → Heard
heard o (Said.question mv bc list) = Some (size_of o list)
heard o Said.report = None
heard o (Said.refusal n i) = None

-- ---- the book

-- the run has a question open, or an edit has; the number is that of the distances which the question came with
pub data Where : Type 0 where
  in_run : ℕ → Where
  idle : Where
  in_edit : ℕ → Edit → Where

pub record Book : Type 0 where
  pub list : List Requested
  pub at : Where

abbrev pub is_report : Outcome Finished → Bool
is_report (ends c) = true
is_report (refuses n i) = false

abbrev pub opened : Opening → Heard → Book
opened o (Some n) = record { list = o.requested; at = in_run n }
opened o None = record { list = o.requested; at = idle }

module _ (σ : Solver) (o : Opening) where
  -- a list's fresh outcome is a report
  abbrev pub reports : List Requested → Bool
  reports l = is_report (fresh σ o l)

  -- 8, 9, 14 and 15
  abbrev pub ruled_reply : Where → List Entry → Taking
  ruled_reply (in_run n) es = cond (eqb (length es) n) takes (declines 9)
  ruled_reply idle es = declines 8
  ruled_reply (in_edit n e) es = cond (eqb (length es) n) takes (declines 9)

  abbrev pub ruled_refusal : Where → Taking
  ruled_refusal (in_run n) = takes
  ruled_refusal idle = declines 8
  ruled_refusal (in_edit n e) = takes

  -- a report stands once the run ended, if the opening's list has one, save while an edit's question is open
  abbrev pub stands_by : Where → Bool
  stands_by (in_run n) = false
  stands_by idle = reports o.requested
  stands_by (in_edit n e) = false

  abbrev pub ruled_edit : Book → Edit → Taking
  ruled_edit b e = cond (stands_by b.at) (cond (placed e (length b.list)) takes (declines 15)) (declines 14)

  abbrev pub ruled : Book → Call → Taking
  ruled b (reply es) = ruled_reply b.at es
  ruled b refuse_point = ruled_refusal b.at
  ruled b (change e) = ruled_edit b e

  -- an edit ends: the book takes its list if that list's fresh outcome is a report
  abbrev pub settled : Edit → List Requested → List Requested
  settled e l = cond (reports (edited e l)) (edited e l) l

  abbrev pub edit_heard : Edit → List Requested → Heard → Book
  edit_heard e l (Some n) = record { list = l; at = in_edit n e }
  edit_heard e l None = record { list = settled e l; at = idle }

  abbrev pub run_heard : List Requested → Heard → Book
  run_heard l (Some n) = record { list = l; at = in_run n }
  run_heard l None = record { list = l; at = idle }

  abbrev pub reply_heard : Where → List Requested → Heard → Book
  reply_heard (in_run n) l h = run_heard l h
  reply_heard idle l h = record { list = l; at = idle }
  reply_heard (in_edit n e) l h = edit_heard e l h

  abbrev pub call_heard : Book → Call → Heard → Book
  call_heard b (reply es) h = reply_heard b.at b.list h
  call_heard b refuse_point h = reply_heard b.at b.list h
  call_heard b (change e) h = edit_heard e b.list h

  -- the book after a call, and what it hears of the answer
  abbrev pub booked : Book → Call → Heard → Book
  booked b x h = unless_declined (ruled b x) b (call_heard b x h)

-- ---- the open question, and replies that come from a solver

-- a question: its point and its distances
pub record Question : Type 0 where
  pub point : Point
  pub about : List Float

-- the new distance of an edit that has a question open
abbrev pub new_of : Where → List Float
new_of (in_run n) = []
new_of idle = []
new_of (in_edit n (put_in i d)) = d.range_yd ∷ []
new_of (in_edit n (take_out i)) = []
new_of (in_edit n (exchange i d)) = d.range_yd ∷ []

abbrev pub about_of : Opening → Where → Distances → List Float
about_of o at Distances.Shots = ranges_of o.measured.observations
about_of o at Distances.Requested = distances_of o.requested
about_of o at Distances.New = new_of at

abbrev pub question_in : Opening → Where → Said → Option Question
question_in o at (Said.question mv bc list) = Some (record { point = record { mv = mv; bc = bc }; about = about_of o at list })
question_in o at Said.report = None
question_in o at (Said.refusal n i) = None

-- the book, the question that is open, and how many replies the run, or the last edit, has taken
pub record Trail : Type 0 where
  pub book : Book
  pub asked : Option Question
  pub replies : ℕ

-- the replies taken, with this call: an edit begins with none
abbrev pub replies_with : ℕ → Call → ℕ
replies_with n (reply es) = suc n
replies_with n refuse_point = suc n
replies_with n (change e) = 0

abbrev pub begun : Opening → Said → Trail
begun o said = let b = opened o (heard o said) in record { book = b; asked = question_in o b.at said; replies = 0 }

abbrev pub followed : Solver → Opening → Trail → Call → Said → Trail
followed σ o t x said =
    let b = booked σ o t.book x (heard o said) in
    unless_declined (ruled σ o t.book x) t (record { book = b; asked = question_in o b.at said; replies = replies_with t.replies x })

-- a reply that is taken comes from the solver: it is what the solver replies to the open question
abbrev pub Replies : Solver → Option Question → Reply → Type 0
Replies σ None r = Unit {0}
Replies σ (Some q) r = r ≡ reply_at σ q.point q.about

abbrev pub Comes : Solver → Taking → Option Question → Reply → Type 0
Comes σ (declines n) q r = Unit {0}
Comes σ takes q r = Replies σ q r

abbrev pub FromSolver : Solver → Opening → Trail → Call → Type 0
FromSolver σ o t (reply es) = Comes σ (ruled σ o t.book (reply es)) t.asked (entries es)
FromSolver σ o t refuse_point = Comes σ (ruled σ o t.book refuse_point) t.asked refused
FromSolver σ o t (change e) = Unit {0}

-- ---- what demand 3 says of a call

-- how an outcome is told
abbrev pub said_by : Outcome Finished → Said
said_by (ends c) = Said.report
said_by (refuses n i) = Said.refusal n i

-- the finished run whose report is read once it is told: a refusal leaves the one before
abbrev pub finished_from : Option Finished → Outcome Finished → Option Finished
finished_from before (ends c) = Some c
finished_from before (refuses n i) = before

-- what was said is this outcome, and so is what is read then
pub record Ends (f : Outcome Finished) (before : Option Finished) (said : Said) (Reads : Option Finished → Type 0) : Type 0 where
  pub says : said ≡ said_by f
  pub reads : Reads (finished_from before f)

-- the edit that a call makes, or goes on with
abbrev pub Edits : Book → Call → Edit → Type 0
Edits b (reply es) e = (n : ℕ) × (b.at ≡ in_edit n e)
Edits b refuse_point e = (n : ℕ) × (b.at ≡ in_edit n e)
Edits b (change f) e = f ≡ e

module _ (σ : Solver) (o : Opening) where
  -- the finished run whose report stands, by the book
  abbrev pub standing_run : Book → Option Finished
  standing_run b = cond (stands_by σ o b.at) (finished_from None (fresh σ o b.list)) None

  -- where a call found this trail, this was said to it, and this is what is read then
  pub record Holds (u : Trail) (x : Call) (said : Said) (Reads : Option Finished → Type 0) : Type 0 where
    -- the run does end: with the reply to the last question that the definition's play of it puts, and with no other
    pub run_stops : (n : ℕ) → u.book.at ≡ in_run n → ruled σ o u.book x ≡ takes
        → (heard o said ≡ None) ↔ (replies_with u.replies x ≡ questions (host_of σ o) (whole o))
    -- so does each edit: an edit that asks nothing with the call itself
    pub edit_stops : (e : Edit) (c : Finished) → Edits u.book x e → ruled σ o u.book x ≡ takes → fresh σ o u.book.list ≡ ends c
        → (heard o said ≡ None) ↔ (replies_with u.replies x ≡ questions (host_of σ (with_list o u.book.list)) (edit c e))
    -- the run ends in the fresh outcome of the opening's list
    pub run_ends : (n : ℕ) → u.book.at ≡ in_run n → ruled σ o u.book x ≡ takes → heard o said ≡ None → Ends (fresh σ o o.requested) None said Reads
    -- an edit ends in the fresh outcome of the edited list, and a refused one restores the report of the list as it was
    pub edit_ends : (e : Edit) → Edits u.book x e → ruled σ o u.book x ≡ takes → heard o said ≡ None
        → Ends (fresh σ o (edited e u.book.list)) (finished_from None (fresh σ o u.book.list)) said Reads
    -- a report that stands is that of a fresh run with the book's list
    pub stands : Reads (standing_run (booked σ o u.book x (heard o said)))
    pub reported : stands_by σ o (booked σ o u.book x (heard o said)).at ≡ true → reports σ o (booked σ o u.book x (heard o said)).list ≡ true
