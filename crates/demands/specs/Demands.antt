-- The three demands over any list of calls on a session just opened, declined ones included. Stated over what a host sees: the answers, and what the calls that
-- read a session give. Theorems `demand_1`, `demand_2` and `demand_3` stand in proofs/Demands.antt.
use Rattle.std.specs.Prelude.{ℕ, suc, ◌≤◌, ◌<◌, ◌≡◌, List, [], ◌∷◌, ◌↔◌, length, Float, Option, None, Some, option_map}
use Rattle.definition.specs.Request.{Opening}
use Rattle.definition.specs.Run.{Run, done, refuse, bind}
use Rattle.definition.specs.Host.{questions}
use Rattle.definition.specs.Summary.{Finished, Report, report_of}
use Rattle.definition.specs.Whole.{Edit, put_in, take_out, exchange, whole, checked_measured, checked_requested}
use Rattle.definition.specs.Laws.{put}
use Rattle.coverage.specs.Rows.{Table, rows_under}
use Rattle.coverage.specs.Report.{band_by, CoveredReport, report_under}
use Rattle.fresh_outcome.specs.Solver.{Solver, host_of, fresh, BandAlone}
use Rattle.definition.specs.Session.{Said, says_of, head, Opened, Replied, PointRefused, Edited}
use Rattle.definition.specs.declared.Distances.{Distances}
use Rattle.report.specs.declared.UncertaintyTruingReportV1.{UncertaintyTruingReportV1}
use Rattle.definition.specs.declared.WeightedTruingObservationResultV1.{WeightedTruingObservationResultV1}
use Rattle.bands.specs.Bands.{band_says}
use Rattle.bands.specs.declared.TruingPredictiveBandV1.{TruingPredictiveBandV1}
use Rattle.editing.specs.Meaning.{state, seen}
use Rattle.report.specs.Reading.{Shows, place_in, baseline_results, ReportRead, ResultRead, BaselineResultRead, BandRead}
use Rattle.covered_report.specs.Reading.{ShowsUnder, ReportReadUnder}
use Rattle.editing.specs.declared.Session.{Session}
use Rattle.editing.specs.Meaning.{Answer}
use Rattle.demands.specs.Calls.{Call, reply, refuse_point, change, Editing, At, first, rest_at, finished_at, declines, takes}
use Rattle.demands.specs.Calls.{stance, unless_declined, after_call, due_to}
use Rattle.demands.specs.Book.{heard, opened, ruled, Ends, Edits, standing_run, Holds, Trail, begun, followed, FromSolver}

-- ---- the calls of a host

-- a call and the answer that it got
pub record Made : Type 0 where
  pub call : Call
  pub answer : Answer

-- the contract of the call, which the code is proved to meet: src/lib.rt has every call with its promise
abbrev pub Meets : Call → Session → Answer → Type 0
Meets (reply es) s a = Replied seen s es (says_of a.step) a.session
Meets refuse_point s a = PointRefused seen s (says_of a.step) a.session
Meets (change e) s a = Edited seen s e (says_of a.step) a.session

-- each call is made on the session that the one before gave back
abbrev pub Chained : Answer → List Made → Type 0
Chained a [] = Unit {0}
Chained a (c ∷ cs) = Meets c.call a.session c.answer × Chained c.answer cs

-- a property of each call of a list, from where the run and its edits stand and from this session on
abbrev pub Throughout : (At → Session → Made → Type 0) → Opening → At → Session → List Made → Type 0
Throughout P o t s [] = Unit {0}
Throughout P o t s (c ∷ cs) = P t s c × Throughout P o (after_call o t c.call) c.answer.session cs

abbrev pub Whatever : (Opening → Answer → Type 0) → (Opening → At → Session → Made → Type 0) → Type 0
Whatever First P = (o : Opening) (a : Answer) → Opened seen o (says_of a.step) a.session → (cs : List Made) → Chained a cs
    → First o a × Throughout (P o) o first a.session cs

-- what the calls that read this session give without a table is this report, in its head and in each place of its lists, or that there is none
pub record ReadsPlain (s : Session) (p : Option Report) : Type 0 where
  pub heads : (r : Option UncertaintyTruingReportV1) → ReportRead (state s) r → Shows r p
  pub results : (i : ℕ) (r : Option WeightedTruingObservationResultV1) → ResultRead (state s) i r → r ≡ place_in (λ q. q.observations) i p
  pub baseline_results : (i : ℕ) (r : Option WeightedTruingObservationResultV1) → BaselineResultRead (state s) i r → r ≡ place_in baseline_results i p
  pub bands : (i : ℕ) (r : Option TruingPredictiveBandV1) → BandRead (state s) i r → option_map band_says r ≡ place_in (λ q. q.bands) i p

-- under a table it is this report, in which each interval that they give stands by its rows
pub record ReadsUnder (t : Table) (s : Session) (p : Option CoveredReport) : Type 0 where
  pub heads : (r : Option UncertaintyTruingReportV1) → ReportReadUnder t (state s) r → ShowsUnder t r p
  pub results : (i : ℕ) (r : Option WeightedTruingObservationResultV1) → ResultRead (state s) i r → r ≡ place_in (λ q. q.observations) i p
  pub baseline_results : (i : ℕ) (r : Option WeightedTruingObservationResultV1) → BaselineResultRead (state s) i r → r ≡ place_in baseline_results i p
  pub bands : (i : ℕ) (r : Option TruingPredictiveBandV1) → BandRead (state s) i r
      → option_map (λ b. band_by (rows_under t) (band_says b)) r ≡ place_in (λ q. q.bands) i p

-- what is read is the report of this finished run, without a table and under every one; or that there is none
pub record ReadsAs (s : Session) (c : Option Finished) : Type 0 where
  pub plain : ReadsPlain s (option_map report_of c)
  pub under : (t : Table) → ReadsUnder t s (option_map (report_under t) c)

-- what the call that reads the count of questions gives
abbrev pub count : Session → ℕ
count s = (seen s).asked

-- ---- demand 1: every call ends properly, whatever is replied

abbrev pub checked : Opening → Run (Unit {0})
checked o = bind (checked_measured o.measured) (λ u. checked_requested o.requested)

-- a faulty request gets its number and position, and a sound one the first question
pub record OpensProperly (o : Opening) (a : Answer) : Type 0 where
  pub faulty : (n i : ℕ) → checked o ≡ refuse n i → (says_of a.step ≡ Said.refusal n i) × (count a.session ≡ 0)
  pub sound : checked o ≡ done tt → (says_of a.step ≡ Said.question o.measured.entered.mv o.measured.entered.bc Distances.Shots) × (count a.session ≡ 1)

-- the count with what is said now: in the run a question counts, in an edit it does not
abbrev pub counted_said : Option Editing → ℕ → Said → ℕ
counted_said None n (Said.question mv bc list) = suc n
counted_said None n Said.report = n
counted_said None n (Said.refusal m i) = n
counted_said (Some x) n said = n

-- the most questions that an edit puts: the five about a new distance, and none where one is taken out
abbrev pub most_of : Edit → ℕ
most_of (put_in i d) = 5
most_of (take_out i) = 0
most_of (exchange i d) = 5

pub record EndsProperly (o : Opening) (t : At) (s : Session) (c : Made) : Type 0 where
  -- a call that was not due gets its number and changes nothing
  pub declined : (n : ℕ) → stance o t c.call ≡ declines n → (says_of c.answer.step ≡ Said.refusal n 0) × (c.answer.session ≡ s)
  -- the count rises by one exactly where the run's answer is a question, and stays within its limit, so that no run puts more questions
  pub counted : count c.answer.session ≡ counted_said (after_call o t c.call).last (count s) (says_of c.answer.step)
  pub limited : count c.answer.session ≤ 4546
  -- a question of an edit comes after fewer replies than it puts questions at the most: so it puts no more, and ends with the fifth reply if not before
  pub edit_limited : (x : Editing) → (after_call o t c.call).last ≡ Some x → (mv bc : Float) (list : Distances)
      → says_of c.answer.step ≡ Said.question mv bc list → length x.replies < most_of x.made
  -- an edit that is let through is of the report that stands, and one that ends in a refusal restores it
  pub edits : (x : Editing) → stance o t c.call ≡ takes → c.call ≡ change x.made → (after_call o t c.call).last ≡ Some x
      → ReadsAs s (Some x.of)
  pub restored : (x : Editing) (n i : ℕ) → (after_call o t c.call).last ≡ Some x → rest_at o (after_call o t c.call) ≡ refuse n i
      → ReadsAs c.answer.session (Some x.of)

-- Theorem `demand_1`.
abbrev pub Demand1 : Type 0
Demand1 = Whatever OpensProperly EndsProperly

-- ---- demand 2: every question and the whole report, or the lack of one, are the definition's, whatever is replied

pub record OpensAsDefined (o : Opening) (a : Answer) : Type 0 where
  pub says : says_of a.step ≡ head (whole o)
  pub counts : count a.session ≡ put (whole o) []
  pub reads : ReadsAs a.session (finished_at o first)

-- what is said, the number of questions that the run has put, and the report
pub record AsDefined (o : Opening) (t : At) (s : Session) (c : Made) : Type 0 where
  pub says : says_of c.answer.step ≡ due_to o t c.call
  pub counts : count c.answer.session ≡ put (whole o) (after_call o t c.call).run
  pub reads : ReadsAs c.answer.session (finished_at o (after_call o t c.call))

-- Theorem `demand_2`.
abbrev pub Demand2 : Type 0
Demand2 = Whatever OpensAsDefined AsDefined

-- ---- demand 3: the run and each edit end as a fresh run does, whatever pointwise solver the taken replies come from

-- only the band concerned and the outside-domain warning change, in the reports without a table and under every one
pub record OnlyBandOf (e : Edit) (before after : Finished) : Type 0 where
  pub plain : BandAlone e (report_of before) (report_of after)
  pub under : (t : Table) → BandAlone e (report_under t before) (report_under t after)

-- an edit has ended, and this was said: what is read on the session that it was made on, and what is read then
pub record Changes (e : Edit) (before : Session) (said : Said) (after_call : Session) : Type 0 where
  pub old : Finished
  pub new : Finished
  pub reads_old : ReadsAs before (Some old)
  pub reads_new : ReadsAs after_call (Some new)
  -- only the band concerned and the outside-domain warning change
  pub made : said ≡ Said.report → OnlyBandOf e old new
  -- a refused edit changes nothing
  pub refused : (n i : ℕ) → said ≡ Said.refusal n i → new ≡ old

-- the session that the last edit was made on
abbrev pub edited_from : Session → Session → Call → Session
edited_from old s (reply es) = old
edited_from old s refuse_point = old
edited_from old s (change e) = s

module _ (σ : Solver) (o : Opening) where
  -- the trail goes by the calls and what was said to them
  abbrev pub next_trail : Trail → Made → Trail
  next_trail u c = followed σ o u c.call (says_of c.answer.step)

  -- every reply that is taken comes from the solver
  abbrev pub AllFrom : Trail → List Made → Type 0
  AllFrom u [] = Unit {0}
  AllFrom u (c ∷ cs) = FromSolver σ o u c.call × AllFrom (next_trail u c) cs

  -- where the opening is refused, that is its list's fresh outcome; it is refused where the definition's play puts no question
  pub record OpensFresh (a : Answer) : Type 0 where
    pub stops : (heard o (says_of a.step) ≡ None) ↔ (0 ≡ questions (host_of σ o) (whole o))
    pub ends : heard o (says_of a.step) ≡ None → Ends (fresh σ o o.requested) None (says_of a.step) (ReadsAs a.session)
    pub stands : ReadsAs a.session (standing_run σ o (opened o (heard o (says_of a.step))))

  pub record EndsFresh (u : Trail) (before s : Session) (c : Made) : Type 0 where
    -- where the book's rules place 8, 9, 14 and 15, they come and change nothing
    pub declined : (n : ℕ) → ruled σ o u.book c.call ≡ declines n → (says_of c.answer.step ≡ Said.refusal n 0) × (c.answer.session ≡ s)
    -- the run's end, an edit's end, and the report that stands
    pub holds : Holds σ o u c.call (says_of c.answer.step) (ReadsAs c.answer.session)
    -- from the report before an edit to the one after, only the band concerned and the outside-domain warning may change
    pub changes : (e : Edit) → Edits u.book c.call e → ruled σ o u.book c.call ≡ takes → heard o (says_of c.answer.step) ≡ None
        → Changes e before (says_of c.answer.step) c.answer.session

  -- the session that the last edit was made on, this call included
  abbrev pub before_edit : Trail → Session → Session → Call → Session
  before_edit u old s x = unless_declined (ruled σ o u.book x) old (edited_from old s x)

  abbrev pub Along : Trail → Session → Session → List Made → Type 0
  Along u old s [] = Unit {0}
  Along u old s (c ∷ cs) =
      EndsFresh u (before_edit u old s c.call) s c × Along (next_trail u c) (before_edit u old s c.call) c.answer.session cs

-- Theorem `demand_3`.
abbrev pub Demand3 : Type 0
Demand3 =
    (σ : Solver) (o : Opening) (a : Answer) → Opened seen o (says_of a.step) a.session → (cs : List Made) → Chained a cs
    → AllFrom σ o (begun o (says_of a.step)) cs → OpensFresh σ o a × Along σ o (begun o (says_of a.step)) a.session a.session cs
