-- What a run stands for by which question is open, what an open question wants of a reply, and where a taken reply leads.
use Rattle.std.specs.Prelude.{ℕ, ◌≡◌, Bool, true, false, cond, List, eqb, Float, Option, None, Some}
use Rattle.numeric.specs.Numeric.{finite}
use Rattle.definition.specs.Request.{Requested, Measured}
use Rattle.definition.specs.Run.{Run, done, bind, unless, require, shots, distances}
use Rattle.definition.specs.Likelihood as likelihood
use Rattle.definition.specs.Summary.{Finished, Baseline}
use Rattle.definition.specs.Whole as whole
use Rattle.definition.specs.Session.{State, standing, over, after, head, says_of}
use Rattle.definition.specs.declared.Point.{Point}
use Rattle.definition.specs.declared.Evaluation.{Evaluation as Evaluated}
use Rattle.definition.specs.declared.Distances.{Distances}
use Rattle.definition.specs.declared.Distances.TheVariants.{Shots, Requested as RequestedOnes}
use Rattle.definition.specs.declared.Step.TheVariants.{Question, Report, Refused}
use Rattle.definition.specs.declared.RefusalCode.{RefusalCode}
use Rattle.definition.specs.declared.RefusalCode.TheVariants as Code
use Rattle.fitting.specs.Meaning.{Continuation, fit_of, after_rows, after_trial, after_look, rest_of, start_at}
use Rattle.fitting.specs.declared.Progress.{Progress}
use Rattle.fitting.specs.declared.Moved.{Moved}
use Rattle.fitting.specs.declared.Stage.{Stage}
use Rattle.fitting.specs.declared.Wait.{Wait}
use Rattle.stencil.specs.Stencil.{stencil, point_at, next_of}
use Rattle.stencil.specs.declared.StencilPoint.{StencilPoint}
use Rattle.stencil.specs.declared.StencilPoint.TheVariants.{Nominal}
use Rattle.phases.specs.declared.Phase.{Phase}
use Rattle.phases.specs.declared.Phase.TheVariants.{Over, Start, Evaluation, Trial, Look, Bands, Ended}
use Rattle.phases.specs.declared.Lays.TheVariants.{Row, Baseline as BaselineDrops}
use Rattle.phases.specs.declared.Plan.{Plan}
use Rattle.phases.specs.declared.Next.{Next}

-- ---- what a run stands for

-- what a run holds between two questions
pub record Held : Type 0 where
  pub measured : Measured
  pub requested : List Requested
  pub progress : Progress
  -- the rows of the five questions as far as they have been answered: at the observations, and at the requested distances
  pub rows : likelihood.Rows
  pub band_rows : likelihood.Rows
  -- the drops at the fit, and the baseline
  pub predicted : List Float
  pub baseline : Option Baseline

-- the same with other numbers of the fit
abbrev pub with_progress : Held → Progress → Held
with_progress h g = record h { progress = g }

-- what follows the rows at the requested distances
abbrev pub after_bands : Held → likelihood.Rows → Run Finished
after_bands h rows = whole.concluded h.measured h.requested (fit_of h.progress) h.progress.evaluation h.predicted rows

-- the finished run with this baseline
abbrev pub finished_with : Held → Option Baseline → Finished
finished_with h baseline = record {
  measured = h.measured;
  fit = fit_of h.progress;
  evaluation = h.progress.evaluation;
  predicted = h.predicted;
  requested = h.requested;
  band_rows = h.band_rows;
  baseline = baseline;
}

abbrev pub finished_of : Held → Finished
finished_of h = finished_with h h.baseline

-- where a run stands, by which question is open
abbrev pub state_at : Held → Phase → State
state_at h Over = over
state_at h Start = after None (whole.run h.measured h.requested)
state_at h (Evaluation stage k) =
    after None (bind (bind (stencil k h.progress.point shots h.rows) (likelihood.complete 11))
    (after_rows h.measured h.requested h.progress stage))
state_at h (Trial q) = after None (rest_of h.measured h.requested h.progress (Wait.Trial q))
state_at h (Look c) = after None (rest_of h.measured h.requested h.progress (Wait.Look c))
state_at h (Bands k) = after None (bind (bind (stencil k h.progress.point distances h.band_rows) (likelihood.complete 13)) (after_bands h))
state_at h Phase.Baseline = after None (after_bands h h.band_rows)
state_at h Ended = standing (finished_of h)

-- ---- what an open question wants

-- no question is open, and a report stands or does not
abbrev pub nothing_asked : Bool → Plan
nothing_asked stands = record { asks = None; stands = stands; lays = None; objective = None; evaluates = None }

-- an objective at this point
abbrev pub objective_asked : Point → Plan
objective_asked q = record { asks = Some Shots; stands = false; lays = None; objective = Some q; evaluates = None }

-- what an evaluation is wanted for, where this is the last of the five
abbrev pub at_last : Option StencilPoint → Option Stage → Option Stage
at_last None stage = stage
at_last (Some q) stage = None

-- one of the five questions, at these distances
abbrev pub five_asked : Distances → StencilPoint → Option Stage → Plan
five_asked list k stage =
    record { asks = Some list; stands = false; lays = Some (Row k); objective = None; evaluates = at_last (next_of k) stage }

-- the drops at the entered point, once the fit has ended
abbrev pub baseline_asked : Plan
baseline_asked = record { asks = Some Shots; stands = false; lays = Some BaselineDrops; objective = None; evaluates = None }

abbrev pub plan_of : Phase → Point → Plan
plan_of Over entered = nothing_asked false
plan_of Start entered = objective_asked entered
plan_of (Evaluation stage k) entered = five_asked Shots k (Some stage)
plan_of (Trial q) entered = objective_asked q
plan_of (Look c) entered = objective_asked c
plan_of (Bands k) entered = five_asked RequestedOnes k None
plan_of Phase.Baseline entered = baseline_asked
plan_of Ended entered = nothing_asked true

-- ---- where a taken reply leads

abbrev pub asks_at : Progress → Phase → Point → Distances → Next
asks_at g phase p list = record { progress = g; phase = phase; step = Question p.mv p.bc list }

abbrev pub stops_at : Progress → RefusalCode → ℕ → Next
stops_at g code position = record { progress = g; phase = Over; step = Refused (record { code = code; position = position }) }

abbrev pub reports_at : Progress → Next
reports_at g = record { progress = g; phase = Ended; step = Report }

-- the fit has come to this, and waits for its next question
abbrev pub waits_at : Progress → Wait → Next
waits_at g (Wait.Evaluation stage) = asks_at g (Evaluation stage Nominal) g.point Shots
waits_at g (Wait.Trial q) = asks_at g (Trial q) q Shots
waits_at g (Wait.Look c) = asks_at g (Look c) c Shots

-- an objective is judged, its first gap before its sum; where it is there, the fit waits
abbrev pub judged_at : Progress → ℕ → Float → Moved → Next
judged_at g gap sum moved =
    cond (eqb gap 0) (cond (finite sum) (waits_at moved.progress moved.wait) (stops_at g Code.ObjectiveNotFinite 0)) (stops_at g Code.ObservationMissing gap)

-- every run, whatever else it holds, is led where the continuation leads, and what is said is its head
pub record Leads (t : Next) (f : Continuation) : Type 0 where
  pub leads : (h : Held) → state_at (with_progress h t.progress) t.phase ≡ after None (f h.measured h.requested)
  pub says : (h : Held) → says_of t.step ≡ head (f h.measured h.requested)

-- the objective from its first gap, which is judged first, and its sum
abbrev pub valued_from : ℕ → Float → Run Float
valued_from gap s = bind (unless gap 11) (λ u. bind (require (finite s) 12 0) (λ v. done s))

abbrev pub with_evaluation : Progress → Evaluated → Progress
with_evaluation g e = record g { evaluation = e }

-- the evaluation at the fit is kept; the requested distances come next, or the baseline
unfoldable pub at_fit_at : Progress → Evaluated → Bool → Point → Next
at_fit_at g e requested entered =
    cond requested (asks_at (with_evaluation g e) (Bands Nominal) g.point RequestedOnes) (asks_at (with_evaluation g e) Phase.Baseline entered Shots)

-- an evaluation is there, from rows that come to it
pub record Goes (stage : Stage) (g : Progress) (e : Evaluated) (t : Next) : Type 0 where
  pub leads : (h : Held) (rows : likelihood.Rows) → likelihood.evaluation_of h.measured g.point rows ≡ e
      → state_at (with_progress h t.progress) t.phase ≡ after None (after_rows h.measured h.requested g stage rows)
  pub says : (h : Held) (rows : likelihood.Rows) → likelihood.evaluation_of h.measured g.point rows ≡ e
      → says_of t.step ≡ head (after_rows h.measured h.requested g stage rows)

abbrev pub Evaluates : Stage → Progress → Evaluated → Bool → Point → Next → Type 0
Evaluates Stage.Iteration g e requested entered t = Goes Stage.Iteration g e t
Evaluates Stage.Final g e requested entered t = Goes Stage.Final g e t
Evaluates Stage.Mesh g e requested entered t = Goes Stage.Mesh g e t
Evaluates Stage.AtFit g e requested entered t = t ≡ at_fit_at g e requested entered

-- the reply to one of the five questions at the observations is there
pub record Fives (stage : Stage) (k : StencilPoint) (g : Progress) (e : Evaluated) (gap : ℕ) (requested : Bool) (entered : Point) (t : Next) : Type 0 where
  pub more : (q : StencilPoint) → next_of k ≡ Some q → t ≡ asks_at g (Evaluation stage q) (point_at q g.point) Shots
  pub gapped : next_of k ≡ None → (gap ≡ 0 → ⊥) → t ≡ stops_at g Code.ObservationMissing gap
  pub whole : next_of k ≡ None → gap ≡ 0 → Evaluates stage g e requested entered t

-- the reply to one of the five questions at the requested distances is there, by which comes after it
unfoldable pub five_bands_at : Option StencilPoint → Progress → ℕ → Point → Next
five_bands_at (Some q) g gap entered = asks_at g (Bands q) (point_at q g.point) RequestedOnes
five_bands_at None g gap entered = cond (eqb gap 0) (asks_at g Phase.Baseline entered Shots) (stops_at g Code.DistanceMissing gap)

-- what a taken reply leads to, by which question was open: from the objective's gap and sum, from the evaluation, and from the first gap of the rows
abbrev pub Takes : Phase → Progress → Evaluated → ℕ → Float → ℕ → Bool → Point → Next → Type 0
Takes Over g e found sum gap requested entered t = t ≡ stops_at g Code.NoQuestionOpen 0
Takes Start g e found sum gap requested entered t = Leads t (λ m ds. bind (valued_from found sum) (λ x. start_at entered x m ds))
Takes (Evaluation stage k) g e found sum gap requested entered t = Fives stage k g e gap requested entered t
Takes (Trial q) g e found sum gap requested entered t = Leads t (λ m ds. bind (valued_from found sum) (after_trial m ds g q))
Takes (Look c) g e found sum gap requested entered t = Leads t (λ m ds. bind (valued_from found sum) (after_look m ds g c))
Takes (Bands k) g e found sum gap requested entered t = t ≡ five_bands_at (next_of k) g gap entered
Takes Phase.Baseline g e found sum gap requested entered t = t ≡ reports_at g
Takes Ended g e found sum gap requested entered t = t ≡ stops_at g Code.NoQuestionOpen 0
