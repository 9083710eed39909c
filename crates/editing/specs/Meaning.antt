-- What a session with edits stands for: the run's own state, or, while an edit has a question open, what is left of the edit with the finished run kept.
use Rattle.std.specs.Prelude.{ℕ, Bool, cond, ◌&&◌, [], ◌∷◌, length, get_or, Float, Option, None, Some, is_some}
use Rattle.numeric.specs.Numeric.{zero64}
use Rattle.definition.specs.Run.{Run, done, bind, new}
use Rattle.definition.specs.Likelihood.{Rows}
use Rattle.definition.specs.Summary.{Finished}
use Rattle.definition.specs.Whole.{Edit, put_in, take_out, exchange, placed, renewed, unless_missing}
use Rattle.definition.specs.Session.{State, asking, standing, over, after, Seen}
use Rattle.definition.specs.declared.Point.{Point}
use Rattle.definition.specs.declared.Row.{Row}
use Rattle.definition.specs.declared.Distances.TheVariants.{New}
use Rattle.definition.specs.declared.Step.{Step}
use Rattle.definition.specs.declared.Step.TheVariants.{Question}
use Rattle.stencil.specs.Stencil.{stencil, stencil_next, all_rows}
use Rattle.stencil.specs.declared.StencilPoint.{StencilPoint}
use Rattle.stencil.specs.declared.StencilPoint.TheVariants.{Nominal}
use Rattle.stencil.specs.declared.StencilRows.{StencilRows}
use Rattle.lists.specs.Changing.{edit_of, place_of, entry_in, roomy}
use Rattle.lists.specs.declared.Change.{Change}
use Rattle.run_body.specs.Meaning.{sizes_of}
use Rattle.session.specs.Meaning as run
use Rattle.session.specs.declared.Answer as run_answer
use Rattle.session.specs.declared.Session.{Session as Running}
use Rattle.editing.specs.declared.OpenEdit.{OpenEdit}
use Rattle.editing.specs.declared.Session.{Session}

-- ---- an open edit

-- taking out puts no question
abbrev pub puts : Edit → Bool
puts e = is_some (entry_in e)

-- the distance that an edit asks about
abbrev pub range_in : Edit → Float
range_in (put_in i d) = d.range_yd
range_in (take_out i) = zero64
range_in (exchange i d) = d.range_yd

-- what follows the five replies about the new distance
abbrev pub ended_with : Finished → Edit → Rows → Run Finished
ended_with c e one = bind (unless_missing one.gap (place_of e)) (λ u. done (renewed c e one))

-- an edit with a question open fits the list
abbrev pub opens : Edit → ℕ → Bool
opens e n = placed e n && (roomy e n && puts e)

-- what is left of the edit before the reply to one of the five questions
abbrev pub edit_left : Finished → Change → StencilPoint → Rows → Run Finished
edit_left c x k one = bind (stencil k c.fit.point (new (range_in (edit_of x))) one) (ended_with c (edit_of x))

-- an edit that no call opened is over
abbrev pub open_in : State → OpenEdit → State
open_in (asking kept t) x = over
open_in (standing c) x = cond (opens (edit_of x.change) (length c.requested))
    (after (Some c) (edit_left c x.change x.question (all_rows x.row))) over
open_in over x = over

abbrev pub state_by : Running → Option OpenEdit → State
state_by s None = run.state s
state_by s (Some x) = open_in (run.state s) x

abbrev pub state : Session → State
state s = state_by s.run s.edit

-- what a session shows of itself
abbrev pub seen : Session → Seen
seen s = record { state = state s; sizes = sizes_of s.run.body; asked = s.run.asked }

-- ---- the answers by their fields

abbrev pub Answer : Type 0
Answer = run_answer.Answer Session

abbrev pub of_run : run_answer.Answer Running → Answer
of_run a = record { step = a.step; session = record { run = a.session; edit = None } }

abbrev pub closed_with : Running → Step → Answer
closed_with s step = record { step = step; session = record { run = s; edit = None } }

abbrev pub asks_with : Running → OpenEdit → Session
asks_with s x = record { run = s; edit = Some x }

abbrev pub asked_at : Running → OpenEdit → Point → Answer
asked_at s x p = record { step = Question p.mv p.bc New; session = asks_with s x }

-- an edit whose first question is open
abbrev pub newly : Change → OpenEdit
newly x = record {
  change = x;
  question = Nominal;
  row = record { predicted = zero64 ∷ []; by_mv = zero64 ∷ []; by_bc = zero64 ∷ []; gap = 0 };
}

-- the point of the fit, where an edit with a question open fits the list
abbrev pub open_point : Option (Point × ℕ) → Edit → Option Point
open_point None e = None
open_point (Some (p, n)) e = cond (opens e n) (Some p) None

-- the row of one distance
abbrev pub row_from : StencilRows 1 → Row
row_from r = record { predicted_drop = get_or r.predicted 0 zero64; d_drop_d_mv = get_or r.by_mv 0 zero64; d_drop_d_bc = get_or r.by_bc 0 zero64 }

-- what follows the reply to one of the five questions
abbrev pub next_left : Finished → Change → StencilPoint → Point → Rows → Run Finished
next_left c x k p one = bind (stencil_next k p (new (range_in (edit_of x))) one) (ended_with c (edit_of x))
