-- The line protocol between two lines: where a conversation stands, and what a line's form does to it and gets for an answer. It reads beside docs/PROTOCOL.md.
-- What is said to a call on the session, and where it stands then, are `due_to` and `after_call` (demands); the texts are those of `report_text` and
-- `answer_text`.
use Rattle.std.specs.Prelude.{ℕ, Bool, true, false, [], ◌++◌, length, Option, option_map}
use Rattle.numeric.specs.Numeric.{zero64}
use Rattle.definition.specs.Request.{Opening}
use Rattle.definition.specs.Laws.{put}
use Rattle.coverage.specs.Rows.{Table}
use Rattle.coverage.specs.Report.{CoveredReport, report_under}
use Rattle.definition.specs.Whole as edits
use Rattle.definition.specs.Whole.{whole}
use Rattle.definition.specs.Session.{Said, head, more_of}
use Rattle.demands.specs.Calls.{Call, reply, refuse_point, change, At, first, finished_at, after_call, due_to}
use Rattle.lines.specs.Lines.{Form, malformed, entered, shot, prior_speed, prior_coefficient, distance, open_plain, drops, refused, put_in, take_out, exchange}
use Rattle.lines.specs.Lines.{asked, page}
use Rattle.report_text.specs.Writing.{Text}
use Rattle.report_text.specs.Texts.{asked_text, page_count_text, malformed_text}
use Rattle.answer_text.specs.Answers.{standing_text, line}
use Rattle.report_text.specs.Texts.{question_text, declined_text}
use Rattle.page_text.specs.Page.{lines_in, page_in}
use Rattle.requests.specs.Request.{empty_request, with_shot, with_speed, with_coefficient, with_distance, normal, requested_with}
use Rattle.conversation.specs.declared.Section.{Section}
use Rattle.conversation.specs.declared.Section.TheVariants.{Closed, Shots, Priors, Distances}

-- ---- where a conversation stands

-- The number of lines read; the request so far, with the section that it is in; the session: its opening, and where its run and its edits stand; and the
-- coverage table, under which reports and pages are shown.
pub record Conversation : Type 0 where
  pub lines : ℕ
  pub section : Section
  pub request : Opening
  pub opening : Opening
  pub at : At
  pub table : Table

-- Before the first (open plain) the session is that of an empty request, which is declined: there is none, and every call gets what it gets after a declined
-- opening.
abbrev pub no_request : Opening
no_request = empty_request (record { mv = zero64; bc = zero64 })

abbrev pub initial : Table → Conversation
initial table = record { lines = 0; section = Closed; request = no_request; opening = no_request; at = first; table = table }

-- the number of the line that is read now; it stays at the largest that 64 bits hold
abbrev pub next_line : Conversation → Conversation
next_line t = record { lines = more_of t.lines; section = t.section; request = t.request; opening = t.opening; at = t.at; table = t.table }

-- ---- the request

-- Between (entered ..) and (open plain): the shots, then the priors, the speed's first, then the distances. In each section a line of a later one may come.
-- A shot, or the speed's prior.
abbrev pub takes_shot : Section → Bool
takes_shot Closed = false
takes_shot Shots = true
takes_shot Priors = false
takes_shot Distances = false

-- the coefficient's prior
abbrev pub takes_coefficient : Section → Bool
takes_coefficient Closed = false
takes_coefficient Shots = true
takes_coefficient Priors = true
takes_coefficient Distances = false

-- a distance, or (open plain)
abbrev pub takes_distance : Section → Bool
takes_distance Closed = false
takes_distance Shots = true
takes_distance Priors = true
takes_distance Distances = true

-- ---- what is answered to a line

pub data Answer : Type 0 where
  -- a line of the request
  nothing : Answer
  -- a line that is none of the forms, or that comes in another place than its own, by its number
  malformed_at : ℕ → Answer
  -- how many questions the run has put
  count : ℕ → Answer
  -- the page of the report that stands
  shown_page : Answer
  -- what is said to a call
  says : Said → Answer

-- where the line leads, and what is answered
abbrev pub Answered : Type 0
Answered = Conversation × Answer

-- nothing changes
abbrev pub malformed_line : Conversation → Answered
malformed_line t = (t, malformed_at t.lines)

-- where the line is not in its place, it is malformed
abbrev pub in_place : Bool → Conversation → Answered → Answered
in_place true t a = a
in_place false t a = malformed_line t

-- a line of the request: the session stays as it is
abbrev pub collected : Conversation → Section → Opening → Answered
collected t section o = (record { lines = t.lines; section = section; request = o; opening = t.opening; at = t.at; table = t.table }, nothing)

-- (open plain): the request becomes the session
abbrev pub opens : Conversation → Answered
opens t = (
  record { lines = t.lines; section = Closed; request = t.request; opening = t.request; at = first; table = t.table },
  says
      (head (whole t.request)),
)

-- a call on the session
abbrev pub calls : Conversation → Call → Answered
calls t x = (
  record { lines = t.lines; section = t.section; request = t.request; opening = t.opening; at = after_call t.opening t.at x; table = t.table },
  says
      (due_to t.opening t.at x),
)

-- the line is read in its number and place
unfoldable pub answer_to : Conversation → Form → Answered
answer_to t malformed = malformed_line t
answer_to t (entered mv bc) = collected t Shots (empty_request (record { mv = mv; bc = bc }))
answer_to t (shot range drop sigma) = in_place (takes_shot t.section) t
    (collected t Shots (with_shot t.request (record { range_yd = range; drop = drop; sigma = sigma })))
answer_to t (prior_speed mean sigma) = in_place (takes_shot t.section) t (collected t Priors (with_speed t.request (normal mean sigma)))
answer_to t (prior_coefficient mean sigma) = in_place (takes_coefficient t.section) t (collected t Distances (with_coefficient t.request (normal mean sigma)))
answer_to t (distance range sigma) = in_place (takes_distance t.section) t (collected t Distances (with_distance t.request (requested_with range sigma)))
answer_to t open_plain = in_place (takes_distance t.section) t (opens t)
answer_to t (drops es) = calls t (reply es)
answer_to t refused = calls t refuse_point
answer_to t (put_in place range sigma) = calls t (change (edits.put_in place (requested_with range sigma)))
answer_to t (take_out place) = calls t (change (edits.take_out place))
answer_to t (exchange place range sigma) = calls t (change (edits.exchange place (requested_with range sigma)))
answer_to t asked = (t, count (put (whole t.opening) t.at.run))
answer_to t page = (t, shown_page)

-- ---- texts

-- what is said, with the report that stands then
abbrev pub said_text : Said → Option CoveredReport → Text
said_text (Said.question mv bc list) shown = question_text list mv bc
said_text Said.report shown = standing_text shown
said_text (Said.refusal number position) shown = declined_text number position

-- how many lines the page has, and these
abbrev pub page_answer : Option CoveredReport → Text
page_answer shown = line (page_count_text (length (lines_in shown))) ++ page_in shown

-- the report that stands, under the table
abbrev pub shown_in : Conversation → Option CoveredReport
shown_in t = option_map (report_under t.table) (finished_at t.opening t.at)

abbrev pub answer_text : Conversation → Answer → Text
answer_text t nothing = []
answer_text t (malformed_at n) = line (malformed_text n)
answer_text t (count n) = line (asked_text n)
answer_text t shown_page = page_answer (shown_in t)
answer_text t (says x) = line (said_text x (shown_in t))

abbrev pub text_of : Answered → Text
text_of a = answer_text a.0 a.1

-- a last line without its line feed is malformed
abbrev pub unended_text : Conversation → Text
unended_text t = line (malformed_text (next_line t).lines)
