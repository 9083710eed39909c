-- How the code's conversation stands for the definition's.
use Rattle.std.specs.Prelude.{ℕ, ◌≡◌, [], ◌++◌, ◌⊎◌, length, drop, Option, None, Some}
use Rattle.definition.specs.Request.{Opening}
use Rattle.definition.specs.Run.{refuse}
use Rattle.definition.specs.Whole.{whole}
use Rattle.coverage.specs.Rows.{Table}
use Rattle.coverage.specs.Table.{rows_in}
use Rattle.covered_report.specs.Reading.{covered_in}
use Rattle.editing.specs.Meaning.{state}
use Rattle.editing.specs.declared.Session.{Session}
use Rattle.demands.specs.Calls.{At, first}
use Rattle.demands.specs.Standing.{Inv}
use Rattle.report_text.specs.Writing.{Text}
use Rattle.report_text.specs.Texts.{asked_text, malformed_text}
use Rattle.answer_text.specs.Answers.{line}
use Rattle.conversation.specs.Conversation.{said_text}
use Rattle.definition.specs.Session.{says_of}
use Rattle.conversation.specs.Conversation.{Conversation, Answer, nothing, malformed_at, count, shown_page, says, Answered, next_line, answer_to, page_answer, text_of, unended_text}
use Rattle.requests.specs.Kept.{kept, Keeps}
use Rattle.conversation.specs.declared.Conversation.{Conversation as Held}
use Rattle.conversation.specs.declared.Response.{Response}
use Rattle.conversation.specs.declared.Response.TheVariants as response
use Rattle.lines.specs.Reading.{form_if}
use Rattle.lines.specs.declared.Line.{Line}

-- ---- the session

-- an opening that is refused, on whose session nothing was taken
pub record Refuses (o : Opening) (t : At) : Type 0 where
  pub number : ℕ
  pub position : ℕ
  pub over : whole o ≡ refuse number position
  pub still : t ≡ first

-- The session stands where the run and its edits do. Beyond 64 observations or distances the opening of the first 65 is refused as that of all is.
pub record Stands (s : Session) (o : Opening) (t : At) : Type 0 where
  pub inv : Inv (kept o) t s
  pub all : (kept o ≡ o) ⊎ Refuses o t

-- ---- the conversation

pub record Tracks (h : Held) (t : Conversation) : Type 0 where
  pub lines : h.lines ≡ t.lines
  pub section : h.section ≡ t.section
  pub request : Keeps h.request t.request
  pub session : Stands h.session t.opening t.at
  pub table : rows_in h.table ≡ t.table

-- ---- what is answered

abbrev pub response_says : Option Response → Answer
response_says None = nothing
response_says (Some (response.Malformed n)) = malformed_at n
response_says (Some (response.Asked n)) = count n
response_says (Some response.Page) = shown_page
response_says (Some (response.Says step)) = says (says_of step)

-- by the table and the session that the code holds
abbrev pub response_text : Table → Session → Option Response → Text
response_text t s None = []
response_text t s (Some (response.Malformed n)) = line (malformed_text n)
response_text t s (Some (response.Asked n)) = line (asked_text n)
response_text t s (Some response.Page) = page_answer (covered_in t (state s))
response_text t s (Some (response.Says step)) = line (said_text (says_of step) (covered_in t (state s)))

-- where the line leads the code's conversation, and what the code answers
pub record Responds (h : Held) (r : Option Response) (a : Answered) : Type 0 where
  pub conversation : Tracks h a.0
  pub says : response_says r ≡ a.1

-- The text stands whole at the start of the buffer, whose bytes behind it are as they were; it has this many bytes.
pub record Fills (out after : Text) (n : ℕ) (text : Text) : Type 0 where
  pub stands : after ≡ text ++ drop (length text) out
  pub counts : n ≡ length text

-- a line's answer: where the conversation tracks the definition's, it does so after the line, and the answer is in the buffer
pub record Answers (h : Held) (l : Option Line) (out after : Text) (k : Held) (n : ℕ) : Type 0 where
  pub room : length after ≡ length out
  pub goes : (t : Conversation) → Tracks h t → let a = answer_to (next_line t) (form_if l) in Tracks k a.0 × Fills out after n (text_of a)

-- the answer to a last line without its line feed
pub record AnswersUnended (h : Held) (out after : Text) (n : ℕ) : Type 0 where
  pub room : length after ≡ length out
  pub goes : (t : Conversation) → Tracks h t → Fills out after n (unended_text t)
