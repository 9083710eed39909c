-- What a program has written that hands its input to `feed` in pieces, each until it is used up, writes out what each call left in the buffer, and ends with
-- `finish`.
use Rattle.std.specs.Prelude.{◌≡◌, List, [], ◌∷◌, ◌++◌, ℕ, ◌≤◌, length, take}
use Rattle.coverage.specs.Rows.{Table}
use Rattle.report_text.specs.Writing.{Text}
use Rattle.conversation.specs.Conversation.{initial}
use Rattle.stream.specs.Output.{output_of}
use Rattle.stream.specs.Bytes.{Holds, Feeds, Finishes}
use Rattle.stream.specs.declared.State.{State}
use Rattle.stream.specs.declared.Fed.{Fed}

-- a call of `feed`: the buffer before it and after it, the state after it, and what it gave
pub record FeedCall : Type 0 where
  pub out : Text
  pub after : Text
  pub state : State
  pub fed : Fed

abbrev pub written_by : FeedCall → Text
written_by x = take x.fed.len x.after

-- the calls on one piece, each from where the one before stopped, until the piece is used up
abbrev pub PieceFed : State → List ℕ → ℕ → List FeedCall → Type 0
PieceFed h bytes at [] = length bytes ≤ at
PieceFed h bytes at (x ∷ xs) = Feeds h bytes at x.out x.after x.state x.fed × PieceFed x.state bytes x.fed.at xs

abbrev pub state_after : State → List FeedCall → State
state_after h [] = h
state_after h (x ∷ xs) = state_after x.state xs

abbrev pub written : List FeedCall → Text
written [] = []
written (x ∷ xs) = written_by x ++ written xs

-- a piece of the input, and the calls on it
pub record Piece : Type 0 where
  pub bytes : List ℕ
  pub calls : List FeedCall

abbrev pub InputFed : State → List Piece → Type 0
InputFed h [] = Unit {0}
InputFed h (p ∷ ps) = PieceFed h p.bytes 0 p.calls × InputFed (state_after h p.calls) ps

abbrev pub last_state : State → List Piece → State
last_state h [] = h
last_state h (p ∷ ps) = last_state (state_after h p.calls) ps

-- all the bytes that were read, and all that were written for them
abbrev pub input : List Piece → List ℕ
input [] = []
input (p ∷ ps) = p.bytes ++ input ps

abbrev pub all_written : List Piece → Text
all_written [] = []
all_written (p ∷ ps) = written p.calls ++ all_written ps

-- Theorem `output`: however the input is cut into pieces, what is written for it, from a state that `new` gave to what `finish` leaves, is what the
-- definition says, under the table that `new` was handed.
abbrev pub Output : Type 0
Output =
    (table : Table) (h : State) → Holds h (initial table) [] → (ps : List Piece) → InputFed h ps → (out after : Text) (n : ℕ)
    → Finishes (last_state h ps) out after n
    → all_written ps ++ take n after ≡ output_of table (input ps)
