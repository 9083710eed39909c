-- The bytes of the input as they come, in any pieces: how the code's reader stands for the bytes of the line so far, and what is left to write.
use Rattle.std.specs.Prelude.{ℕ, ◌≤◌, ◌<◌, ◌≡◌, Bool, true, false, cond, List, [], ◌∷◌, ◌++◌, eqb, length, take, drop, Option, None, Some, is_some}
use Rattle.lines.specs.Lines.{form_of}
use Rattle.lines.specs.Reading.{start_of, take_of}
use Rattle.lines.specs.declared.Line.{Line}
use Rattle.report_text.specs.Writing.{Text}
use Rattle.conversation.specs.Conversation.{Conversation, next_line, answer_to, text_of}
use Rattle.stream.specs.Output.{unended}
use Rattle.conversation.specs.Tracks.{Tracks, Fills}
use Rattle.stream.specs.declared.Reader.{Reader}
use Rattle.stream.specs.declared.State.{State}
use Rattle.stream.specs.declared.Fed.{Fed}

-- ---- a line byte by byte

-- the words that have ended are taken; the last one is open
pub record Cut : Type 0 where
  pub line : Option Line
  pub first : Bool
  pub word : List ℕ

abbrev pub uncut : Cut
uncut = record { line = Some start_of; first = true; word = [] }

abbrev pub cut_byte : Cut → ℕ → Cut
cut_byte x c =
    cond (eqb c 32) (record { line = take_of x.line x.word x.first false; first = false; word = [] })
    (record { line = x.line; first = x.first; word = x.word ++ (c ∷ []) })

abbrev pub cut_from : Cut → List ℕ → Cut
cut_from x [] = x
cut_from x (c ∷ s) = cut_from (cut_byte x c) s

abbrev pub some : List ℕ → Bool
some [] = false
some (c ∷ s) = true

-- these bytes of the line are read; of the open word the first 32 are kept
pub record Reads (r : Reader) (s : List ℕ) : Type 0 where
  pub line : r.line ≡ (cut_from uncut s).line
  pub first : r.first ≡ (cut_from uncut s).first
  pub begun : r.begun ≡ some s
  pub word : r.word.items ≡ take 32 (cut_from uncut s).word

-- the reader whose line has the word that is read, the last or one with a blank behind it
abbrev pub taken_of : Reader → Bool → Reader
taken_of r last = record { line = take_of r.line r.word.items r.first last; word = r.word; first = r.first; begun = r.begun }

-- ---- the first line of some bytes

-- the bytes before the first line feed, whether there is one, and what follows it
abbrev pub line_in : List ℕ → List ℕ
line_in [] = []
line_in (c ∷ s) = cond (eqb c 10) [] (c ∷ line_in s)

abbrev pub ends_in : List ℕ → Bool
ends_in [] = false
ends_in (c ∷ s) = cond (eqb c 10) true (ends_in s)

abbrev pub rest_in : List ℕ → List ℕ
rest_in [] = []
rest_in (c ∷ s) = cond (eqb c 10) s (rest_in s)

-- the place behind the line feed, or the end
abbrev pub next_in : List ℕ → Option ℕ → ℕ
next_in bytes None = length bytes
next_in bytes (Some i) = i

pub record Scans (r : Reader) (bytes : List ℕ) (at : ℕ) (q : Reader) (next : Option ℕ) : Type 0 where
  pub reads : (s : List ℕ) → Reads r s → Reads q (s ++ line_in (drop at bytes))
  pub ends : is_some next ≡ ends_in (drop at bytes)
  pub rest : drop (next_in bytes next) bytes ≡ rest_in (drop at bytes)
  pub on : at < length bytes → at < next_in bytes next
  pub within : at ≤ length bytes → next_in bytes next ≤ length bytes

-- ---- what is left to write

-- after these bytes of a line
abbrev pub output_from : Conversation → List ℕ → List ℕ → Text
output_from t s [] = unended t s
output_from t s (c ∷ b) = cond (eqb c 10) (text_of (answer_to (next_line t) (form_of s)) ++ output_from (answer_to (next_line t) (form_of s)).0 [] b)
    (output_from t (s ++ (c ∷ [])) b)

pub record Holds (h : State) (t : Conversation) (s : List ℕ) : Type 0 where
  pub conversation : Tracks h.conversation t
  pub reader : Reads h.reader s

-- some bytes are taken: what is left to write is what is written now and what is left then, whatever comes after these bytes
pub record Goes (bytes : List ℕ) (at : ℕ) (out after : Text) (h : State) (r : Fed) (t : Conversation) (s : List ℕ) : Type 0 where
  pub conversation : Conversation
  pub line : List ℕ
  pub text : Text
  pub holds : Holds h conversation line
  pub fills : Fills out after r.len text
  pub same : (more : List ℕ) → output_from t s (drop at bytes ++ more) ≡ text ++ output_from conversation line (drop r.at bytes ++ more)

-- The contract of `feed`. A state that `new` and `feed` did not give, whose fields no host can set, holds no conversation: of it only that the buffer keeps
-- its room, and that the bytes are gone on with, is promised.
pub record Feeds (h : State) (bytes : List ℕ) (at : ℕ) (out after : Text) (k : State) (r : Fed) : Type 0 where
  pub room : length after ≡ length out
  pub goes : (t : Conversation) (s : List ℕ) → Holds h t s → Goes bytes at out after k r t s
  pub on : at < length bytes → at < r.at
  pub within : at ≤ length bytes → r.at ≤ length bytes

-- the contract of `finish`, in the same way
pub record Finishes (h : State) (out after : Text) (r : ℕ) : Type 0 where
  pub room : length after ≡ length out
  pub goes : (t : Conversation) (s : List ℕ) → Holds h t s → Fills out after r (output_from t s [])
