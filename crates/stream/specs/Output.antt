-- The line protocol from the bytes of standard input to those of standard output: `output_of`. It reads beside docs/PROTOCOL.md. What a line is, is `form_of`
-- (lines), and what is answered to it `answer_to` (conversation).
use Rattle.std.specs.Prelude.{ℕ, cond, List, [], ◌∷◌, ◌++◌, eqb}
use Rattle.lines.specs.Lines.{form_of}
use Rattle.coverage.specs.Rows.{Table}
use Rattle.report_text.specs.Writing.{Text}
use Rattle.conversation.specs.Conversation.{Conversation, initial, next_line, answer_to, text_of, unended_text}

-- a byte in front of the first line, or of what follows the last line feed
abbrev pub on_first : ℕ → List (List ℕ) × List ℕ → List (List ℕ) × List ℕ
on_first c ([], rest) = ([], c ∷ rest)
on_first c (l ∷ ls, rest) = ((c ∷ l) ∷ ls, rest)

-- the lines, without their line feeds, and what follows the last of these
abbrev pub lines_of : List ℕ → List (List ℕ) × List ℕ
lines_of [] = ([], [])
lines_of (c ∷ s) = cond (eqb c 10) ([] ∷ (lines_of s).0, (lines_of s).1) (on_first c (lines_of s))

abbrev pub answers_to : Conversation → List (List ℕ) → Conversation × Text
answers_to t [] = (t, [])
answers_to t (l ∷ ls) =
    let a = answer_to (next_line t) (form_of l) in
    let b = answers_to a.0 ls in
    (b.0, text_of a ++ b.1)

-- what follows the last line feed is a line without one
abbrev pub unended : Conversation → List ℕ → Text
unended t [] = []
unended t (c ∷ l) = unended_text t

-- under a coverage table
unfoldable pub output_of : Table → List ℕ → List ℕ
output_of table s =
    let ls = lines_of s in
    let a = answers_to (initial table) ls.0 in
    a.1 ++ unended a.0 ls.1
