-- For every input, in whatever pieces it comes, the program's bytes are the definition's. Assumes nothing.
use Prim.Native.Nat.{ℕ}
use mathlib.Core.Path.{◌≡◌, refl, sym, ap, ◌∙◌}
use mathlib.Core.List.{List, [], ◌∷◌, ◌++◌, append_assoc, append-nil}
use lib.ListN.{length, take, drop, drop_of_length-le}
use lib.Seq.{take_at}
use Rattle.report_text.specs.Writing.{Text}
use Rattle.conversation.specs.Conversation.{Conversation, initial}
use Rattle.stream.specs.Bytes.{output_from, Holds}
use Rattle.conversation.specs.Tracks.{Fills}
use Rattle.stream.specs.Program.{FeedCall, PieceFed, state_after, written, Piece, InputFed, last_state, input, all_written, Output}
use Rattle.stream.specs.declared.State.{State}
use Rattle.stream.proofs.Bytes.{whole_output}

-- what a call left in the buffer
taken : {out after : Text} {n : ℕ} {text : Text} → Fills out after n text → take n after ≡ text
taken {out} {after} {n} {text} f =
    ap (λ (m : ℕ). take m after) f.counts ∙ ap (take (length text)) f.stands ∙ take_at text (drop (length text) out) (length text) refl

-- where the state after some bytes stands, and what was written for them
record Left (h : State) (t : Conversation) (s bytes text : List ℕ) : Type 0 where
  conversation : Conversation
  line : List ℕ
  holds : Holds h conversation line
  same : (more : List ℕ) → output_from t s (bytes ++ more) ≡ text ++ output_from conversation line more

one_piece : (h : State) (t : Conversation) (s bytes : List ℕ) (at : ℕ) (xs : List FeedCall) → Holds h t s → PieceFed h bytes at xs
    → Left (state_after h xs) t s (drop at bytes) (written xs)
one_piece h t s bytes at [] k m = record {
  conversation = t;
  line = s;
  holds = k;
  same = λ more. ap (λ (b : List ℕ). output_from t s (b ++ more)) (drop_of_length-le bytes m);
}
one_piece h t s bytes at (x ∷ xs) k m =
    let g = m.0.goes t s k in
    let r = one_piece x.state g.conversation g.line bytes x.fed.at xs g.holds m.1 in
    let w : take x.fed.len x.after ≡ g.text = taken g.fills in
    record {
      conversation = r.conversation;
      line = r.line;
      holds = r.holds;
      same = λ more.
          g.same more
          ∙ ap (λ (b : Text). g.text ++ b) (r.same more)
          ∙ sym (append_assoc g.text (written xs) (output_from r.conversation r.line more))
          ∙ ap (λ (b : Text). (b ++ written xs) ++ output_from r.conversation r.line more) (sym w);
    }

all_pieces : (h : State) (t : Conversation) (s : List ℕ) (ps : List Piece) → Holds h t s → InputFed h ps → Left (last_state h ps) t s (input ps) (all_written ps)
all_pieces h t s [] k m = record { conversation = t; line = s; holds = k; same = λ more. refl }
all_pieces h t s (p ∷ ps) k m =
    let a = one_piece h t s p.bytes 0 p.calls k m.0 in
    let r = all_pieces (state_after h p.calls) a.conversation a.line ps a.holds m.1 in
    record {
      conversation = r.conversation;
      line = r.line;
      holds = r.holds;
      same = λ more.
          ap (output_from t s) (append_assoc p.bytes (input ps) more) ∙ a.same (input ps ++ more) ∙ ap (λ (b : Text). written p.calls ++ b) (r.same more)
          ∙ sym (append_assoc (written p.calls) (all_written ps) (output_from r.conversation r.line more));
    }

pub output : Output
output table h k ps m out after n f =
    let r = all_pieces h (initial table) [] ps k m in
    ap (λ (b : Text). all_written ps ++ b) (taken (f.goes r.conversation r.line r.holds))
    ∙ sym (r.same [])
    ∙ ap (output_from (initial table) []) (append-nil (input ps))
    ∙ whole_output table (input ps)
