-- Of a reply the first 65 entries serve: a question has at most 64, so that more than 65 are declined as 65 are. Assumes nothing.
use Rattle.std.specs.Prelude.{Option, None, Some}
use Prim.Native.Nat.{ℕ, ◌≤◌, ◌<◌}
use mathlib.Core.Path.{◌≡◌, refl, sym, ap, ◌∙◌, subst}
use mathlib.Core.Bool.{Bool, true, false, cond}
use mathlib.Core.List.{List, [], ◌∷◌}
use native.Mathlib.Omega.{arith}
use borrow.Author.Tests.{leb-true, leb-false, ne_eqb}
use lib.Dec.{leb, eqb}
use lib.ListN.{length, take, length-take}
use lib.Seq.{take_all}
use Rattle.definition.specs.Request.{Opening}
use Rattle.definition.specs.Run.{Run, done, refuse, ask, Reply, Which, shots, distances, new}
use Rattle.definition.specs.Summary.{Finished}
use Rattle.definition.specs.Whole.{whole}
use Rattle.definition.specs.Laws.{Asks}
use Rattle.definition.specs.declared.Point.{Point}
use Rattle.definition.proofs.Questions.{asks_now}
use Rattle.definition.specs.Session.{sizes_for, wants}
use Rattle.editing.specs.declared.Session.{Session}
use Rattle.demands.specs.Calls.{Call, reply, resume, Editing, At, rest_by, rest_at, Taking, declines, takes, taking_reply, stance, after_taken, unless_declined}
use Rattle.demands.specs.Calls.{after_call}
use Rattle.demands.specs.Calls.{due, due_to}
use Rattle.demands.specs.Standing.{IsNew, News}
use Rattle.definition.specs.Run.{Entry}
use Rattle.lines.specs.Lines.{Form}
use Rattle.lines.specs.Lines as form
use Rattle.lines.specs.Reading.{short}
use Rattle.requests.specs.Kept.{kept}
use Rattle.requests.proofs.Openings.{many_shots, many_distances}
use Rattle.conversation.specs.Conversation.{Conversation, says, calls, answer_to}
use Rattle.conversation.specs.Tracks.{Stands}

-- ---- a question has at most 64 distances

resume_refused : (n i : ℕ) (rs : List Reply) → resume (refuse n i) rs ≡ refuse n i
resume_refused n i [] = refl
resume_refused n i (r ∷ rs) = refl

not_asked : {n i : ℕ} {p : Point} {w : Which} {k : Reply → Run Finished} → refuse n i ≡ ask p w k → ⊥
not_asked e = let z : ◌≡◌ {A = ℕ} 0 1 = cc in omega arith

module _ (o : Opening) (rs : List Reply) (p : Point) (w : Which) (k : Reply → Run Finished) (e : resume (whole o) rs ≡ ask p w k) where
  never : (n i : ℕ) → whole o ≡ refuse n i → ⊥
  never n i f = not_asked (sym (resume_refused n i rs) ∙ sym (ap (λ (t : Run Finished). resume t rs) f) ∙ e)

  few_shots : length o.measured.observations ≤ 64
  few_shots = by (leb (length o.measured.observations) 64) refl
    where
      by : (b : Bool) → leb (length o.measured.observations) 64 ≡ b → length o.measured.observations ≤ 64
      by true q = leb-true (length o.measured.observations) 64 q
      by false q = absurd (never _ _ (many_shots o q).one)

  few_distances : length o.requested ≤ 64
  few_distances = by (leb (length o.measured.observations) 64) refl (leb (length o.requested) 64) refl
    where
      by : (a : Bool) → leb (length o.measured.observations) 64 ≡ a → (b : Bool) → leb (length o.requested) 64 ≡ b → length o.requested ≤ 64
      by false q b f = absurd (never _ _ (many_shots o q).one)
      by true q true f = leb-true (length o.requested) 64 f
      by true q false f = absurd (never _ _ (many_distances o q f).one)

  wants_few : wants (sizes_for o) w ≤ 64
  wants_few = by w
    where
      by : (w : Which) → wants (sizes_for o) w ≤ 64
      by shots = few_shots
      by distances = few_distances
      by (new d) = omega arith

of_edit : (o : Opening) (p : Point) (w : Which) → IsNew p w → wants (sizes_for o) w ≤ 64
of_edit o p shots h = absurd h
of_edit o p distances h = absurd h
of_edit o p (new d) h = omega arith

asks_few : (s : Session) (o : Opening) (t : At) → Stands s o t → (p : Point) (w : Which) (k : Reply → Run Finished) → rest_at o t ≡ ask p w k
    → wants (sizes_for o) w ≤ 64
asks_few s o t h p w k e = by t.last h.inv.news e
  where
    by : (l : Option Editing) → News l (rest_by (kept o) t.run l) → rest_by o t.run l ≡ ask p w k → wants (sizes_for o) w ≤ 64
    by None n f = wants_few o t.run p w k f
    by (Some x) n f = of_edit o p w (asks_now (subst (Asks IsNew 5) f n))

-- ---- more than 65 entries

wrong_length : (n : ℕ) (es : List Entry) → n < length es → eqb (length es) n ≡ false
wrong_length n es h = ne_eqb (length es) n (λ q. omega (arith, q, h))

module _ (o : Opening) (t : At) where
  same_declined : (x y : Call) (n : ℕ) → stance o t x ≡ declines n → stance o t y ≡ declines n
      → (after_call o t x ≡ after_call o t y) × (due_to o t x ≡ due_to o t y)
  same_declined x y n e f = (
    ap (λ (z : Taking). unless_declined z t (after_taken o t x)) e ∙ sym (ap (λ (z : Taking). unless_declined z t (after_taken o t y)) f),
    ap (λ (z : Taking). due z (rest_at o (after_call o t x))) e ∙ sym (ap (λ (z : Taking). due z (rest_at o (after_call o t y))) f),
  )

  closed : {u : Run Finished} (es : List Entry) → rest_at o t ≡ u → taking_reply (sizes_for o) u es ≡ declines 8
      → stance o t (reply es) ≡ declines 8
  closed es e q = ap (λ (v : Run Finished). taking_reply (sizes_for o) v es) e ∙ q

  declined_long : (u : Run Finished) → rest_at o t ≡ u → ((p : Point) (w : Which) (k : Reply → Run Finished) → u ≡ ask p w k → wants (sizes_for o) w ≤ 64)
      → (es : List Entry) → 65 < length es
      → (after_call o t (reply (take 65 es)) ≡ after_call o t (reply es)) × (due_to o t (reply (take 65 es)) ≡ due_to o t (reply es))
  declined_long (done c) e h es l =
      same_declined (reply (take 65 es)) (reply es) 8 (closed (take 65 es) e refl) (closed es e refl)
  declined_long (refuse n i) e h es l =
      same_declined (reply (take 65 es)) (reply es) 8 (closed (take 65 es) e refl) (closed es e refl)
  declined_long (ask p w k) e h es l =
      same_declined (reply (take 65 es)) (reply es) 9 (no (take 65 es) (omega (arith, length-take 65 es))) (no es (omega arith))
    where
      no : (fs : List Entry) → 64 < length fs → stance o t (reply fs) ≡ declines 9
      no fs g =
          ap (λ (u : Run Finished). taking_reply (sizes_for o) u fs) e
          ∙ ap (λ (b : Bool). cond b takes (declines 9)) (wrong_length (wants (sizes_for o) w) fs (let f = h p w k refl in omega arith))

reply_kept : (s : Session) (u : Conversation) → Stands s u.opening u.at → (es : List Entry) → calls u (reply (take 65 es)) ≡ calls u (reply es)
reply_kept s u h es = by (leb (length es) 65) refl
  where
    by : (b : Bool) → leb (length es) 65 ≡ b → calls u (reply (take 65 es)) ≡ calls u (reply es)
    by true e = ap (λ (fs : List Entry). calls u (reply fs)) (take_all 65 es (leb-true (length es) 65 e))
    by false e =
        let r = declined_long u.opening u.at (rest_at u.opening u.at) refl (asks_few s u.opening u.at h) es (leb-false (length es) 65 e) in
        λ i. (record { lines = u.lines; section = u.section; request = u.request; opening = u.opening; at = r.0 i; table = u.table }, says (r.1 i))

-- a line as it is kept gets the answer of the whole line
pub answer_short : (s : Session) (u : Conversation) → Stands s u.opening u.at → (f : Form) → answer_to u (short f) ≡ answer_to u f
unfolding answer_to
answer_short s u k form.malformed = refl
answer_short s u k (form.entered mv bc) = refl
answer_short s u k (form.shot range drop sigma) = refl
answer_short s u k (form.prior_speed mean sigma) = refl
answer_short s u k (form.prior_coefficient mean sigma) = refl
answer_short s u k (form.distance range sigma) = refl
answer_short s u k form.open_plain = refl
answer_short s u k (form.drops es) = reply_kept s u k es
answer_short s u k form.refused = refl
answer_short s u k (form.put_in place range sigma) = refl
answer_short s u k (form.take_out place) = refl
answer_short s u k (form.exchange place range sigma) = refl
answer_short s u k form.asked = refl
answer_short s u k form.page = refl
