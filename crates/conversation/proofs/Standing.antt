-- The session of the first 65 stands for the opening of all: what it says is the definition's. Assumes nothing.
use Rattle.std.specs.Prelude.{None, option_map}
use Prim.Native.Nat.{ℕ}
use mathlib.Core.Path.{◌≡◌, refl, sym, ap, ◌∙◌, subst}
use mathlib.Core.Logic.{◌⊎◌, inl, inr}
use Rattle.definition.specs.Request.{Opening}
use Rattle.definition.specs.Run.{Run, refuse}
use Rattle.definition.specs.Laws.{put}
use Rattle.definition.specs.Summary.{Finished, report_of}
use Rattle.definition.specs.Whole.{whole}
use Rattle.definition.specs.Session.{finished_in, Said, head, sizes_for, says_of, Opened}
use Rattle.report.specs.Reading.{report_in}
use Rattle.editing.specs.Meaning.{state, seen}
use Rattle.editing.specs.declared.Session.{Session}
use Rattle.editing.specs.Meaning.{Answer}
use Rattle.demands.specs.Calls.{Call, reply, refuse_point, change, At, first, rest_at, kept_by, finished_by, finished_at, taking_reply, taking_refusal}
use Rattle.demands.specs.Calls.{taking_edit, unless_declined, after_taken, due, after_call, due_to}
use Rattle.demands.specs.Demands.{Meets, count}
use Rattle.demands.specs.Standing.{Inv}
use Rattle.demands.proofs.Demands.{Good, step, begins, finished_after}
use Rattle.requests.specs.Kept.{kept}
use Rattle.conversation.specs.Tracks.{Refuses, Stands}
use Rattle.requests.proofs.Openings.{Both, kept_all, kept_whole}

-- ---- a call

-- what an answer comes to: where it stands, and what it says
pub record Comes (a : Answer) (o : Opening) (t : At) (due : Said) : Type 0 where
  pub stands : Stands a.session o t
  pub says : says_of a.step ≡ due

-- on a refused opening every call is declined
record Idle (o : Opening) (x : Call) (n : ℕ) : Type 0 where
  stays : after_call o first x ≡ first
  due : due_to o first x ≡ Said.refusal n 0

abbrev idle_by : Call → ℕ
idle_by (reply es) = 8
idle_by refuse_point = 8
idle_by (change e) = 14

idle : (o : Opening) (n i : ℕ) → whole o ≡ refuse n i → (x : Call) → Idle o x (idle_by x)
idle o n i e (reply es) = record {
  stays = ap (λ (u : Run Finished). unless_declined (taking_reply (sizes_for o) u es) first (after_taken o first (reply es))) e;
  due = ap (λ (u : Run Finished). due (taking_reply (sizes_for o) u es) (rest_at o (after_call o first (reply es)))) e;
}
idle o n i e refuse_point = record {
  stays = ap (λ (u : Run Finished). unless_declined (taking_refusal u) first (after_taken o first refuse_point)) e;
  due = ap (λ (u : Run Finished). due (taking_refusal u) (rest_at o (after_call o first refuse_point))) e;
}
idle o n i e (change d) = record {
  stays = ap (λ (u : Run Finished). unless_declined (taking_edit (finished_by None u) d) first (after_taken o first (change d))) e;
  due = ap (λ (u : Run Finished). due (taking_edit (finished_by None u) d) (rest_at o (after_call o first (change d)))) e;
}

pub called : (s : Session) (o : Opening) (t : At) → Stands s o t → (x : Call) (a : Answer) → Meets x s a → Comes a o (after_call o t x) (due_to o t x)
called s o t h x a m = by h.all
  where
    g : Good (kept o) t s (record { call = x; answer = a })
    g = step (kept o) t s h.inv x a m

    P : Opening → Type 0
    P p = Inv (kept o) (after_call p t x) a.session × (says_of a.step ≡ due_to p t x)

    by : (kept o ≡ o) ⊎ Refuses o t → Comes a o (after_call o t x) (due_to o t x)
    by (inl e) =
        let p : P o = subst P e (g.inv, g.defined.says) in
        record { stands = record { inv = p.0; all = inl e }; says = p.1 }
    by (inr r) =
        let e : whole (kept o) ≡ refuse r.number r.position = kept_whole o ∙ r.over in
        let ours = idle o r.number r.position r.over x in
        let theirs = idle (kept o) r.number r.position e x in
        let ends : after_call o t x ≡ first = ap (λ (v : At). after_call o v x) r.still ∙ ours.stays in
        let same : after_call (kept o) t x ≡ after_call o t x = ap (λ (v : At). after_call (kept o) v x) r.still ∙ theirs.stays ∙ sym ends in
        let inv : Inv (kept o) (after_call o t x) a.session = subst (λ (v : At). Inv (kept o) v a.session) same g.inv in
        record {
          stands = record { inv = inv; all = inr (record { number = r.number; position = r.position; over = r.over; still = ends }) };
          says = g.defined.says ∙ ap (λ (v : At). due_to (kept o) v x) r.still ∙ theirs.due ∙ sym (ap (λ (v : At). due_to o v x) r.still ∙ ours.due);
        }

-- the opening
pub opened : (o : Opening) (a : Answer) → Opened seen (kept o) (says_of a.step) a.session → Comes a o first (head (whole o))
opened o a m =
    let inv = begins (kept o) a m in
    record {
      stands = record { inv = inv; all = by (kept_all o) };
      says = m.is.says ∙ ap head (kept_whole o);
    }
  where
    by : (kept o ≡ o) ⊎ Both (whole o) (whole (kept o)) → (kept o ≡ o) ⊎ Refuses o first
    by (inl e) = inl e
    by (inr h) = inr (record { number = h.number; position = h.position; over = h.one; still = refl })

pub counts : (s : Session) (o : Opening) (t : At) → Stands s o t → count s ≡ put (whole o) t.run
counts s o t h = h.inv.counts ∙ ap (λ (u : Run Finished). put u t.run) (kept_whole o)

-- the finished run that stands is the definition's
pub finished : (s : Session) (o : Opening) (t : At) → Stands s o t → finished_in (state s) ≡ finished_at o t
finished s o t h = by h.all
  where
    ours : finished_in (state s) ≡ finished_at (kept o) t
    ours = ap finished_in h.inv.leads ∙ finished_after (kept_by t.last) (rest_at (kept o) t)

    by : (kept o ≡ o) ⊎ Refuses o t → finished_in (state s) ≡ finished_at o t
    by (inl e) = ours ∙ ap (λ (p : Opening). finished_at p t) e
    by (inr r) =
        ours ∙ ap (λ (v : At). finished_at (kept o) v) r.still
        ∙ ap (λ (u : Run Finished). finished_by None u) (kept_whole o)
        ∙ sym (ap (λ (v : At). finished_at o v) r.still)

-- and the report that the session shows
pub reported : (s : Session) (o : Opening) (t : At) → Stands s o t → report_in (state s) ≡ option_map report_of (finished_at o t)
reported s o t h = ap (option_map report_of) (finished s o t h)
