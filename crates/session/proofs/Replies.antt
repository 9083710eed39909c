-- A reply: declined, or from the body that it is laid in to where the run goes on. Assumes nothing.
use Rattle.std.proofs.Common.{◌≡◌, refl, sym, ap, ◌∙◌, subst, Bool, true, false, List, length, Option, None, Some, cond, eqb}
use Rattle.std.proofs.Common.{eqb-true}
use Rattle.definition.specs.Lists.{first_at}
use Rattle.definition.specs.Run.{ask, Entry, entries, is_missing}
use Rattle.definition.specs.Session.{asking, Said, says_of, wants, Declines, Replied}
use Rattle.definition.specs.Refusals.{number_of}
use Rattle.definition.specs.declared.Distances.{Distances}
use Rattle.definition.specs.declared.RefusalCode.{RefusalCode}
use Rattle.definition.specs.declared.RefusalCode.TheVariants.{NoQuestionOpen, WrongEntryCount}
use Rattle.definition.proofs.Calls.{reply_closed, reply_wrong, reply_taken}
use Rattle.lists.specs.Lists.{HasWanted}
use Rattle.stencil.specs.Stencil.{all_rows}
use Rattle.stencil.specs.declared.StencilRows.{StencilRows}
use Rattle.phases.specs.Phases.{plan_of, Takes}
use Rattle.phases.specs.declared.Next.{Next}
use Rattle.phases.specs.declared.Plan.{Plan}
use Rattle.phases.proofs.Taken.{Open, continue_at, taken}
use Rattle.run_body.specs.Meaning.{held_of, sizes_of, laid_by}
use Rattle.run_body.proofs.Laid.{laid_in, evaluation_at, sum_at, Full, wants_all, laid_at}
use Rattle.run_body.specs.Meaning.{wanted_by}
use Rattle.session.specs.Meaning.{state, seen, counted_by, declined_by}
use Rattle.session.specs.declared.Session.{Session}
use Rattle.session.proofs.Laws.{state_within, asks_in, closed, open_within, open_in, wants_by, count_is}

-- ---- the answers

module _ (s : Session) (es : List Entry) where
  pub replied_declined : (said : Said) (r : Session) → asks_in s ≡ None → Declines seen said r s 8 → Replied seen s es said r
  replied_declined said r n d = reply_closed seen s said r es (state s) refl (closed s n) d

  module _ (list : Distances) (o : asks_in s ≡ Some list) where
    q : Open (held_of s.body) s.phase list
    q = open_in s list o

    is_open : state s ≡ asking None (ask q.point q.which (continue_at (held_of s.body) s.phase))
    is_open = state_within s (open_within s list o).0 ∙ q.is

    wants_is : wants (sizes_of s.body) q.which ≡ wanted_by list s.body.shots.n s.body.wanted.n
    wants_is = wants_by s.body q.which ∙ ap (λ (l : Distances). wanted_by l s.body.shots.n s.body.wanted.n) q.about

    pub replied_wrong : (said : Said) (r : Session) → eqb (length es) (wanted_by list s.body.shots.n s.body.wanted.n) ≡ false → Declines seen said r s 9
        → Replied seen s es said r
    replied_wrong said r n d = reply_wrong seen s said r es None q.point q.which (continue_at (held_of s.body) s.phase) is_open (rw wants_is n) d

    abbrev plan : Plan
    plan = plan_of s.phase s.body.entered

    pub replied_taken : (t : StencilRows 64) (requested : Bool) (next : Next) → eqb (length es) (wanted_by list s.body.shots.n s.body.wanted.n) ≡ true
        → Full s.body.rows → HasWanted s.body.wanted requested
        → all_rows t ≡ laid_by plan.lays s.body.progress.point es (all_rows s.body.rows)
        → Takes s.phase s.body.progress (evaluation_at s.body plan t) (first_at is_missing es) (sum_at s.body plan es) t.gap requested s.body.entered next
        → Replied seen s es (says_of next.step)
        (record {
          body = record (laid_in s.body plan es t) { progress = next.progress };
          phase = next.phase;
          asked = counted_by (says_of next.step) s.asked;
        })
    replied_taken t requested next n l has is v =
        let w = open_within s list o in
        let m = eqb-true _ _ n in
        let r : Session = record {
          body = record (laid_in s.body plan es t) { progress = next.progress };
          phase = next.phase;
          asked = counted_by (says_of next.step) s.asked;
        } in
        let led = taken (held_of s.body) es _ _ _ _ _ _ _ _ _ s.phase next
        (laid_at s.body es t requested has w.0 l s.phase list w.1 (m ∙ ap (wants_all s.body) (sym w.1)) is) v in
        reply_taken seen s (says_of next.step) r es None q.point q.which (continue_at (held_of s.body) s.phase) is_open (rw wants_is n) (record {
          leads = state_within r w.0 ∙ led.leads;
          says = led.says;
          counts = count_is (says_of next.step) s.asked (continue_at (held_of s.body) s.phase (entries es)) led.says;
          sized = refl;
        })

  -- ---- by whether it is declined

  abbrev pub why : Option Distances → Option RefusalCode
  why o = declined_by o (length es) s.body.shots.n s.body.wanted.n

  pub replied_refused : (code : RefusalCode) (said : Said) (r : Session) → why (asks_in s) ≡ Some code → Declines seen said r s (number_of code)
      → Replied seen s es said r
  replied_refused code said r e d = by (asks_in s) refl e
    where
      with_code : (c : RefusalCode) → Some c ≡ Some code → Declines seen said r s (number_of c)
      with_code c f = let g : c ≡ code = cc in rw g d

      by : (o : Option Distances) → asks_in s ≡ o → why o ≡ Some code → Replied seen s es said r
      by None a f = replied_declined said r a (with_code NoQuestionOpen f)
      by (Some list) a f = counted (eqb (length es) (wanted_by list s.body.shots.n s.body.wanted.n)) refl
        where
          counted : (b : Bool) → eqb (length es) (wanted_by list s.body.shots.n s.body.wanted.n) ≡ b → Replied seen s es said r
          counted true h = absurd (let g = rw h at f in cc)
          counted false h = replied_wrong list a said r h (with_code WrongEntryCount (rw h at f))

  pub replied_on : (t : StencilRows 64) (requested : Bool) (next : Next) → why (asks_in s) ≡ None → Full s.body.rows → HasWanted s.body.wanted requested
      → all_rows t ≡ laid_by (plan_of s.phase s.body.entered).lays s.body.progress.point es (all_rows s.body.rows)
      → Takes s.phase s.body.progress (evaluation_at s.body (plan_of s.phase s.body.entered) t) (first_at is_missing es)
      (sum_at s.body (plan_of s.phase s.body.entered) es) t.gap requested s.body.entered next
      → Replied seen s es (says_of next.step)
      (record {
        body = record (laid_in s.body (plan_of s.phase s.body.entered) es t) { progress = next.progress };
        phase = next.phase;
        asked = counted_by (says_of next.step) s.asked;
      })
  replied_on t requested next e l has is v = by (asks_in s) refl e
    where
      by : (o : Option Distances) → asks_in s ≡ o → why o ≡ None
          → Replied seen s es (says_of next.step)
          (record {
            body = record (laid_in s.body (plan_of s.phase s.body.entered) es t) { progress = next.progress };
            phase = next.phase;
            asked = counted_by (says_of next.step) s.asked;
          })
      by None a f = absurd (cc)
      by (Some list) a f = counted (eqb (length es) (wanted_by list s.body.shots.n s.body.wanted.n)) refl
        where
          counted : (b : Bool) → eqb (length es) (wanted_by list s.body.shots.n s.body.wanted.n) ≡ b
              → Replied seen s es (says_of next.step)
              (record {
                body = record (laid_in s.body (plan_of s.phase s.body.entered) es t) { progress = next.progress };
                phase = next.phase;
                asked = counted_by (says_of next.step) s.asked;
              })
          counted true h = replied_taken list a t requested next h l has is v
          counted false h = absurd (let g = rw h at f in cc)
