-- A refusal of the point: declined, the run's end, or the report without a baseline. Assumes nothing.
use Rattle.std.proofs.Common.{◌≡◌, refl, ◌∙◌, Option, None, Some}
use Rattle.definition.specs.Session.{Said, report, refusal, Declines, goes_on, PointRefused}
use Rattle.definition.proofs.Calls.{refusal_closed, refusal_taken_lem}
use Rattle.definition.specs.declared.Distances.{Distances}
use Rattle.phases.specs.Phases.{plan_of}
use Rattle.phases.specs.declared.Lays.{Lays}
use Rattle.phases.specs.declared.Lays.TheVariants.{Baseline as Drops}
use Rattle.phases.specs.declared.Phase.TheVariants.{Over, Ended}
use Rattle.phases.proofs.Taken.{continue_at, refused_by, refusal_ends}
use Rattle.run_body.specs.Meaning.{held_of}
use Rattle.session.specs.Meaning.{state, seen}
use Rattle.session.specs.declared.Session.{Session}
use Rattle.session.proofs.Laws.{state_within, state_over, closed, asks_in, open_within, open_in}

module _ (s : Session) where
  pub refuse_declined : (said : Said) (r : Session) → asks_in s ≡ None → Declines seen said r s 8 → PointRefused seen s said r
  refuse_declined said r n d = refusal_closed seen s said r (state s) refl (closed s n) d

  module _ (list : Distances) (o : asks_in s ≡ Some list) where
    refused_as : (lays : Option Lays) (said : Said) (r : Session) → (plan_of s.phase s.body.entered).lays ≡ lays
        → goes_on seen s None (refused_by lays (held_of s.body)) said r → PointRefused seen s said r
    refused_as lays said r e d =
        let q = open_in s list o in
        refusal_taken_lem seen s said r None q.point q.which (continue_at (held_of s.body) s.phase)
        (state_within s (open_within s list o).0 ∙ q.is)
        (rw (refusal_ends (held_of s.body) s.phase s.body.entered list (open_within s list o).1, e) d)

    pub refuse_baseline : (plan_of s.phase s.body.entered).lays ≡ Some Drops
        → PointRefused seen s report (record { body = record s.body { baseline = None }; phase = Ended; asked = s.asked })
    refuse_baseline e = refused_as (Some Drops) report _ e (record {
      leads = state_within (record { body = record s.body { baseline = None }; phase = Ended; asked = s.asked }) (open_within s list o).0;
      says = refl;
      counts = refl;
      sized = refl;
    })

    pub refuse_ends : ((plan_of s.phase s.body.entered).lays ≡ Some Drops → ⊥)
        → PointRefused seen s (refusal 10 0) (record { body = s.body; phase = Over; asked = s.asked })
    refuse_ends n = by (plan_of s.phase s.body.entered).lays refl
      where
        by : (lays : Option Lays) → (plan_of s.phase s.body.entered).lays ≡ lays
            → PointRefused seen s (refusal 10 0) (record { body = s.body; phase = Over; asked = s.asked })
        by (Some Drops) e = absurd (n e)
        by lays e = refused_as lays (refusal 10 0) _ e (record { leads = state_over s.body s.asked; says = refl; counts = refl; sized = refl })
