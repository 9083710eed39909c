-- An opening that is refused, and one that puts its first question: what each stands for. Assumes nothing.
use Rattle.std.proofs.Common.{◌≡◌, refl, sym, ap, ◌∙◌, subst, true, List, length, None, le-leb}
use Rattle.std.proofs.lemmas.Bool.{and_from}
use Rattle.std.specs.Prelude.{leb, ◌&&◌}
use Rattle.definition.specs.Request.{Requested, Measured, Opening}
use Rattle.definition.specs.Refusals.{number_of}
use Rattle.definition.specs.Run.{Run, done, refuse, bind}
use Rattle.definition.specs.Likelihood as likelihood
use Rattle.definition.specs.Fit as fit
use Rattle.definition.specs.Whole.{checked_measured, checked_requested}
use Rattle.definition.specs.Whole as whole
use Rattle.definition.specs.Session.{after, head, says_of, question, counted, more_of, Sizes, sizes_for, Opened}
use Rattle.definition.specs.declared.Distances.TheVariants.{Shots}
use Rattle.definition.specs.declared.Refusal.{Refusal}
use Rattle.definition.specs.declared.Step.TheVariants.{Question, Refused}
use Rattle.fitting.proofs.Laws.{bind_assoc}
use Rattle.lists.specs.Lists.{observations_at, requested_in}
use Rattle.lists.proofs.Arrays.{shots_measured, wanted_requested}
use Rattle.opening.specs.Opening.{checked_of}
use Rattle.opening.proofs.Laws.{measured_count, requested_count, checked_parts}
use Rattle.phases.specs.declared.Phase.TheVariants.{Over, Start}
use Rattle.run_body.specs.Meaning.{measured_of, within_of, sizes_of, Prepared}
use Rattle.session.specs.Meaning.{seen}
use Rattle.run_body.specs.declared.Body.{Body}
use Rattle.session.proofs.Laws.{state_within, state_over}

-- the first question of a run, and its count
first_head : (m : Measured) (ds : List Requested) → question m.entered.mv m.entered.bc Shots ≡ head (whole.run m ds)
unfolding whole.run fit.fit_map likelihood.objective
first_head m ds = refl

first_count : (m : Measured) (ds : List Requested) → 1 ≡ counted None 0 (whole.run m ds)
unfolding whole.run fit.fit_map likelihood.objective more_of
first_count m ds = refl

module _ (o : Opening) (b : Body) (p : Prepared o b) where
  sized : sizes_of b ≡ sizes_for o
  sized = λ i. record { of_shots = (p.shots i).n; of_distances = (p.wanted i).n }

  -- the checks, and then the run
  checked_run : bind (checked_of o) (λ u. whole.run o.measured o.requested) ≡ whole.whole o
  unfolding whole.whole
  checked_run = bind_assoc (checked_measured o.measured) (λ u. checked_requested o.requested) (λ u. whole.run o.measured o.requested)

  by_checks : (t : Run (Unit {0})) → t ≡ checked_of o → bind t (λ u. whole.run o.measured o.requested) ≡ whole.whole o
  by_checks t e = ap (λ (x : Run (Unit {0})). bind x (λ u. whole.run o.measured o.requested)) e ∙ checked_run

  -- the opening is refused
  pub opened_refused : (r : Refusal) → refuse (number_of r.code) r.position ≡ checked_of o
      → Opened seen o (says_of (Refused r)) (record { body = b; phase = Over; asked = 0 })
  opened_refused r e =
      let same = by_checks (refuse (number_of r.code) r.position) e in
      record { is = record { leads = state_over b 0 ∙ ap (after None) same; says = ap head same; counts = ap (counted None 0) same; sized = sized } }

  -- nothing is refused
  pub opened_asks : done tt ≡ checked_of o
      → Opened seen o (says_of (Question o.measured.entered.mv o.measured.entered.bc Shots)) (record { body = b; phase = Start; asked = 1 })
  opened_asks e =
      let few = checked_parts o (sym e) in
      let shots = measured_count o.measured few.0 in
      let wanted = requested_count o.requested few.1 in
      let within : within_of b ≡ true =
      subst (λ (z : Sizes). (leb z.of_shots 64 && leb z.of_distances 64) ≡ true) (sym sized)
      (and_from _ _ (le-leb (length o.measured.observations) 64 shots) (le-leb (length o.requested) 64 wanted)) in
      let measured : measured_of b ≡ o.measured =
      λ i. record { entered = p.point i; observations = (ap observations_at p.shots ∙ shots_measured o.measured.observations shots) i; priors = p.prior i } in
      let requested = ap requested_in p.wanted ∙ wanted_requested o.requested wanted in
      let same : whole.run (measured_of b) (requested_in b.wanted) ≡ whole.whole o = (λ i. whole.run (measured i) (requested i)) ∙ by_checks (done tt) e in
      record {
        is = record {
          leads = state_within (record { body = b; phase = Start; asked = 1 }) within ∙ ap (after None) same;
          says = first_head o.measured o.requested ∙ ap head (by_checks (done tt) e);
          counts = first_count o.measured o.requested ∙ ap (counted None 0) (by_checks (done tt) e);
          sized = sized;
        };
      }
