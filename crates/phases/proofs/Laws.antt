-- Where each step leads, over plain values. The functions' proofs cite these. Assumes nothing.
use Rattle.std.proofs.Common.{ℕ, zero, suc, ◌≡◌, refl, sym, ap, ◌∙◌, subst, Bool, true, false, List, None}
use Rattle.std.specs.Prelude.{Float, cond, eqb}
use lib.Dec.{eqb-suc-zero}
use Rattle.numeric.specs.Numeric.{finite}
use Rattle.definition.specs.Request.{Requested, Measured}
use Rattle.definition.specs.Run.{Run, done, bind, unless, require}
use Rattle.definition.specs.Likelihood as likelihood
use Rattle.definition.specs.Summary.{Finished}
use Rattle.definition.specs.Session.{after, head}
use Rattle.definition.specs.declared.Evaluation.{Evaluation as Evaluated}
use Rattle.definition.specs.declared.RefusalCode.TheVariants as Code
use Rattle.fitting.specs.Meaning.{Continuation, rest_of, Moves, AfterRows}
use Rattle.fitting.specs.declared.Progress.{Progress}
use Rattle.fitting.specs.declared.Moved.{Moved}
use Rattle.fitting.specs.declared.Stage.{Stage}
use Rattle.fitting.specs.declared.Wait.{Wait}
use Rattle.phases.specs.Phases.{stops_at, waits_at, judged_at, Leads, valued_from, Goes}
use Rattle.phases.specs.declared.Next.{Next}

-- ---- runs that are equal

pub leads_same : {t : Next} {f g : Continuation} → Leads t f → ((m : Measured) (ds : List Requested) → f m ds ≡ g m ds) → Leads t g
leads_same l e = record {
  leads = λ h. l.leads h ∙ ap (after None) (e h.measured h.requested);
  says = λ h. l.says h ∙ ap head (e h.measured h.requested);
}

-- ---- the fit waits

waits_lead : (g : Progress) (w : Wait) → Leads (waits_at g w) (λ m ds. rest_of m ds g w)
unfolding likelihood.evaluate likelihood.truing_jacobian_rows likelihood.objective
waits_lead g (Wait.Evaluation stage) = record { leads = λ h. refl; says = λ h. refl }
waits_lead g (Wait.Trial q) = record { leads = λ h. refl; says = λ h. refl }
waits_lead g (Wait.Look c) = record { leads = λ h. refl; says = λ h. refl }

pub rows_go : {stage : Stage} {g : Progress} {e : Evaluated} {moved : Moved} {t : Next} → t ≡ waits_at moved.progress moved.wait
    → AfterRows g moved stage e → Goes stage g e t
rows_go {stage} {g} {e} {moved} {t} a m = subst (Goes stage g e) (sym a) (record {
  leads = λ h rows is. w.leads h ∙ ap (after None) (m.leads h.measured h.requested rows is);
  says = λ h rows is. w.says h ∙ ap head (m.leads h.measured h.requested rows is);
})
  where
    w : Leads (waits_at moved.progress moved.wait) (λ m ds. rest_of m ds moved.progress moved.wait)
    w = waits_lead moved.progress moved.wait

-- ---- one objective

module _ (g : Progress) (sum : Float) (moved : Moved) (f : Measured → List Requested → Float → Run Finished) (is : Moves moved (λ m ds. f m ds sum)) where
  abbrev Judged : Bool → Bool → ℕ → Type 0
  Judged whole b gap =
      Leads (cond whole (cond b (waits_at moved.progress moved.wait) (stops_at g Code.ObjectiveNotFinite 0)) (stops_at g Code.ObservationMissing gap))
      (λ m ds. bind (bind (unless gap 11) (λ u. bind (require b 12 0) (λ v. done sum))) (f m ds))

  judged : (gap : ℕ) (b : Bool) → Judged (eqb gap 0) b gap
  judged zero true = leads_same (waits_lead moved.progress moved.wait) is.leads
  judged zero false = record { leads = λ h. refl; says = λ h. refl }
  judged (suc gap) b = rw eqb-suc-zero (record { leads = λ h. refl; says = λ h. refl })

  pub judged_leads : (gap : ℕ) (t : Next) → t ≡ judged_at g gap sum moved → Leads t (λ m ds. bind (valued_from gap sum) (f m ds))
  judged_leads gap t a = subst (λ (x : Next). Leads x (λ m ds. bind (valued_from gap sum) (f m ds))) (sym a) (judged gap (finite sum))
