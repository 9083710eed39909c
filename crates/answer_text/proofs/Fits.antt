-- Every answer's line fits the program's buffer: `answer_fits`. A report that stands is of a session within its 64 places, so its lists have at most 64
-- entries each.
use Rattle.std.specs.Prelude.{Option, None, Some, option_map}
use Prim.Native.Nat.{ℕ, ◌≤◌}
use mathlib.Core.Path.{◌≡◌, refl, ap, subst, subst⁻¹}
use mathlib.Core.Bool.{Bool, true, false}
use mathlib.Core.List.{List, [], ◌∷◌}
use native.Mathlib.Omega.{arith}
use lib.ListN.{length, take, length-take, length-append, length-map}
use lib.Ieee.{Float}
use Rattle.definition.specs.Likelihood.{rows_of}
use Rattle.definition.specs.Meaning.{observation_of}
use Rattle.definition.specs.Summary.{Baseline, Approximation, converged, approximation_of, diagnostics_of, result_of, band_of, report_of}
use Rattle.coverage.specs.Rows.{Table, rows_under}
use Rattle.coverage.specs.Report.{band_by, CoveredBand, CoveredReport, crosses_under, warnings_under, report_under}
use Rattle.coverage.proofs.Report.{covered_bands}
use Rattle.likelihood.proofs.Laws.{zip_length, zip3_within}
use Rattle.lists.specs.Lists.{requested_in, observations_at}
use Rattle.lists.specs.declared.Shots.{Shots}
use Rattle.lists.specs.declared.Wanted.{Wanted}
use Rattle.stencil.specs.Stencil.{rows_at}
use Rattle.stencil.specs.declared.StencilRows.{StencilRows}
use Rattle.phases.specs.Phases.{finished_of}
use Rattle.run_body.specs.Meaning.{measured_of, baseline_from, held_of, within_of}
use Rattle.session.specs.Meaning.{stands_in}
use Rattle.definition.specs.Refusals.{number_of}
use Rattle.definition.specs.declared.Step.{Step}
use Rattle.session.specs.Meaning as run
use Rattle.report_parts.specs.Parts.{results_at, bands_at}
use Rattle.run_body.specs.declared.Body.{Body}
use Rattle.session.specs.declared.Session.{Session as Running}
use Rattle.run_body.proofs.Laws.{shots_within, wanted_within}
use Rattle.finished_run.proofs.Reading.{not_standing, standing_within, is_standing}
use Rattle.editing.specs.Meaning.{state, state_by}
use Rattle.editing.specs.declared.OpenEdit.{OpenEdit}
use Rattle.editing.proofs.Laws.{unfinished}
use Rattle.covered_report.specs.Reading.{covered_in}
use Rattle.report_text.proofs.Lengths.{FewIn, few_of, few_in, Bounded, warnings_most, report_length, question_length, declined_length}
use Rattle.answer_text.specs.Answers.{said_text, answer_text, AnswerFits}

-- ---- the lists of the report

results_most : (s : Shots) (drops : List Float) → s.n ≤ 64 → length (results_at s drops) ≤ 64
results_most s drops h =
    let taken = length-take s.n s.ranges in
    let observed = zip3_within observation_of (take s.n s.ranges) (take s.n s.drops) (take s.n s.sigmas) in
    let results = zip_length result_of (observations_at s) (take s.n drops) in
    omega arith

bands_most : (a : Approximation) (w : Wanted) (t : StencilRows 64) → w.n ≤ 64 → length (bands_at a w t) ≤ 64
bands_most a w t h =
    let taken = length-take w.n w.entries in
    let bands = zip_length (band_of a) (requested_in w) (rows_of (rows_at w.n t)) in
    omega arith

some_is : {x y : Baseline} → Some x ≡ Some y → x ≡ y
some_is e = cc

nothing : {A : Type 0} {p : Option A} {q : A} → p ≡ None → p ≡ Some q → ⊥
nothing e f = let z : ◌≡◌ {A = ℕ} 0 1 = cc in omega arith

-- those of the baseline, where the drops at the entered point are there
entered_most : (b : Body) → b.shots.n ≤ 64 → (drops : Option (List Float)) (x : Baseline)
    → baseline_from (measured_of b) (option_map (take b.shots.n) drops) ≡ Some x → length x.observations ≤ 64
entered_most b h None x e = absurd (nothing refl e)
entered_most b h (Some drops) x e = subst (λ (y : Baseline). length y.observations ≤ 64) (some_is e) (results_most b.shots drops h)

module _ (t : Table) (few : length t ≤ 8) where
  bounded : (b : Body) → within_of b ≡ true → Bounded (report_under t (finished_of (held_of b)))
  unfolding report_of report_under warnings_under
  bounded b h =
      let c = finished_of (held_of b) in
      let a = approximation_of (converged c.fit.convergence) c.fit.point c.evaluation.posterior_information in
      let bands = (report_of c).bands in
      record {
        results = results_most b.shots b.predicted (shots_within b h);
        entered = λ x e. entered_most b (shots_within b h) b.baseline x e;
        bands =
            subst⁻¹ (λ (bs : List CoveredBand). length bs ≤ 64) (covered_bands t c)
            (omega (arith, length-map bands (band_by (rows_under t)), bands_most a b.wanted b.rows (wanted_within b h)));
        warnings =
            warnings_most (crosses_under t a) c.measured c.fit c.evaluation a
            (diagnostics_of (length c.measured.observations) c.fit c.evaluation a) c.requested;
        parameter_rows = few_of t few a;
        band_rows = subst⁻¹ FewIn (covered_bands t c) (few_in t few bands);
      }

  -- ---- the report that stands

  run_bounded : (s : Running) (p : CoveredReport) → covered_in t (run.state s) ≡ Some p → Bounded p
  run_bounded s p e = by (stands_in s) refl
    where
      by : (b : Bool) → stands_in s ≡ b → Bounded p
      by true f =
          let stands : covered_in t (run.state s) ≡ Some (report_under t (finished_of (held_of s.body))) = ap (covered_in t) (is_standing s f) in
          let same : report_under t (finished_of (held_of s.body)) ≡ p = cc in
          subst Bounded same (bounded s.body (standing_within s f))
      by false f = absurd (nothing (ap (option_map (report_under t)) (not_standing s f)) e)

  pub shown_bounded : (s : Running) (x : Option OpenEdit) (p : CoveredReport) → covered_in t (state_by s x) ≡ Some p → Bounded p
  shown_bounded s None p e = run_bounded s p e
  shown_bounded s (Some x) p e = absurd (nothing (ap (option_map (report_under t)) (unfinished (run.state s) x)) e)

-- ---- the answer

said_length : (w : Step) (shown : Option CoveredReport) → ((p : CoveredReport) → shown ≡ Some p → Bounded p) → length (said_text w shown) ≤ 108700
said_length (Step.Question mv bc list) shown h = let l = question_length list mv bc in omega arith
said_length Step.Report None h = omega arith
said_length Step.Report (Some p) h = report_length p (h p refl)
said_length (Step.Refused r) shown h = let l = declined_length (number_of r.code) r.position in omega arith

pub answer_fits : AnswerFits
unfolding answer_text
answer_fits t few a =
    let text = said_length a.step (covered_in t (state a.session)) (shown_bounded t few a.session.run a.session.edit) in
    let line = length-append (answer_text t a) (10 ∷ []) in
    omega arith
