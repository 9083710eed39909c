-- The calls that read, over plain sessions: where a report stands, and that its head and its places are the definition's.
use Rattle.std.proofs.Common.{ℕ, ◌≤◌, ◌≡◌, refl, sym, ap, ◌∙◌, Bool, true, false, List, length, Option, None, Some, arith}
use Rattle.std.proofs.lemmas.Bool.{and_parts}
use Rattle.std.specs.Prelude.{cond, slice_get, option_map, take, Float}
use Rattle.definition.specs.Lists.{any}
use Rattle.definition.specs.Meaning.{approximation_says, convergence_of}
use Rattle.definition.specs.Session.{standing, over, finished_in}
use Rattle.definition.specs.Summary.{Report, Approximation, is_outside, report_of}
use Rattle.definition.specs.Summary as summary
use Rattle.definition.specs.declared.Distances.{Distances}
use Rattle.definition.specs.declared.WeightedTruingObservationResultV1.{WeightedTruingObservationResultV1}
use Rattle.bands.specs.Bands.{band_says}
use Rattle.bands.specs.declared.TruingPredictiveBandV1.{TruingPredictiveBandV1}
use Rattle.lists.specs.Lists.{requested_in, observations_at}
use Rattle.report.specs.Report as head
use Rattle.report.specs.Report.{baseline_says, seen_of}
use Rattle.report.specs.Reading.{of_baseline, HeadOf, report_in, ReportRead, ResultRead, BaselineResultRead, BandRead}
use Rattle.report.specs.declared.TruingBaselineV1.{TruingBaselineV1}
use Rattle.report.specs.declared.UncertaintyTruingReportV1.{UncertaintyTruingReportV1}
use Rattle.report.proofs.Reading.{at_most, head_lists}
use Rattle.report_parts.specs.Parts.{results_at, bands_at, baseline_results_at, baseline_at, ResultsCount, BandsCount}
use Rattle.phases.specs.Phases.{plan_of, finished_of}
use Rattle.phases.proofs.Taken.{open_state, closed_state, stands_closed}
use Rattle.run_body.specs.Meaning.{measured_of, baseline_from, held_of, within_of}
use Rattle.session.specs.Meaning.{state, stands_in}
use Rattle.session.specs.declared.Session.{Session}
use Rattle.run_body.proofs.Laws.{shots_within, wanted_within}
use Rattle.session.proofs.Laws.{state_within, state_beyond}

-- ---- where a report stands

module _ (s : Session) where
  abbrev stands : Bool
  stands = (plan_of s.phase s.body.entered).stands

  pub not_standing : stands_in s ≡ false → finished_in (state s) ≡ None
  not_standing e = by (within_of s.body) (plan_of s.phase s.body.entered).asks refl refl
    where
      by : (w : Bool) (a : Option Distances) → within_of s.body ≡ w → (plan_of s.phase s.body.entered).asks ≡ a → finished_in (state s) ≡ None
      by false a w i = ap finished_in (state_beyond s w)
      by true (Some list) w i = ap finished_in (state_within s w ∙ (open_state (held_of s.body) s.phase s.body.entered list i).is)
      by true None w i =
          ap finished_in
          (state_within s w ∙ closed_state (held_of s.body) s.phase s.body.entered i
          ∙ ap (λ (t : Bool). cond t (standing (finished_of (held_of s.body))) over) (rw w at e))

  pub standing_within : stands_in s ≡ true → within_of s.body ≡ true
  standing_within e = (and_parts (within_of s.body) stands e).0

  pub is_standing : stands_in s ≡ true → state s ≡ standing (finished_of (held_of s.body))
  is_standing e =
      let is = (and_parts (within_of s.body) stands e).1 in
      state_within s (standing_within e)
      ∙ closed_state (held_of s.body) s.phase s.body.entered (stands_closed s.phase s.body.entered is)
      ∙ ap (λ (t : Bool). cond t (standing (finished_of (held_of s.body))) over) is

  pub report_stands : stands_in s ≡ true → report_in (state s) ≡ Some (report_of (finished_of (held_of s.body)))
  report_stands e = ap report_in (is_standing e)

-- ---- the head

module _ (s : Session) (h : UncertaintyTruingReportV1) (n m : ℕ) (baseline : Option TruingBaselineV1) (outside : Bool)
    (e : stands_in s ≡ true) (shows : head.Shows h n m s.body.progress s.body.priors baseline outside)
    (results : ResultsCount s.body.shots s.body.predicted s.body.baseline n) (bands : BandsCount s.body.wanted s.body.rows m)
    (is-outside : s.body.shots.n ≤ 64 → outside ≡ any (is_outside (observations_at s.body.shots)) (requested_in s.body.wanted))
    (is-baseline : baseline_says baseline (baseline_results_at s.body.shots s.body.baseline) ≡ baseline_at s.body.shots s.body.entered s.body.baseline) where
  few_shots : s.body.shots.n ≤ 64
  few_shots = shots_within s.body (standing_within s e)

  few_wanted : s.body.wanted.n ≤ 64
  few_wanted = wanted_within s.body (standing_within s e)

  baseline_same : (drops : Option (List Float))
      → baseline_from (measured_of s.body) (option_map (take s.body.shots.n) drops) ≡ baseline_at s.body.shots s.body.entered drops
  baseline_same None = refl
  baseline_same (Some drops) = refl

  abbrev whole : Report
  whole = report_of (finished_of (held_of s.body))

  seen : whole ≡ seen_of h (results_at s.body.shots s.body.predicted) (baseline_results_at s.body.shots s.body.baseline)
      (bands_at (approximation_says h.approximation) s.body.wanted s.body.rows)
  seen = shows.whole (finished_of (held_of s.body)) (baseline_results_at s.body.shots s.body.baseline) (record {
    has_observations = results.observed few_shots;
    has_requested = bands.requested few_wanted;
    has_fit = refl;
    has_evaluation = refl;
    has_priors = refl;
    has_baseline = baseline_same s.body.baseline ∙ sym is-baseline;
    has_outside = sym (is-outside few_shots);
  })

  pub head_of : HeadOf h whole
  head_of = record {
    seen = head_lists h _ _ _ whole seen;
    results = shows.results ∙ sym (ap (λ (p : Report). length p.observations) seen ∙ results.results few_shots);
    baseline_results =
        let l = at_most h.baseline (baseline_results_at s.body.shots s.body.baseline) in
        let e = ap (λ (p : Report). length (of_baseline p.baseline)) seen in
        let k = results.at_most few_shots in
        let m = shows.results in
        omega arith;
    bands = shows.bands ∙ sym (ap (λ (p : Report). length p.bands) seen ∙ bands.bands (approximation_says h.approximation) few_wanted);
  }

  pub shown : ReportRead (state s) (Some h)
  shown = record { is = rw (report_stands s e) head_of }

-- ---- the calls

module _ (s : Session) where
  pub none_shown : stands_in s ≡ false → ReportRead (state s) None
  none_shown e = record { is = rw (not_standing s e) tt }

  pub no_result : (i : ℕ) → stands_in s ≡ false → ResultRead (state s) i None
  no_result i e = record { is = rw (not_standing s e) }

  pub a_result : (i : ℕ) (r : Option WeightedTruingObservationResultV1) → stands_in s ≡ true
      → r ≡ slice_get (results_at s.body.shots s.body.predicted) i → ResultRead (state s) i r
  unfolding report_of
  a_result i r e d = record { is = rw (report_stands s e) d }

  pub no_baseline_result : (i : ℕ) → stands_in s ≡ false → BaselineResultRead (state s) i None
  no_baseline_result i e = record { is = rw (not_standing s e) }

  pub a_baseline_result : (i : ℕ) (drops : Option (List Float)) (r : Option WeightedTruingObservationResultV1) → stands_in s ≡ true → s.body.baseline ≡ drops
      → r ≡ slice_get (baseline_results_at s.body.shots drops) i → BaselineResultRead (state s) i r
  unfolding report_of
  a_baseline_result i None r e f d = record { is = rw (report_stands s e, f) d }
  a_baseline_result i (Some drops) r e f d = record { is = rw (report_stands s e, f) d }

  pub no_band : (i : ℕ) → stands_in s ≡ false → BandRead (state s) i None
  no_band i e = record { is = rw (not_standing s e) }

  pub a_band : (i : ℕ) (r : Option TruingPredictiveBandV1) (a : Approximation) → stands_in s ≡ true
      → a ≡ summary.approximation_of (summary.converged (convergence_of s.body.progress.convergence)) s.body.progress.point
      s.body.progress.evaluation.posterior_information
      → option_map band_says r ≡ slice_get (bands_at a s.body.wanted s.body.rows) i → BandRead (state s) i r
  unfolding report_of
  a_band i r a e q d = record { is = rw (report_stands s e) (rw q at d) }
