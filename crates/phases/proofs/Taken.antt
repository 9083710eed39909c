-- A reply or a refusal of the point, by which question was open: what is left of the run then, and that a taken reply leads there. Assumes nothing.
use Rattle.std.proofs.Common.{ℕ, zero, suc, ◌≡◌, refl, sym, ap, ◌∙◌, subst, Bool, true, false, List, [], ◌∷◌, length, Option, None, Some, arith}
use Rattle.std.specs.Prelude.{Float, cond}
use lib.Dec.{eqb-suc-zero}
use Rattle.definition.specs.Constants.{first_damping}
use Rattle.definition.specs.Request.{Requested, Measured}
use Rattle.definition.specs.Run.{Run, done, refuse, ask, bind, answered, Reply, refused, entries, Entry, reading_of, Which, shots, distances}
use Rattle.definition.specs.Likelihood as likelihood
use Rattle.definition.specs.Fit as fit
use Rattle.definition.specs.Summary.{Finished, Baseline}
use Rattle.definition.specs.Summary as summary
use Rattle.definition.specs.Whole as whole
use Rattle.definition.specs.Session.{asking, standing, over, after, head, says_of, list_of}
use Rattle.definition.specs.declared.Point.{Point}
use Rattle.definition.specs.declared.Evaluation.{Evaluation as Evaluated}
use Rattle.definition.specs.declared.Distances.{Distances}
use Rattle.fitting.specs.Meaning.{fit_of, after_rows, after_trial, after_look, start_at}
use Rattle.fitting.specs.declared.Stage.{Stage}
use Rattle.fitting.proofs.Laws.{bind_assoc}
use Rattle.stencil.specs.Stencil.{stencil_next, point_at, next_of, rows_next}
use Rattle.stencil.specs.declared.StencilPoint.{StencilPoint}
use Rattle.stencil.specs.declared.StencilPoint.TheVariants.{Nominal}
use Rattle.stencil.proofs.Laws.{left, left_more, left_gap, left_whole, stencil_left}
use Rattle.phases.specs.Phases.{Held, with_progress, after_bands, finished_with, finished_of, state_at, plan_of, Leads}
use Rattle.phases.specs.Phases.{valued_from, with_evaluation, at_fit_at, Evaluates, Fives, five_bands_at, Takes}
use Rattle.phases.specs.declared.Lays.{Lays}
use Rattle.phases.specs.declared.Lays.TheVariants.{Baseline as Drops}
use Rattle.phases.specs.declared.Phase.{Phase}
use Rattle.phases.specs.declared.Phase.TheVariants.{Over, Start, Evaluation, Trial, Look, Bands, Ended}
use Rattle.phases.specs.declared.Next.{Next}

-- ---- the open question

-- what a reply to an objective leads to
abbrev valued_by : Measured → Point → (Float → Run Finished) → Reply → Run Finished
valued_by m q f reply = bind (bind (answered reply) (likelihood.valued m q)) f

-- what is left of the run with a reply to the open question
abbrev pub continue_at : Held → Phase → Reply → Run Finished
continue_at h Over reply = refuse 8 0
continue_at h Start reply = valued_by h.measured h.measured.entered (λ v. start_at h.measured.entered v h.measured h.requested) reply
continue_at h (Evaluation stage k) reply =
    let p = h.progress.point in
    bind (bind (bind (answered reply) (λ d. stencil_next k p shots (rows_next k p h.rows d))) (likelihood.complete 11))
    (after_rows h.measured h.requested h.progress stage)
continue_at h (Trial q) reply = valued_by h.measured q (after_trial h.measured h.requested h.progress q) reply
continue_at h (Look c) reply = valued_by h.measured c (after_look h.measured h.requested h.progress c) reply
continue_at h (Bands k) reply =
    let p = h.progress.point in
    bind (bind (bind (answered reply) (λ d. stencil_next k p distances (rows_next k p h.band_rows d))) (likelihood.complete 13)) (after_bands h)
continue_at h Phase.Baseline reply = done (finished_with h (summary.baseline_of h.measured reply))
continue_at h Ended reply = refuse 8 0

objective_asks : (m : Measured) (q : Point) (f : Float → Run Finished) → bind (likelihood.objective m q) f ≡ ask q shots (valued_by m q f)
unfolding likelihood.objective
objective_asks m q f = refl

run_starts : (m : Measured) (ds : List Requested) → whole.run m ds ≡ bind (likelihood.objective m m.entered) (λ v. start_at m.entered v m ds)
unfolding whole.run fit.fit_map
run_starts m ds = bind_assoc (likelihood.objective m m.entered) (λ v. fit.iterate m 100 m.entered v first_damping 0) (whole.fitted m ds)

concluded_asks : (h : Held) (rows : likelihood.Rows)
    → after_bands h rows
    ≡ ask h.measured.entered shots (λ r. done (finished_with (record h { band_rows = rows }) (summary.baseline_of h.measured r)))
unfolding whole.concluded whole.baseline
concluded_asks h rows = refl

-- the run asks a question about these distances
pub record Open (h : Held) (ph : Phase) (list : Distances) : Type 0 where
  pub point : Point
  pub which : Which
  pub is : state_at h ph ≡ asking None (ask point which (continue_at h ph))
  pub about : list_of which ≡ list

pub open_state : (h : Held) (ph : Phase) (entered : Point) (list : Distances) → (plan_of ph entered).asks ≡ Some list → Open h ph list
open_state h Over x list e = absurd (cc)
open_state h Start x list e = record {
  point = h.measured.entered;
  which = shots;
  is = ap (after None) (run_starts h.measured h.requested ∙ objective_asks h.measured h.measured.entered _);
  about = cc;
}
open_state h (Evaluation stage k) x list e = record {
  point = point_at k h.progress.point;
  which = shots;
  is = ap (after None) (stencil_left k h.progress.point shots h.rows 11 (after_rows h.measured h.requested h.progress stage));
  about = cc;
}
open_state h (Trial q) x list e = record { point = q; which = shots; is = ap (after None) (objective_asks h.measured q _); about = cc }
open_state h (Look c) x list e = record { point = c; which = shots; is = ap (after None) (objective_asks h.measured c _); about = cc }
open_state h (Bands k) x list e = record {
  point = point_at k h.progress.point;
  which = distances;
  is = ap (after None) (stencil_left k h.progress.point distances h.band_rows 13 (after_bands h));
  about = cc;
}
open_state h Phase.Baseline x list e = record {
  point = h.measured.entered;
  which = shots;
  is = ap (after None) (concluded_asks h h.band_rows);
  about = cc;
}
open_state h Ended x list e = absurd (cc)

-- no question is open: the run is over, or its report stands
pub closed_state : (h : Held) (ph : Phase) (entered : Point) → (plan_of ph entered).asks ≡ None
    → state_at h ph ≡ cond (plan_of ph entered).stands (standing (finished_of h)) over
closed_state h Over x e = refl
closed_state h Ended x e = refl
closed_state h ph x e = cc

-- a report stands where no question is open
pub stands_closed : (ph : Phase) (entered : Point) → (plan_of ph entered).stands ≡ true → (plan_of ph entered).asks ≡ None
stands_closed Over x e = refl
stands_closed Ended x e = refl
stands_closed ph x e = cc

-- a refusal of the point ends the run, but for the baseline, whose refusal refuses nothing
abbrev pub refused_by : Option Lays → Held → Run Finished
refused_by (Some Drops) h = done (finished_with h None)
refused_by lays h = refuse 10 0

pub refusal_ends : (h : Held) (ph : Phase) (entered : Point) (list : Distances) → (plan_of ph entered).asks ≡ Some list
    → continue_at h ph refused ≡ refused_by (plan_of ph entered).lays h
unfolding summary.baseline_of
refusal_ends h Over x list e = cc
refusal_ends h Ended x list e = cc
refusal_ends h ph x list e = refl

-- ---- the rows at the requested distances

no_bands : (m : Measured) (f : fit.Fit) (e : Evaluated) (drops : List Float) (ds : List Requested) → length ds ≡ 0
    → whole.banded m ds f e drops ≡ whole.concluded m ds f e drops whole.no_rows
unfolding whole.banded whole.band_rows
no_bands m f e drops [] n = refl
no_bands m f e drops (d ∷ ds) n = absurd (omega arith)

some_bands : (m : Measured) (f : fit.Fit) (e : Evaluated) (drops : List Float) (ds : List Requested) → (length ds ≡ 0 → ⊥)
    → whole.banded m ds f e drops ≡ bind (bind (likelihood.truing_jacobian_rows f.point distances) (likelihood.complete 13)) (whole.concluded m ds f e drops)
unfolding whole.banded whole.band_rows
some_bands m f e drops [] n = absurd (n refl)
some_bands m f e drops (d ∷ ds) n = refl

-- ---- a taken reply

module _ (h : Held) (es : List Entry) (rows band_rows : likelihood.Rows) (predicted : List Float) (baseline : Option Baseline) (e : Evaluated) (found : ℕ)
    (sum : Float) (gap : ℕ) (requested : Bool) where
  abbrev p : Point
  p = h.progress.point

  -- one of the five at the observations
  pub record LaidFive (stage : Stage) (k : StencilPoint) : Type 0 where
    pub laid : rows ≡ rows_next k p h.rows (reading_of es)
    pub gap_is : rows.gap ≡ gap
    pub evaluated : next_of k ≡ None → gap ≡ 0 → likelihood.evaluation_of h.measured p rows ≡ e
    pub fitted : next_of k ≡ None → gap ≡ 0 → stage ≡ Stage.AtFit → predicted ≡ rows.predicted
    pub some_requested : requested ≡ true → length h.requested ≡ 0 → ⊥
    pub none_requested : requested ≡ false → gap ≡ 0 → (length h.requested ≡ 0) × (band_rows ≡ whole.no_rows)

  -- one of the five at the requested distances
  pub record LaidBands (k : StencilPoint) : Type 0 where
    pub laid : band_rows ≡ rows_next k p h.band_rows (reading_of es)
    pub gap_is : band_rows.gap ≡ gap
    pub kept : predicted ≡ h.predicted

  -- the drops at the entered point
  pub record LaidBaseline : Type 0 where
    pub bands_kept : band_rows ≡ h.band_rows
    pub kept : predicted ≡ h.predicted
    pub laid : baseline ≡ summary.baseline_of h.measured (entries es)

  -- an objective
  abbrev pub LaidValue : Point → Type 0
  LaidValue q = valued_from found sum ≡ likelihood.valued h.measured q (reading_of es)

  -- what a reply that is laid in has to come to, by which question was open
  abbrev pub Laid : Phase → Type 0
  Laid Over = ⊥
  Laid Start = LaidValue h.measured.entered
  Laid (Evaluation stage k) = LaidFive stage k
  Laid (Trial q) = LaidValue q
  Laid (Look c) = LaidValue c
  Laid (Bands k) = LaidBands k
  Laid Phase.Baseline = LaidBaseline
  Laid Ended = ⊥

  -- what the run holds then
  abbrev pub with_reply : Held
  with_reply = record h { rows = rows; band_rows = band_rows; predicted = predicted; baseline = baseline }

  -- the run is led where the reply leads, and what is said is its head
  pub record Led (t : Next) (r : Run Finished) : Type 0 where
    pub leads : state_at (with_progress with_reply t.progress) t.phase ≡ after None r
    pub says : says_of t.step ≡ head r

  led_as : {t u : Next} {r s : Run Finished} → t ≡ u → r ≡ s → Led u r → Led t s
  led_as {t} {u} {r} {s} x y l = subst (λ (v : Next). Led v s) (sym x) (subst (Led u) y l)

  -- ---- an objective

  value_led : (t : Next) (q : Point) (f : Measured → List Requested → Float → Run Finished) → LaidValue q
      → Leads t (λ m ds. bind (valued_from found sum) (f m ds))
      → Led t (valued_by h.measured q (f h.measured h.requested) (entries es))
  value_led t q f v l =
      led_as refl (ap (λ (x : Run Float). bind x (f h.measured h.requested)) v) (record { leads = l.leads with_reply; says = l.says with_reply })

  -- ---- one of the five

  -- the evaluation at the fit: the requested distances come next, or the baseline
  at_fit : (t : Next) (b : Bool) → (b ≡ true → length h.requested ≡ 0 → ⊥) → (b ≡ false → (length h.requested ≡ 0) × (band_rows ≡ whole.no_rows))
      → t ≡ at_fit_at h.progress e b h.measured.entered → Led t (whole.banded h.measured h.requested (fit_of h.progress) e predicted)
  unfolding at_fit_at
  at_fit t true some none is =
      led_as is (sym (some_bands h.measured (fit_of h.progress) e predicted h.requested (some refl))) (record {
        leads = refl;
        says = ap head (sym (stencil_left Nominal p distances band_rows 13 (whole.concluded h.measured h.requested (fit_of h.progress) e predicted)));
      })
  at_fit t false some none is =
      led_as is
      (ap (whole.concluded h.measured h.requested (fit_of h.progress) e predicted) (none refl).1
      ∙ sym (no_bands h.measured (fit_of h.progress) e predicted h.requested (none refl).0))
      (record { leads = refl; says = ap head (sym (concluded_asks (with_progress with_reply (with_evaluation h.progress e)) band_rows)) })

  module _ (k : StencilPoint) (t : Next) where
    whole_led : (stage : Stage) → LaidFive stage k → Evaluates stage h.progress e requested h.measured.entered t → next_of k ≡ None → gap ≡ 0
        → Led t (after_rows h.measured h.requested h.progress stage rows)
    whole_led Stage.AtFit l v n z =
        led_as refl
        (λ i. whole.banded h.measured h.requested (fit_of h.progress) (sym (l.evaluated n z) i) (l.fitted n z refl i))
        (at_fit t requested l.some_requested (λ b. l.none_requested b z) v)
    whole_led stage l v n z = record { leads = v.leads with_reply rows (l.evaluated n z); says = v.says with_reply rows (l.evaluated n z) }

    five_led : (stage : Stage) → LaidFive stage k → (o : Option StencilPoint) (g : ℕ) → next_of k ≡ o → gap ≡ g
        → Fives stage k h.progress e gap requested h.measured.entered t
        → Led t (left k p shots rows 11 (after_rows h.measured h.requested h.progress stage))
    five_led stage l (Some q) g n z v =
        led_as (v.more q n) (sym (left_more k p shots rows 11 (after_rows h.measured h.requested h.progress stage) q n)) (record {
          leads = refl;
          says = ap head (sym (stencil_left q p shots rows 11 (after_rows h.measured h.requested h.progress stage)));
        })
    five_led stage l None zero n z v =
        led_as refl (sym (left_whole k p shots rows 11 (after_rows h.measured h.requested h.progress stage) n (l.gap_is ∙ z)))
        (whole_led stage l (v.whole n z) n z)
    five_led stage l None (suc g) n z v =
        led_as (v.gapped n (λ w. omega arith)) (sym (left_gap k p shots rows 11 (after_rows h.measured h.requested h.progress stage) gap n l.gap_is
        (λ w. omega arith)))
        (record { leads = refl; says = refl })

    bands_led : (o : Option StencilPoint) (g : ℕ) → next_of k ≡ o → band_rows.gap ≡ g → t ≡ five_bands_at o h.progress g h.measured.entered
        → Led t (left k p distances band_rows 13 (after_bands with_reply))
    unfolding five_bands_at
    bands_led (Some q) g n z v =
        led_as v (sym (left_more k p distances band_rows 13 (after_bands with_reply) q n))
        (record { leads = refl; says = ap head (sym (stencil_left q p distances band_rows 13 (after_bands with_reply))) })
    bands_led None zero n z v =
        led_as v (sym (left_whole k p distances band_rows 13 (after_bands with_reply) n z))
        (record { leads = refl; says = ap head (sym (concluded_asks with_reply band_rows)) })
    bands_led None (suc g) n z v =
        led_as (rw eqb-suc-zero at v) (sym (left_gap k p distances band_rows 13 (after_bands with_reply) (suc g) n z (λ w. omega arith)))
        (record { leads = refl; says = refl })

  -- ---- by which question was open

  pub taken : (ph : Phase) (t : Next) → Laid ph → Takes ph h.progress e found sum gap requested h.measured.entered t
      → Led t (continue_at h ph (entries es))
  taken Over t l v = absurd l
  taken Start t l v = value_led t h.measured.entered (λ m ds x. start_at h.measured.entered x m ds) l v
  taken (Evaluation stage k) t l v =
      subst (λ (r : likelihood.Rows). Led t (left k p shots r 11 (after_rows h.measured h.requested h.progress stage))) l.laid
      (five_led k t stage l (next_of k) gap refl refl v)
  taken (Trial q) t l v = value_led t q (λ m ds. after_trial m ds h.progress q) l v
  taken (Look c) t l v = value_led t c (λ m ds. after_look m ds h.progress c) l v
  taken (Bands k) t l v =
      led_as refl
      (λ i. left k p distances (l.laid i) 13 (whole.concluded h.measured h.requested (fit_of h.progress) h.progress.evaluation (l.kept i)))
      (bands_led k t (next_of k) gap refl l.gap_is v)
  taken Phase.Baseline t l v =
      led_as v refl (record {
        leads = λ i. standing (finished_of (record h { band_rows = l.bands_kept i; predicted = l.kept i; baseline = l.laid i }));
        says = refl;
      })
  taken Ended t l v = absurd l
