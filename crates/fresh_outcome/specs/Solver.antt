-- A host whose replies come from one solver, and what an edit of the requested distances comes to under it: what a fresh whole run with the edited list comes
-- to.
-- The theorems stand in proofs/ under the names that stand here: Edits.antt, and Reports.antt (`only_band`).
use Rattle.std.specs.Prelude.{ℕ, ◌-◌, ◌≡◌, Bool, true, false, cond, List, [], ◌∷◌, map, length, set, Float}
use Rattle.definition.specs.Lists.{insert_at, remove_at}
use Rattle.definition.specs.Request.{Requested, Opening}
use Rattle.definition.specs.Run.{Entry, Reply, refused, entries, shots, distances, new}
use Rattle.definition.specs.Host.{Outcome, ends, Host, play}
use Rattle.definition.specs.Summary.{Approximation, Finished, BandWith, Band, ReportWith, warned_by, report_with, ranges_of}
use Rattle.definition.specs.Laws.{without}
use Rattle.definition.specs.Whole.{whole, Edit, put_in, take_out, exchange, edited, placed, edit}
use Rattle.definition.specs.declared.Point.{Point}
use Rattle.definition.specs.declared.TruingUncertaintyWarningCodeV1.TheVariants as Warning

-- ---- solvers

-- its refusal depends on the point alone, and its entry at a distance on the point and that distance alone
pub record Solver : Type 0 where
  pub refuses : Point → Bool
  pub drops : Point → Float → Entry

-- its reply at a list of distances
abbrev pub reply_at : Solver → Point → List Float → Reply
reply_at σ p ds = cond (σ.refuses p) refused (entries (map (σ.drops p) ds))

abbrev pub distances_of : List Requested → List Float
distances_of l = map (λ d. d.range_yd) l

-- the host that puts to the solver each question's distances
abbrev pub host_of : Solver → Opening → Host
host_of σ o p shots = reply_at σ p (ranges_of o.measured.observations)
host_of σ o p distances = reply_at σ p (distances_of o.requested)
host_of σ o p (new d) = reply_at σ p (d ∷ [])

-- an opening with another list of requested distances
abbrev pub with_list : Opening → List Requested → Opening
with_list o l = record { measured = o.measured; requested = l }

-- a list's fresh outcome: of the whole run with this list
unfoldable pub fresh : Solver → Opening → List Requested → Outcome Finished
fresh σ o l = play (host_of σ (with_list o l)) (whole (with_list o l))

-- ---- an edit

-- Theorem `edit_fresh`: an edit of a finished run, at a place of its list, ends as a fresh whole run with the edited list does: with the same finished run, or
-- with a refusal of the same number and position: 6, or 7 or 13 at the place, which is the first position at fault since the other entries passed. 10 cannot
-- come: the five points of the new distance are those of the evaluation at the fit, and the solver did not refuse them there.
abbrev pub EditFresh : Type 0
EditFresh =
    (σ : Solver) (o : Opening) (l : List Requested) (c : Finished) (e : Edit) → fresh σ o l ≡ ends c → placed e (length l) ≡ true
    → play (host_of σ (with_list o l)) (edit c e) ≡ fresh σ o (edited e l)

-- Theorem `take_out_fresh`: with a distance taken out, a run that finished finishes again.
abbrev pub TakeOutFresh : Type 0
TakeOutFresh =
    (σ : Solver) (o : Opening) (l : List Requested) (c : Finished) (i : ℕ) → fresh σ o l ≡ ends c → placed (take_out i) (length l) ≡ true
    → (d : Finished) × (fresh σ o (edited (take_out i) l) ≡ ends d)

-- Theorem `list_kept`: a finished run has the list and the measured part that it was opened with.
abbrev pub ListKept : Type 0
ListKept = (σ : Solver) (o : Opening) (l : List Requested) (c : Finished) → fresh σ o l ≡ ends c → (c.requested ≡ l) × (c.measured ≡ o.measured)

-- ---- what an edit changes in a report

-- the bands before and after: one, of the new distance, is put in at the place, or stands there for the old one; or the one there is taken out
abbrev pub BandEdited : {I : Type 0} → Edit → List (BandWith I) → List (BandWith I) → Type 0
BandEdited {I} (put_in i d) before after = (band : BandWith I) × (band.range ≡ d.range_yd) × (after ≡ insert_at (i - 1) band before)
BandEdited {I} (take_out i) before after = after ≡ remove_at (i - 1) before
BandEdited {I} (exchange i d) before after = (band : BandWith I) × (band.range ≡ d.range_yd) × (after ≡ set before (i - 1) band)

-- everything else is the same; A: what the approximation is told by, I: what an interval is
pub record BandAlone {A I : Type 0} (e : Edit) (before after : ReportWith A I) : Type 0 where
  pub schema_version : after.schema_version ≡ before.schema_version
  pub point : after.point ≡ before.point
  pub iterations : after.iterations ≡ before.iterations
  pub is_converged : after.is_converged ≡ before.is_converged
  pub priors : after.priors ≡ before.priors
  pub observations : after.observations ≡ before.observations
  pub baseline : after.baseline ≡ before.baseline
  pub diagnostics : after.diagnostics ≡ before.diagnostics
  pub approximation : after.approximation ≡ before.approximation
  pub bands : BandEdited e before.bands after.bands
  pub warnings : without Warning.PredictionOutsideObservedDomain after.warnings ≡ without Warning.PredictionOutsideObservedDomain before.warnings

-- Theorem `only_band`: between the reports of a list and of the edited list only the band at the place, and the warning about the requested distances, can
-- differ; in whatever way a report tells its approximation and its bands, whose ranges stay, and judges the crossing.
abbrev pub OnlyBand : Type 1
OnlyBand =
    (σ : Solver) (o : Opening) (l : List Requested) (c d : Finished) (e : Edit) → fresh σ o l ≡ ends c → placed e (length l) ≡ true
    → fresh σ o (edited e l) ≡ ends d
    → (A I : Type 0) (approximation : Approximation → A) (tell : Band → BandWith I) → ((b : Band) → (tell b).range ≡ b.range)
    → (crosses : Approximation → Bool)
    → BandAlone e (report_with approximation tell (warned_by crosses) c) (report_with approximation tell (warned_by crosses) d)
