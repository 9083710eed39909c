-- The places and the lengths of the lists, and that a list is read whole by its places.
use Rattle.std.proofs.Common.{◌≡◌, ℕ, Bool, zero, suc, List, [], ◌∷◌, length, refl, sym, ap, ◌∙◌, arith}
use Rattle.std.specs.Prelude.{Option, None, Some, Float, is_some, slice_get}
use Rattle.definition.specs.Lists.{any, zip_with, zip_with3}
use Rattle.definition.specs.Request.{Observation, Requested}
use Rattle.definition.specs.Summary.{
  Approximation,
  converged,
  ranges_of,
  observed_min,
  observed_max,
  is_outside,
  result_of,
  results_of,
  band_of,
  report_of,
  Finished,
}
use Rattle.definition.specs.Likelihood.{rows_of}
use Rattle.definition.specs.Meaning.{observation_of, observations_of, convergence_of}
use Rattle.definition.specs.declared.Row.{Row}
use Rattle.definition.specs.declared.Convergence.{Convergence}
use Rattle.definition.specs.declared.Convergence.TheVariants.{ScaledGradient, ObjectiveMesh}
use Rattle.definition.specs.declared.TruingPriorsV1.{TruingPriorsV1}
use Rattle.likelihood.proofs.Laws as zips
use Rattle.fitting.specs.declared.Progress.{Progress}
use Rattle.warnings.specs.Warnings.{nearest_of, farthest_of, outside_of}
use Rattle.warnings.proofs.Laws.{any_listed, observed_ranges}
use Rattle.report.specs.declared.TruingBaselineV1.{TruingBaselineV1}
use Rattle.report.specs.declared.UncertaintyTruingReportV1.{UncertaintyTruingReportV1}
use Rattle.report.specs.Report.{Results, PartsOf, Shows}
use Rattle.report.specs.Places.{ListsSame, any_outside_of}

pub lists_same : ListsSame
lists_same A [] [] h = refl
lists_same A [] (b ∷ ys) h = let z : None ≡ Some b = h 0 in cc
lists_same A (a ∷ xs) [] h = let z : Some a ≡ None = h 0 in cc
lists_same A (a ∷ xs) (b ∷ ys) h = let z : Some a ≡ Some b = h 0 in let t : xs ≡ ys = lists_same A xs ys (λ i. h (suc i)) in cc

-- a fit is verified where it is told how
pub verified : (v : Option Convergence) → is_some v ≡ converged (convergence_of v)
verified None = refl
verified (Some ScaledGradient) = refl
verified (Some (ObjectiveMesh radius improvement)) = refl

-- a place of two lists that are read together is there where it is in each of them
module _ {A B C : Type 0} (f : A → B → C) where
  pub zip_get : (xs : List A) (ys : List B) (i : ℕ) (a : A) (b : B) → slice_get xs i ≡ Some a → slice_get ys i ≡ Some b
      → slice_get (zip_with f xs ys) i ≡ Some (f a b)
  zip_get [] ys i a b g h = cc
  zip_get (x ∷ xs) [] i a b g h = cc
  zip_get (x ∷ xs) (y ∷ ys) zero a b g h = cc
  zip_get (x ∷ xs) (y ∷ ys) (suc i) a b g h = zip_get xs ys i a b g h

  pub zip_none : (xs : List A) (ys : List B) (i : ℕ) → slice_get xs i ≡ None → slice_get (zip_with f xs ys) i ≡ None
  zip_none [] ys i h = refl
  zip_none (x ∷ xs) [] i h = refl
  zip_none (x ∷ xs) (y ∷ ys) zero h = cc
  zip_none (x ∷ xs) (y ∷ ys) (suc i) h = zip_none xs ys i h

  pub zip_none_2 : (xs : List A) (ys : List B) (i : ℕ) → slice_get ys i ≡ None → slice_get (zip_with f xs ys) i ≡ None
  zip_none_2 [] ys i h = refl
  zip_none_2 (x ∷ xs) [] i h = refl
  zip_none_2 (x ∷ xs) (y ∷ ys) zero h = cc
  zip_none_2 (x ∷ xs) (y ∷ ys) (suc i) h = zip_none_2 xs ys i h

  -- lists of one length, read together, have that length
  pub zip_length : (xs : List A) (ys : List B) → length ys ≡ length xs → length (zip_with f xs ys) ≡ length xs
  zip_length xs ys e = omega (arith, zips.zip_length f xs ys)

-- ---- one equation for every place

-- two that are there together, or three
abbrev pub both : {A B C : Type 0} → (A → B → C) → Option A → Option B → Option C
both f (Some a) (Some b) = Some (f a b)
both f (Some a) None = None
both f None b = None

abbrev pub three : {A B C D : Type 0} → (A → B → C → D) → Option A → Option B → Option C → Option D
three f (Some a) (Some b) (Some c) = Some (f a b c)
three f (Some a) (Some b) None = None
three f (Some a) None c = None
three f None b c = None

-- nothing goes with what is not there
both_none : {A B C : Type 0} (f : A → B → C) (o : Option A) → both f o None ≡ None
both_none f None = refl
both_none f (Some a) = refl

three_none_2 : {A B C D : Type 0} (f : A → B → C → D) (o : Option A) (q : Option C) → three f o None q ≡ None
three_none_2 f None q = refl
three_none_2 f (Some a) q = refl

three_none_3 : {A B C D : Type 0} (f : A → B → C → D) (o : Option A) (q : Option B) → three f o q None ≡ None
three_none_3 f None q = refl
three_none_3 f (Some a) None = refl
three_none_3 f (Some a) (Some b) = refl

-- a place of lists that are read together is there where it is in each of them
pub nth_zip : {A B C : Type 0} (f : A → B → C) (xs : List A) (ys : List B) (i : ℕ) → slice_get (zip_with f xs ys) i ≡ both f (slice_get xs i) (slice_get ys i)
nth_zip f [] ys i = refl
nth_zip f (a ∷ xs) [] zero = refl
nth_zip f (a ∷ xs) [] (suc i) = sym (both_none f (slice_get xs i))
nth_zip f (a ∷ xs) (b ∷ ys) zero = refl
nth_zip f (a ∷ xs) (b ∷ ys) (suc i) = nth_zip f xs ys i

pub nth_zip3 : {A B C D : Type 0} (f : A → B → C → D) (xs : List A) (ys : List B) (zs : List C) (i : ℕ)
    → slice_get (zip_with3 f xs ys zs) i ≡ three f (slice_get xs i) (slice_get ys i) (slice_get zs i)
nth_zip3 f [] ys zs i = refl
nth_zip3 f (a ∷ xs) [] zs zero = refl
nth_zip3 f (a ∷ xs) [] zs (suc i) = sym (three_none_2 f (slice_get xs i) (slice_get zs (suc i)))
nth_zip3 f (a ∷ xs) (b ∷ ys) [] zero = refl
nth_zip3 f (a ∷ xs) (b ∷ ys) [] (suc i) = sym (three_none_3 f (slice_get xs i) (slice_get ys i))
nth_zip3 f (a ∷ xs) (b ∷ ys) (c ∷ zs) zero = refl
nth_zip3 f (a ∷ xs) (b ∷ ys) (c ∷ zs) (suc i) = nth_zip3 f xs ys zs i

-- an observation result, and a band, by what stands at its place
pub results_at_lem : (r d s p : List Float) (i : ℕ)
    → slice_get (results_of (observations_of r d s) p) i
    ≡ both result_of (three observation_of (slice_get r i) (slice_get d i) (slice_get s i)) (slice_get p i)
results_at_lem r d s p i =
    nth_zip result_of (observations_of r d s) p i
    ∙ ap (λ (o : Option Observation). both result_of o (slice_get p i)) (nth_zip3 observation_of r d s i)

pub bands_at_lem : (a : Approximation) (ds : List Requested) (rows : List Row) (i : ℕ)
    → slice_get (zip_with (band_of a) ds rows) i ≡ both (band_of a) (slice_get ds i) (slice_get rows i)
bands_at_lem a ds rows i = nth_zip (band_of a) ds rows i

-- ---- the head

-- where predicted drops and rows are there for all of them, the head's two counts are the lengths of the report's lists
module _
    {r : UncertaintyTruingReportV1} {n wanted : ℕ} {g : Progress} {priors : TruingPriorsV1} {baseline : Option TruingBaselineV1} {outside : Bool}
    {c : Finished} {entered : Results}
    (s : Shows r n wanted g priors baseline outside) (h : PartsOf c n wanted g priors baseline entered outside) where
  pub count_of_results : length c.predicted ≡ n → length (report_of c).observations ≡ r.observations
  unfolding report_of
  count_of_results e = zip_length _ c.measured.observations c.predicted (e ∙ sym h.has_observations) ∙ h.has_observations ∙ sym s.results

  pub count_of_bands : length (rows_of c.band_rows) ≡ wanted → length (report_of c).bands ≡ r.predictive_bands
  unfolding report_of
  count_of_bands e = zip_length _ c.requested (rows_of c.band_rows) (e ∙ sym h.has_requested) ∙ h.has_requested ∙ sym s.bands

-- `any_outside_of` is the definition's test
pub outside_observed : (obs : List Observation) (ds : List Requested) → any (is_outside obs) ds ≡ any_outside_of (ranges_of obs) ds
unfolding any_outside_of observed_min observed_max nearest_of farthest_of outside_of
outside_observed obs ds = any_listed (is_outside obs) ds

-- the observations' distances in a list of their own, beside two others of its length
pub outside_requested : (r d s : List Float) (ds : List Requested) → length d ≡ length r → length s ≡ length r
    → any (is_outside (observations_of r d s)) ds ≡ any_outside_of r ds
outside_requested r d s ds e g =
    outside_observed (observations_of r d s) ds ∙ ap (λ (l : List Float). any_outside_of l ds) (observed_ranges r d s e g)
