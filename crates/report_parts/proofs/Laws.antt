-- The first places of the arrays over plain values: the lists of a report, their lengths, and the sum of the baseline. Assumes nothing.
use Prim.Native.Nat.{ℕ, zero, suc, ◌≤◌}
use mathlib.Core.Path.{◌≡◌, refl, sym, ap, ◌∙◌}
use mathlib.Core.List.{List, [], ◌∷◌}
use native.Mathlib.Nat.{not-suc-le-zero, le_of_suc-le-suc}
use native.Mathlib.Omega.{arith}
use lib.Ieee.{Float}
use lib.ListN.{length, take, length-take}
use Rattle.std.specs.Prelude.{Option, None, Some}
use Rattle.numeric.specs.Numeric.{zero64}
use Rattle.definition.specs.Lists.{any, zip_with}
use Rattle.definition.specs.Request.{Requested}
use Rattle.definition.specs.Meaning.{observation_of}
use Rattle.definition.specs.Likelihood.{row_of, rows_of, with_shot, chi_square_of}
use Rattle.definition.specs.Summary.{Approximation, result_of, results_of, is_outside, band_of}
use Rattle.definition.specs.declared.Row.{Row}
use Rattle.likelihood.proofs.Laws.{zip_length, zip3_length, zip3_take, fold_take_right}
use Rattle.lists.specs.Lists.{requested_in, observations_at}
use Rattle.lists.specs.declared.Shots.{Shots}
use Rattle.lists.specs.declared.Wanted.{Wanted}
use Rattle.report.specs.Places.{any_outside_of}
use Rattle.warnings.proofs.Laws.{observed_ranges}
use Rattle.report.proofs.Laws.{outside_observed}
use Rattle.stencil.specs.Stencil.{rows_at, all_rows}
use Rattle.stencil.specs.declared.StencilRows.{StencilRows}
use Rattle.report_parts.specs.Parts.{results_at, bands_at, baseline_results_at, ResultsCount, BandsCount}

-- ---- the first places of the arrays

-- what lies past the end of the first is not read
zip_take_right : {A B C : Type 0} (f : A → B → C) (xs : List A) (ys : List B) (n : ℕ) → length xs ≤ n → zip_with f xs (take n ys) ≡ zip_with f xs ys
zip_take_right f [] ys n h = refl
zip_take_right f (x ∷ xs) ys zero h = absurd (not-suc-le-zero h)
zip_take_right f (x ∷ xs) [] (suc n) h = refl
zip_take_right {C = C} f (x ∷ xs) (y ∷ ys) (suc n) h = ap (λ (l : List C). f x y ∷ l) (zip_take_right f xs ys n (le_of_suc-le-suc h))

at_most : (s : Shots) → length (observations_at s) ≤ s.n
at_most s =
    let l = zip3_length observation_of (take s.n s.ranges) (take s.n s.drops) (take s.n s.sigmas) in
    let m = length-take s.n s.ranges in
    omega arith

pub results_places : (s : Shots) (drops : List Float) → results_of (observations_at s) drops ≡ results_at s drops
results_places s drops = sym (zip_take_right result_of (observations_at s) drops s.n (at_most s))

pub bands_places : (a : Approximation) (w : Wanted) (t : StencilRows 64) → zip_with (band_of a) (requested_in w) (rows_of (all_rows t)) ≡ bands_at a w t
bands_places a w t =
    let l = length-take w.n w.entries in
    sym (ap (λ (r : List Row). zip_with (band_of a) (requested_in w) r) (zip3_take row_of t.predicted t.by_mv t.by_bc w.n)
    ∙ zip_take_right (band_of a) (requested_in w) (rows_of (all_rows t)) w.n (omega arith))

-- ---- how many there are

-- the arrays have 64 places each
module _ (s : Shots) (r : length s.ranges ≡ 64) (d : length s.drops ≡ 64) (g : length s.sigmas ≡ 64) where
  observed : s.n ≤ 64 → length (observations_at s) ≡ s.n
  observed h =
      let l = zip3_length observation_of (take s.n s.ranges) (take s.n s.drops) (take s.n s.sigmas) in
      let a = length-take s.n s.ranges in
      let b = length-take s.n s.drops in
      let c = length-take s.n s.sigmas in
      omega arith

  results_length : (drops : List Float) → length drops ≡ 64 → s.n ≤ 64 → length (results_at s drops) ≡ s.n
  results_length drops p h =
      let a = observed h in
      let b = length-take s.n drops in
      let l = zip_length result_of (observations_at s) (take s.n drops) in
      omega arith

  results_most : (drops : Option (List Float)) → length (baseline_results_at s drops) ≤ s.n
  results_most None = omega arith
  results_most (Some drops) =
      let l = zip_length result_of (observations_at s) (take s.n drops) in
      let m = at_most s in
      omega arith

  pub counts_results : (predicted : List Float) (drops : Option (List Float)) → length predicted ≡ 64 → ((d : List Float) → drops ≡ Some d → length d ≡ 64)
      → ResultsCount s predicted drops s.n
  counts_results predicted drops p q = record {
    observed = observed;
    results = results_length predicted p;
    entered = λ d e. results_length d (q d e);
    at_most = λ h. results_most drops;
  }

module _ (w : Wanted) (t : StencilRows 64) (e : length w.entries ≡ 64) (p : length t.predicted ≡ 64) (m : length t.by_mv ≡ 64) (b : length t.by_bc ≡ 64) where
  wanted : w.n ≤ 64 → length (requested_in w) ≡ w.n
  wanted h = let l = length-take w.n w.entries in omega arith

  rows : w.n ≤ 64 → length (rows_of (rows_at w.n t)) ≡ w.n
  rows h =
      let l = zip3_length row_of (take w.n t.predicted) (take w.n t.by_mv) (take w.n t.by_bc) in
      let x = length-take w.n t.predicted in
      let y = length-take w.n t.by_mv in
      let z = length-take w.n t.by_bc in
      omega arith

  pub counts_bands : BandsCount w t w.n
  counts_bands = record {
    places = refl;
    requested = wanted;
    bands = λ a h.
        let x = wanted h in
        let y = rows h in
        let l = zip_length (band_of a) (requested_in w) (rows_of (rows_at w.n t)) in
        omega arith;
  }

-- ---- the observed distances

pub outside_places : (s : Shots) (ds : List Requested) (ranges : List Float) → length s.ranges ≡ 64 → length s.drops ≡ 64 → length s.sigmas ≡ 64 → s.n ≤ 64
    → ranges ≡ take s.n s.ranges → any_outside_of ranges ds ≡ any (is_outside (observations_at s)) ds
outside_places s ds ranges r d g h e =
    let a = length-take s.n s.ranges in
    let b = length-take s.n s.drops in
    let c = length-take s.n s.sigmas in
    let same = observed_ranges (take s.n s.ranges) (take s.n s.drops) (take s.n s.sigmas) (omega arith) (omega arith) in
    ap (λ (l : List Float). any_outside_of l ds) (e ∙ sym same) ∙ sym (outside_observed (observations_at s) ds)

-- ---- the baseline

pub chi_square_first : (s : Shots) (drops : List Float) → chi_square_of (observations_at s) drops ≡ chi_square_of (observations_at s) (take s.n drops)
unfolding chi_square_of
chi_square_first s drops = sym (fold_take_right with_shot zero64 (observations_at s) drops s.n (at_most s))
