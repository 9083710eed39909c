-- What an edit changes in a report: `only_band`. The bands are a map over the requested distances, and one warning alone looks at them. Assumes nothing.
use Prim.Native.Nat.{◌-◌}
use mathlib.Core.Path.{◌≡◌, refl, sym, ap, ◌∙◌, subst₂}
use mathlib.Core.Bool.{Bool}
use mathlib.Core.List.{List, map, map-map}
use lib.ListN.{length, set}
use lib.Seq.{map-set}
use lib.Ieee.{Float}
use Rattle.definition.specs.Lists.{insert_at, remove_at, zip_with}
use Rattle.definition.specs.Request.{Requested, Opening}
use Rattle.definition.specs.Likelihood.{Rows, row_of, rows_of, evaluation_of}
use Rattle.definition.specs.Fit.{Fit}
use Rattle.definition.specs.Summary.{converged, Approximation, approximation_of, diagnostics_of, BandWith, Band, band_of}
use Rattle.definition.specs.Summary.{warned_by, ReportWith, Finished, report_with}
use Rattle.definition.proofs.Warnings.{outside_alone}
use Rattle.definition.specs.Whole.{Edit, put_in, take_out, exchange, edited}
use Rattle.definition.specs.declared.Point.{Point}
use Rattle.definition.specs.declared.Row.{Row}
use Rattle.fresh_outcome.specs.Solver.{Solver, distances_of, BandEdited, BandAlone, OnlyBand}
use Rattle.fresh_outcome.proofs.Lists.{zip_map, zip3_maps, map_insert, map_remove}
use Rattle.fresh_outcome.proofs.Rows.{drop_at, mv_slope_at, bc_slope_at, rows_with}
use Rattle.fresh_outcome.proofs.Runs.{finished_at, came, again_ends}

-- ---- the bands are a map over the requested distances

module _ {I : Type 0} (tell : Band → BandWith I) (kept : (b : Band) → (tell b).range ≡ b.range) (σ : Solver) (a : Approximation) (p : Point) where
  abbrev row_at : Float → Row
  row_at d = row_of (drop_at σ p d) (mv_slope_at σ p d) (bc_slope_at σ p d)

  abbrev told_at : Requested → Row → BandWith I
  told_at d r = tell (band_of a d r)

  abbrev band_at : Requested → BandWith I
  band_at d = told_at d (row_at d.range_yd)

  abbrev bands_of : List Requested → List (BandWith I)
  bands_of l = zip_with told_at l (rows_of (rows_with σ p (distances_of l) 0))

  bands_over : (l : List Requested) → bands_of l ≡ map band_at l
  bands_over l =
      ap (zip_with told_at l) (zip3_maps row_of (drop_at σ p) (mv_slope_at σ p) (bc_slope_at σ p) (distances_of l) ∙ map-map row_at (λ d. d.range_yd) l)
      ∙ zip_map told_at (λ d. row_at d.range_yd) l

  range_at : (d : Requested) → (band_at d).range ≡ d.range_yd
  unfolding band_of
  range_at d = kept (band_of a d (row_at d.range_yd))

  bands_edited : (l : List Requested) (e : Edit) → BandEdited e (bands_of l) (bands_of (edited e l))
  bands_edited l (put_in i d) =
      (band_at d, range_at d, bands_over (insert_at (i - 1) d l) ∙ map_insert band_at d l (i - 1) ∙ ap (insert_at (i - 1) (band_at d)) (sym (bands_over l)))
  bands_edited l (take_out i) = bands_over (remove_at (i - 1) l) ∙ map_remove band_at l (i - 1) ∙ ap (remove_at (i - 1)) (sym (bands_over l))
  bands_edited l (exchange i d) =
      (band_at d, range_at d, bands_over (set l (i - 1) d) ∙ map-set band_at l (i - 1) d ∙ ap (λ (bs : List (BandWith I)). set bs (i - 1) (band_at d)) (sym (bands_over l)))

-- ---- the warnings

-- ---- the theorem

module _
    {A I : Type 0} (approximation : Approximation → A) (tell : Band → BandWith I) (kept : (b : Band) → (tell b).range ≡ b.range)
    (crosses : Approximation → Bool) where
  abbrev told : Finished → ReportWith A I
  told c = report_with approximation tell (warned_by crosses) c

  alone : (σ : Solver) (o : Opening) (l : List Requested) (f : Fit) (rows : Rows) (e : Edit)
      → BandAlone e (told (finished_at σ o l f rows)) (told (finished_at σ o (edited e l) f rows))
  alone σ o l f rows e =
      let x = evaluation_of o.measured f.point rows in
      let a = approximation_of (converged f.convergence) f.point x.posterior_information in
      record {
        schema_version = refl;
        point = refl;
        iterations = refl;
        is_converged = refl;
        priors = refl;
        observations = refl;
        baseline = refl;
        diagnostics = refl;
        approximation = refl;
        bands = bands_edited tell kept σ a f.point l e;
        warnings = outside_alone (crosses a) o.measured f x a (diagnostics_of (length o.measured.observations) f x a) l (edited e l);
      }

pub only_band : OnlyBand
only_band σ o l c d e w p v A I approximation tell kept crosses =
    let x = came σ o l c w in
    subst₂ (λ (a b : Finished). BandAlone e (told approximation tell kept crosses a) (told approximation tell kept crosses b)) (sym x.is)
    (sym (again_ends σ o l c x (edited e l) d v))
    (alone approximation tell kept crosses σ o l x.fit x.rows e)
