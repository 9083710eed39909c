-- The example of specs/Example.antt, by computation.
use Prim.Native.Nat.{ℕ}
use mathlib.Core.Path.{refl, ◌∙◌}
use mathlib.Core.List.{map}
use lib.Ieee.{round, add, sub, mul, div, lt, le, is_nan, of_bits}
use Rattle.numeric.specs.Numeric.{within_of, finite, abs_of, max_of}
use Rattle.definition.specs.Fit.{gradient_norm_of, flat_of, evaluated, iterate, fit_map}
use Rattle.definition.specs.Likelihood.{chi_square_of, with_prior_of, with_priors_of, valued, objective, mv_step_of, bc_step_of, mv_plus_at, mv_minus_at, bc_plus_at, bc_minus_at}
use Rattle.definition.specs.Likelihood.{bc_minus, bc_plus, mv_minus, mv_plus, truing_jacobian_rows, complete, accumulate_of, sums_of, with_prior_gradient_of, from_sums}
use Rattle.definition.specs.Likelihood.{evaluate}
use Rattle.definition.specs.Whole.{positive_of, sound_observation_of, sound_prior_of, sound_requested_of, checked_point, checked_count, checked_measured}
use Rattle.definition.specs.Whole.{checked_requested, band_rows, baseline, concluded, banded, fitted, run, whole, edit_questions, edit}
use Rattle.fresh_outcome.specs.Solver.{fresh}
use Rattle.demands.specs.Example.{solver, opening, call_of, all, Example, ExampleMet}
use Rattle.demands.proofs.Demands.{as_due}

-- To unfold one of these is to unfold what its line names: every definition that the run and its edits are computed by.

doubles : ℕ
unfolding round add sub mul div lt le is_nan of_bits finite abs_of max_of
doubles = 0

fits : ℕ
unfolding chi_square_of with_prior_of with_priors_of valued objective mv_step_of bc_step_of mv_plus_at mv_minus_at bc_plus_at bc_minus_at bc_minus bc_plus mv_minus mv_plus truing_jacobian_rows complete accumulate_of sums_of with_prior_gradient_of from_sums evaluate gradient_norm_of flat_of evaluated iterate fit_map
fits = 0

runs : ℕ
unfolding within_of positive_of sound_observation_of sound_prior_of sound_requested_of checked_point checked_count checked_measured checked_requested band_rows baseline concluded banded fitted run whole edit_questions edit fresh
runs = 0

-- for a long list of pairs
infixr 50 ◌then◌
abbrev ◌then◌ : {A B : Type 0} → A → B → A × B
a then b = (a, b)

-- `from_solver`: a declined call and an edit owe nothing, and every other reply is the solver's, as computed
pub example : Example
unfolding doubles fits runs
example = record {
  answers = refl;
  from_solver =
      refl then tt then refl then refl then tt then refl then refl then refl
      then refl then refl then refl then refl then refl
      then refl then refl then refl then refl then refl
      then refl then tt then tt then tt
      then tt then refl then refl then refl then refl then refl
      then tt then refl then tt then refl then refl then refl then refl
      then tt
      then tt;
  after_run = refl;
  after_refused = refl;
  after_taken_lem = refl;
  after_all = refl;
  fresh_refused = refl;
  fresh_taken = refl;
  fresh_all = refl;
}

pub example_met : ExampleMet
example_met a m cs ch e =
    let r = as_due solver opening a m cs ch (map call_of all) e example.from_solver in
    (r.0 ∙ example.answers, r.1)
