-- The definition's diagnostics, by what the code reads.
use Rattle.std.proofs.Common.{◌≡◌, ℕ, refl}
use Rattle.definition.specs.Fit.{Fit}
use Rattle.definition.specs.Summary.{Approximation, diagnostics_of}
use Rattle.definition.specs.declared.Evaluation.{Evaluation}
use Rattle.summary.specs.Summary.{diagnostics_by}

pub diagnostics_by_lem : (n : ℕ) (f : Fit) (e : Evaluation) (a : Approximation) → diagnostics_of n f e a ≡ diagnostics_by n f.convergence f.evaluations e a
unfolding diagnostics_of diagnostics_by
diagnostics_by_lem n f e a = refl
