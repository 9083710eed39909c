-- `truing_inverse`: by the test of the output's length and by the inverse's cases.
use Prim.Native.Nat.{ℕ}
use mathlib.Core.Path.{sym, ap, ◌∙◌}
use mathlib.Core.List.{List}
use Rattle.std.specs.Prelude.{Err}
use Rattle.matrix.specs.Matrix.{inverse, non_finite, rank_deficient, says}
use Rattle.matrix.specs.declared.Symmetric2.{Symmetric2}
use Rattle.matrix.specs.declared.InverseError.{InverseError}
use Rattle.c_api.specs.Desk.{inverse_outcome}
use Rattle.c_api.proofs.Laws.{answered, inverse_short, inverse_by}
use Rattle.c_api.proofs.truing_inverse.Goals as goal

pub returns-then-out-lt-INVERSE : goal.returns-then-out-lt-INVERSE
returns-then-out-lt-INVERSE c =
    let a = c.args in
    let s : Symmetric2 = record { a00 = a.a00; a01 = a.a01; a11 = a.a11 } in
    let w = answered (inverse_outcome s a.out.now) (inverse_short s a.out.now c.if-out-lt-INVERSE.true) in
    record { value = w.0; out_after = w.1 }

pub returns-in-Err-NonFiniteInformation : goal.returns-in-Err-NonFiniteInformation
returns-in-Err-NonFiniteInformation c =
    let a = c.args in
    let s : Symmetric2 = record { a00 = a.a00; a01 = a.a01; a11 = a.a11 } in
    let e = c.in-Err-NonFiniteInformation.is ∙ ap (λ (x : InverseError). Err x) c.in-Err-NonFiniteInformation.field-0-is in
    let w = answered (inverse_outcome s a.out.now)
    (inverse_by s a.out.now non_finite c.if-out-lt-INVERSE.false (sym (ap says e) ∙ c.inverse_with_condition.ensures)) in
    record { value = w.0; out_after = w.1 }

pub returns-in-Err-RankDeficientInformation : goal.returns-in-Err-RankDeficientInformation
returns-in-Err-RankDeficientInformation c =
    let a = c.args in
    let s : Symmetric2 = record { a00 = a.a00; a01 = a.a01; a11 = a.a11 } in
    let e = c.in-Err-RankDeficientInformation.is ∙ ap (λ (x : InverseError). Err x) c.in-Err-RankDeficientInformation.field-0-is in
    let w = answered (inverse_outcome s a.out.now)
    (inverse_by s a.out.now rank_deficient c.if-out-lt-INVERSE.false (sym (ap says e) ∙ c.inverse_with_condition.ensures)) in
    record { value = w.0; out_after = w.1 }

pub returns-in-Ok : goal.returns-in-Ok
returns-in-Ok c =
    let a = c.args in
    let s : Symmetric2 = record { a00 = a.a00; a01 = a.a01; a11 = a.a11 } in
    let w = answered (inverse_outcome s a.out.now)
    (inverse_by s a.out.now (inverse c.in-Ok.inverse c.in-Ok.condition) c.if-out-lt-INVERSE.false (sym (ap says c.in-Ok.is) ∙ c.inverse_with_condition.ensures)
    ∙ ap (λ (l : List ℕ). record { code = 0; out = l }) (sym c.put_inverse.ensures)) in
    record { value = w.0; out_after = w.1 }
