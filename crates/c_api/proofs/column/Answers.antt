-- `column`: the first `i` doubles are laid over zeros.
use mathlib.Core.Path.{refl, ◌∙◌}
use native.Mathlib.Numerals.{add-one}
use native.Mathlib.Omega.{arith}
use lib.ListN.{length-set}
use Rattle.c_api.proofs.Laws.{stride_within, column_suc, column_all}
use Rattle.c_api.proofs.column.Goals as goal

pub loop-i-init : goal.loop-i-init
loop-i-init c = (omega arith, refl, refl)

pub overflow_mul-i : goal.overflow_mul-i
overflow_mul-i c =
    let a = c.args in
    omega (arith, stride_within c.loop-i.i a.n a.stride c.loop-i-test.true)

pub overflow_add-i : goal.overflow_add-i
overflow_add-i c =
    let a = c.args in
    omega (arith, stride_within c.loop-i.i a.n a.stride c.loop-i-test.true)

pub double_at-requires : goal.double_at-requires
double_at-requires c =
    let a = c.args in
    omega (arith, stride_within c.loop-i.i a.n a.stride c.loop-i-test.true)

pub loop-i-preserved : goal.loop-i-preserved
loop-i-preserved c =
    let a = c.args in
    let l = c.loop-i in (
      omega arith,
      rw length-set l.invariant.1,
      rw (add-one, l.invariant.2)
          (column_suc a.stride a.offset a.n a.bytes.now l.i c.double_at.result (omega arith) (omega arith) c.double_at.ensures),
    )

pub returns : goal.returns
returns c =
    let a = c.args in
    let l = c.loop-i in
    l.invariant.2 ∙ column_all a.stride a.offset a.n a.bytes.now l.i (omega arith)
