-- `RowColumns::get` gives the one at a place: that of each column, as far as they go. Assumes nothing.
use Rattle.std.proofs.Common.{◌∙◌, sym, refl, arith}
use Rattle.std.proofs.lemmas.Option.{slice_get_read}
use Rattle.definition.specs.Likelihood.{row_of}
use Rattle.likelihood.proofs.Laws.{zip3_get, zip3_past}
use Rattle.likelihood.proofs.RowColumns.get.Goals as goal

pub returns-in_err-predicted_drop : goal.returns-in_err-predicted_drop
returns-in_err-predicted_drop c =
    let s = c.args.self in
    let h = c.in_err-predicted_drop.ensures.lookup.3 in
    c.from_residual.ensures ∙ sym (zip3_past row_of s.predicted.now s.by_mv.now s.by_bc.now c.args.i (omega arith))

pub returns-in_err-d_drop_d_mv : goal.returns-in_err-d_drop_d_mv
returns-in_err-d_drop_d_mv c =
    let s = c.args.self in
    let h = c.in_err-d_drop_d_mv.ensures.lookup.3 in
    c.from_residual-in_err-d_drop_d_mv.ensures ∙ sym (zip3_past row_of s.predicted.now s.by_mv.now s.by_bc.now c.args.i (omega arith))

pub returns-in_err-d_drop_d_bc : goal.returns-in_err-d_drop_d_bc
returns-in_err-d_drop_d_bc c =
    let s = c.args.self in
    let h = c.in_err-d_drop_d_bc.ensures.lookup.3 in
    c.from_residual-in_err-d_drop_d_bc.ensures ∙ sym (zip3_past row_of s.predicted.now s.by_mv.now s.by_bc.now c.args.i (omega arith))

pub returns : goal.returns
returns c =
    let s = c.args.self in
    let p = c.in_ok-predicted_drop.ensures.lookup in
    let q = c.in_ok-d_drop_d_mv.ensures.lookup in
    let r = c.in_ok-d_drop_d_bc.ensures.lookup in
    sym (zip3_get row_of s.predicted.now s.by_mv.now s.by_bc.now c.args.i c.in_ok-predicted_drop.field-0.now c.in_ok-d_drop_d_mv.field-0.now c.in_ok-d_drop_d_bc.field-0.now
    (slice_get_read s.predicted.now _ _ _ refl p.3.0 p.1) (slice_get_read s.by_mv.now _ _ _ refl q.3.0 q.1) (slice_get_read s.by_bc.now _ _ _ refl r.3.0 r.1))
