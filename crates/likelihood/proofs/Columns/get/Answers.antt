-- `Columns::get` gives the one at a place: that of each column, as far as they go. Assumes nothing.
use Rattle.std.proofs.Common.{◌∙◌, sym, refl, arith}
use Rattle.std.proofs.lemmas.Option.{slice_get_read}
use Rattle.definition.specs.Meaning.{observation_of}
use Rattle.likelihood.proofs.Laws.{zip3_get, zip3_past}
use Rattle.likelihood.proofs.Columns.get.Goals as goal

pub returns-in_err-range_yd : goal.returns-in_err-range_yd
returns-in_err-range_yd c =
    let s = c.args.self in
    let h = c.in_err-range_yd.ensures.lookup.3 in
    c.from_residual.ensures ∙ sym (zip3_past observation_of s.ranges.now s.drops.now s.sigmas.now c.args.i (omega arith))

pub returns-in_err-drop : goal.returns-in_err-drop
returns-in_err-drop c =
    let s = c.args.self in
    let h = c.in_err-drop.ensures.lookup.3 in
    c.from_residual-in_err-drop.ensures ∙ sym (zip3_past observation_of s.ranges.now s.drops.now s.sigmas.now c.args.i (omega arith))

pub returns-in_err-sigma : goal.returns-in_err-sigma
returns-in_err-sigma c =
    let s = c.args.self in
    let h = c.in_err-sigma.ensures.lookup.3 in
    c.from_residual-in_err-sigma.ensures ∙ sym (zip3_past observation_of s.ranges.now s.drops.now s.sigmas.now c.args.i (omega arith))

pub returns : goal.returns
returns c =
    let s = c.args.self in
    let p = c.in_ok-range_yd.ensures.lookup in
    let q = c.in_ok-drop.ensures.lookup in
    let r = c.in_ok-sigma.ensures.lookup in
    sym (zip3_get observation_of s.ranges.now s.drops.now s.sigmas.now c.args.i c.in_ok-range_yd.field-0.now c.in_ok-drop.field-0.now c.in_ok-sigma.field-0.now
    (slice_get_read s.ranges.now _ _ _ refl p.3.0 p.1) (slice_get_read s.drops.now _ _ _ refl q.3.0 q.1) (slice_get_read s.sigmas.now _ _ _ refl r.3.0 r.1))
