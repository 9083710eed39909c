-- `fly` meets its contract, one step of the flight a turn. Assumes nothing.
use Rattle.std.proofs.Common.{ℕ, ◌-◌, suc, arith, sym, ap, ◌∙◌, Some}
use Rattle.point_mass.specs.Flight.{flight}
use Rattle.point_mass.proofs.Turns.{too_slow, arrives, flies_on}
use Rattle.point_mass.proofs.fly.Goals as goal

pub loop-init : goal.loop-init
loop-init c = record { left = λ n h. ap (λ (m : ℕ). flight m c.args.k c.args.x c.args.start) (omega (arith, h)) }

pub returns-then-s : goal.returns-then-s
returns-then-s c =
    let n = 4095 - c.loop.counter in
    sym (too_slow n c.args.k c.args.x c.loop.s c.loop.s c.if-s.true) ∙ c.loop.invariant.left (suc n) (omega (arith, c.loop-test.true))

pub returns-then-t-x : goal.returns-then-t-x
returns-then-t-x c =
    let n = 4095 - c.loop.counter in
    ap Some c.on_line.ensures
    ∙ sym (arrives n c.args.k c.args.x c.loop.s c.step-t.result c.step-t.ensures c.if-s.false c.if-t-x.true)
    ∙ c.loop.invariant.left (suc n) (omega (arith, c.loop-test.true))

pub loop-preserved : goal.loop-preserved
loop-preserved c = record {
  left = λ n h.
      sym (flies_on n c.args.k c.args.x c.loop.s c.step-t.result c.step-t.ensures c.if-s.false c.if-t-x.false)
      ∙ c.loop.invariant.left (suc n) (omega (arith, h));
}

pub returns : goal.returns
unfolding flight
returns c = c.loop.invariant.left 0 (omega (arith, c.loop-test.false, c.loop.auto.counter-end))
