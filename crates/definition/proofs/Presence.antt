-- When a report has the approximation: `presence`. Assumes nothing.
use Rattle.std.specs.Prelude.{Option, None, Some}
use Prim.Native.Nat.{ℕ}
use mathlib.Core.Path.{◌≡◌, refl}
use mathlib.Core.Bool.{Bool, true, false, cond}
use native.Mathlib.Omega.{arith}
use lib.Ieee.{Float}
use Rattle.numeric.specs.Numeric.{finite}
use Rattle.matrix.specs.Matrix.{Inverted, inverse, non_finite, rank_deficient, inverse_of}
use Rattle.matrix.specs.declared.Symmetric2.{Symmetric2}
use Rattle.interval.specs.declared.GaussianIntervalV1.{GaussianIntervalV1}
use Rattle.criteria.specs.Criteria.{at_bound_of}
use Rattle.definition.specs.Summary.{interval95, Approximation, available, unavailable, covariance_of, correlation_of, with_intervals, with_inverse}
use Rattle.definition.specs.Summary.{build_approximation_of, approximation_of}
use Rattle.definition.specs.Laws.{IsAvailable, Exist, Presence}
use Rattle.definition.specs.declared.Point.{Point}
use Rattle.definition.specs.declared.TruingApproximationFailureCodeV1.{TruingApproximationFailureCodeV1}

withheld : {A : Type 0} (code : TruingApproximationFailureCodeV1) → IsAvailable (unavailable code) → A
withheld code h =
    let e : unavailable code ≡ available h.0 h.1 = h.2 in
    let z : ◌≡◌ {A = ℕ} 0 1 = cc in
    absurd (omega arith)

module _ (verified : Bool) (p : Point) (s : Symmetric2) (v : verified ≡ true) (at : at_bound_of p.mv p.bc ≡ false) where
  there_is : (q : Symmetric2) (k : Float) → inverse_of s ≡ inverse q k → (mv bc : Option GaussianIntervalV1)
      → interval95 p.mv (covariance_of q).mv_variance_fps2 ≡ mv → interval95 p.bc (covariance_of q).bc_variance ≡ bc
      → IsAvailable (with_intervals q k mv bc) → Exist verified p s
  there_is q k i None bc e f h = withheld _ h
  there_is q k i (Some mv) None e f h = withheld _ h
  there_is q k i (Some mv) (Some bc) e f h = go (finite (correlation_of (covariance_of q))) refl _ _ h
    where
      go : (b : Bool) → finite (correlation_of (covariance_of q)) ≡ b → (a : Approximation) (code : TruingApproximationFailureCodeV1)
          → IsAvailable (cond b a (unavailable code)) → Exist verified p s
      go true r a code h =
          record {
            converged = v;
            apart = at;
            covariance = q;
            condition = k;
            inverted = i;
            mv_interval = mv;
            mv_exists = e;
            bc_interval = bc;
            bc_exists = f;
            correlated = r;
          }
      go false r a code h = withheld code h

  inverse_is : (i : Inverted) → inverse_of s ≡ i → IsAvailable (with_inverse p i) → Exist verified p s
  inverse_is non_finite e h = withheld _ h
  inverse_is rank_deficient e h = withheld _ h
  inverse_is (inverse q k) e h = there_is q k e _ _ refl refl h

module _ (p : Point) (s : Symmetric2) where
  apart_is : (b : Bool) → at_bound_of p.mv p.bc ≡ b → (code : TruingApproximationFailureCodeV1)
      → IsAvailable (cond b (unavailable code) (with_inverse p (inverse_of s)))
      → Exist true p s
  apart_is true e code h = withheld _ h
  apart_is false e code h = inverse_is true p s refl e (inverse_of s) refl h

  to_exist : (verified : Bool) → IsAvailable (approximation_of verified p s) → Exist verified p s
  unfolding approximation_of build_approximation_of
  to_exist false h = withheld _ h
  to_exist true h = apart_is (at_bound_of p.mv p.bc) refl _ h

  from_exist : (verified : Bool) → Exist verified p s → IsAvailable (approximation_of verified p s)
  unfolding approximation_of build_approximation_of
  from_exist verified h =
      let c = h.converged in
      let a = h.apart in
      let i = h.inverted in
      let m = h.mv_exists in
      let b = h.bc_exists in
      let r = h.correlated in
      simp (c, a, i, m, b, r) (_, _, refl)

pub presence : Presence
presence verified p s = (to_exist p s verified, from_exist p s verified)
