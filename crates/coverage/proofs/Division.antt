-- One rounded division of the doubles N and D, both below 2^53, is the double nearest to N / D: the theorem `one_division`. Assumes nothing.
use Rattle.std.proofs.Common.{◌≡◌, ℕ, ◌*◌, ◌^◌, ◌<◌, Bool, true, false, cond, eqb, ℤ, sym, refl, ap, ◌∙◌, subst, lt_of_lt_of_le, lt_irrefl, mul_assoc}
use Rattle.std.proofs.Common.{mul_comm, mul-lt-mul_of_pos_right, mul-pos, mul-one, mul_left_comm, arith, lit<, lit≤, pow_pos, eqb-true}
use borrow.Author.Tests.{eqb-false}
use lib.Ieee.{Float, nan, inf, fin, binary64, low, up, down, round, div, of_int}
use lib.Ieee.Exact.{HasValue, round_exact}
use lib.Ieee.Fits.{up_pos, down_pos}
use lib.Ieee.Scale.{round_same}
use Rattle.coverage.specs.Loading.{OneDivision}

-- a whole number below 2^53 is a double
exact : (n : ℕ) → n < 2 ^ 53 → HasValue (round binary64 false n 1) false n 1
exact n h =
    round_exact binary64 false n 1 n (low binary64) (lit< tt) h
    (lt_of_lt_of_le (mul-lt-mul_of_pos_right h (pow_pos (low binary64))) (lit≤ tt))
    (sym (mul-one (n * 2 ^ low binary64)))

not_zero : (m : ℕ) (e : ℤ) (d : ℕ) → 0 < d → m * up e * 1 ≡ d * down e → m ≡ 0 → ⊥
not_zero m e d D h z = lt_irrefl 0 (subst (λ (x : ℕ). 0 < x) (sym h ∙ ap (λ (x : ℕ). x * up e * 1) z ∙ zeros (up e)) (mul-pos D (down_pos e)))
  where
    zeros : (x : ℕ) → 0 * x * 1 ≡ 0
    zeros x = omega arith

cross : (m u x d n v y e : ℕ) → m * u * 1 ≡ n * x → e * v * 1 ≡ d * y → m * u * y * d ≡ n * (e * v * x)
cross m u x d n v y e g h =
    ap (λ (z : ℕ). z * y * d) (sym (mul-one (m * u)) ∙ g)
    ∙ shuffle n x y d
    ∙ ap (λ (z : ℕ). n * (z * x)) (sym h ∙ mul-one (e * v))
  where
    shuffle : (n x y d : ℕ) → n * x * y * d ≡ n * (d * y * x)
    shuffle n x y d = simp (mul_assoc, mul_comm, mul_left_comm)

quotient : (x y : Float) (n d : ℕ) → 0 < d → HasValue x false n 1 → HasValue y false d 1 → div binary64 x y ≡ round binary64 false n d
unfolding div
quotient nan y n d D g h = absurd g
quotient (inf s) y n d D g h = absurd g
quotient (fin s m e) nan n d D g h = absurd h
quotient (fin s m e) (inf t) n d D g h = absurd h
quotient (fin true m e) (fin t k f) n d D g h = absurd (not-true g.0)
  where
    not-true : true ≡ false → ⊥
    not-true p = subst (λ (b : Bool). cond b (Unit {0}) ⊥) p tt
quotient (fin false m e) (fin true k f) n d D g h = absurd (not-true h.0)
  where
    not-true : true ≡ false → ⊥
    not-true p = subst (λ (b : Bool). cond b (Unit {0}) ⊥) p tt
quotient (fin false m e) (fin false k f) n d D g h = by (eqb k 0) refl
  where
    by : (b : Bool) → eqb k 0 ≡ b
        → cond b (cond (eqb m 0) nan (inf false)) (round binary64 false (m * up e * down f) (k * up f * down e)) ≡ round binary64 false n d
    by true p = absurd (not_zero k f d D h.1 (eqb-true k 0 p))
    by false p =
        round_same binary64 false (m * up e * down f) (k * up f * down e) n d (bottom k p) D (cross m (up e) (down e) d n (up f) (down f) k g.1 h.1)
      where
        bottom : (k : ℕ) → eqb k 0 ≡ false → 0 < k * up f * down e
        bottom k p = mul-pos (mul-pos (omega (arith, eqb-false k 0 p)) (up_pos f)) (down_pos e)

pub one_division : OneDivision
unfolding of_int
one_division n d N P D = quotient (round binary64 false n 1) (round binary64 false d 1) n d P (exact n N) (exact d D)
