-- A double reads back as what was written, wherever it was put; and figures of its bytes, computed. Assumes nothing.
use Prim.Native.Nat.{ℕ, zero, suc, ◌+◌, ◌/◌, ◌^◌, ◌≤◌, ◌<◌}
use mathlib.Core.Path.{◌≡◌, refl, ap, ◌∙◌}
use mathlib.Core.List.{List, [], ◌∷◌}
use native.Mathlib.Nat.{div-lt_iff_lt-mul, pow-zero, pow-suc}
use native.Mathlib.Omega.{arith}
use lib.Dec.{T}
use lib.ListN.{length, take, drop}
use lib.Ieee.{Float, nan, binary64, fits, of_bits, to_bits}
use lib.Ieee.Bits.{of_bits-to_bits, to_bits-lt}
use Rattle.likelihood.proofs.Laws.{over_take}
use Rattle.c_api.specs.Desk.{little_endian, number_at, double_at, lowest, bytes_of, double_bytes, put_at}

number_back : (k p : ℕ) → p < 256 ^ k → little_endian (lowest k p) ≡ p
number_back zero p h = omega (arith, pow-zero 256)
number_back (suc k) p h = rw (number_back k (p / 256) ((div-lt_iff_lt-mul {k = 256} {x = p} {y = 256 ^ k} (omega arith)).1 (rw pow-suc at h))) (omega arith)

put_there : (i n : ℕ) (bytes xs : List ℕ) → length bytes ≡ n → i + n ≤ length xs → take n (drop i (put_at i bytes xs)) ≡ bytes
put_there zero n bytes xs e h = over_take bytes xs n e (omega arith)
put_there (suc i) n bytes [] e h = absurd (omega arith)
put_there (suc i) n bytes (x ∷ xs) e h = put_there i n bytes xs e (omega arith)

pub double_back : (x : Float) (i : ℕ) (xs : List ℕ) → T (fits binary64 x) → i + 8 ≤ length xs → double_at i (put_at i (double_bytes x) xs) ≡ x
unfolding number_at bytes_of
double_back x i xs f h =
    ap (λ (l : List ℕ). of_bits binary64 (little_endian l)) (put_there i 8 (lowest 8 (to_bits binary64 x)) xs refl h)
    ∙ ap (of_bits binary64) (number_back 8 (to_bits binary64 x) (to_bits-lt binary64 x f))
    ∙ of_bits-to_bits binary64 x f

one_bytes : bytes_of 0x3ff0_0000_0000_0000 ≡ 0 ∷ 0 ∷ 0 ∷ 0 ∷ 0 ∷ 0 ∷ 0xf0 ∷ 0x3f ∷ []
unfolding bytes_of
one_bytes = refl

nan_bytes : double_bytes nan ≡ 0 ∷ 0 ∷ 0 ∷ 0 ∷ 0 ∷ 0 ∷ 0xf8 ∷ 0x7f ∷ []
unfolding bytes_of to_bits
nan_bytes = refl
