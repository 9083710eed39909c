-- Laws of doubles in bytes: read alone, read as a column, and laid over a list. Assumes nothing.
use Prim.Native.Nat.{ℕ, zero, suc, ◌+◌, ◌*◌, ◌/◌, ◌%◌, ◌≤◌, ◌<◌}
use mathlib.Core.Path.{◌≡◌, refl, sym, ap, ◌∙◌}
use mathlib.Core.Bool.{Bool, true, false, not, ◌||◌, true≢false}
use mathlib.Core.List.{List, [], ◌∷◌, ◌++◌, append_assoc}
use native.Mathlib.Nat.{not-suc-le-zero, le_of_suc-le-suc, add-zero, zero-add, suc-mul, mul-le-mul_right, div-mul-le_self, div-div-eq-div-mul}
use native.Mathlib.Omega.{arith}
use borrow.Author.Tests.{eq-eqb, ne_eqb, lt-ltb, le-ltb, ltb-false}
use lib.Dec.{eqb, ltb}
use lib.ListN.{length, take, drop, get_or, set, replicate, length-take, length-drop, length-append}
use lib.Ieee.{Float, nan}
use Rattle.std.specs.Int.{w64, from_le_bytes, to_le_bytes}
use Rattle.numeric.specs.Numeric.{zero64}
use Rattle.slices.specs.Slices.{laid_over}
use Rattle.likelihood.proofs.Laws.{over_suc, over_all, over_take}
use Rattle.matrix.specs.Matrix.{Inverted, inverse_of}
use Rattle.matrix.specs.declared.Symmetric2.{Symmetric2}
use Rattle.definition.specs.Likelihood.{chi_square_of, with_priors_of}
use Rattle.definition.specs.Meaning.{observations_of}
use Rattle.definition.specs.declared.Point.{Point}
use Rattle.definition.specs.declared.TruingPriorsV1.{TruingPriorsV1}
use Rattle.c_api.specs.Desk.{little_endian, number_at, double_at, column_of, bytes_of, double_bytes, put_at, Outcome, sum_of, sum_outcome, inverted_outcome}
use Rattle.c_api.specs.Desk.{inverse_outcome}

-- ---- reading

-- the standard library's number of 8 bytes
le_8 : (l : List ℕ) → length l ≡ 8 → from_le_bytes w64 l ≡ little_endian l
le_8 [] h = absurd (omega arith)
le_8 (b0 ∷ []) h = absurd (omega arith)
le_8 (b0 ∷ b1 ∷ []) h = absurd (omega arith)
le_8 (b0 ∷ b1 ∷ b2 ∷ []) h = absurd (omega arith)
le_8 (b0 ∷ b1 ∷ b2 ∷ b3 ∷ []) h = absurd (omega arith)
le_8 (b0 ∷ b1 ∷ b2 ∷ b3 ∷ b4 ∷ []) h = absurd (omega arith)
le_8 (b0 ∷ b1 ∷ b2 ∷ b3 ∷ b4 ∷ b5 ∷ []) h = absurd (omega arith)
le_8 (b0 ∷ b1 ∷ b2 ∷ b3 ∷ b4 ∷ b5 ∷ b6 ∷ []) h = absurd (omega arith)
le_8 (b0 ∷ b1 ∷ b2 ∷ b3 ∷ b4 ∷ b5 ∷ b6 ∷ b7 ∷ []) h = omega arith
le_8 (b0 ∷ b1 ∷ b2 ∷ b3 ∷ b4 ∷ b5 ∷ b6 ∷ b7 ∷ b8 ∷ l) h = absurd (omega arith)

-- of the 8 from an index on
pub number_le : (bytes : List ℕ) (i : ℕ) → i + 8 ≤ length bytes → from_le_bytes w64 (take 8 (drop i bytes)) ≡ number_at i bytes
unfolding number_at
number_le bytes i h = le_8 (take 8 (drop i bytes)) (omega (arith, length-take 8 (drop i bytes), length-drop i bytes))

-- the end of a stride of n
pub stride_within : (i n stride : ℕ) → i < n → i * stride + stride ≤ n * stride
stride_within i n stride h = omega (arith, suc-mul i stride, mul-le-mul_right {m = suc i} {n = n} stride h)

module _ (stride : ℕ) where
  pub column_length : (offset n : ℕ) (bytes : List ℕ) → length (column_of stride offset n bytes) ≡ n
  column_length offset zero bytes = refl
  column_length offset (suc n) bytes = ap suc (column_length (stride + offset) n bytes)

  pub column_at : (offset n : ℕ) (bytes : List ℕ) (i : ℕ) (d : Float) → i < n → get_or (column_of stride offset n bytes) i d ≡ double_at (i * stride + offset) bytes
  column_at offset zero bytes i d h = absurd (not-suc-le-zero h)
  column_at offset (suc n) bytes zero d h = ap (λ (k : ℕ). double_at k bytes) (omega arith)
  column_at offset (suc n) bytes (suc i) d h =
      column_at (stride + offset) n bytes i d (le_of_suc-le-suc h) ∙ ap (λ (k : ℕ). double_at k bytes) (omega (arith, suc-mul i stride))

  -- one place more
  pub column_suc : (offset n : ℕ) (bytes : List ℕ) (i : ℕ) (x : Float) → i < n → n ≤ 64 → x ≡ double_at (i * stride + offset) bytes
      → set (laid_over (take i (column_of stride offset n bytes)) (replicate 64 zero64)) i x
      ≡ laid_over (take (suc i) (column_of stride offset n bytes)) (replicate 64 zero64)
  column_suc offset n bytes i x g h e =
      let l = column_length offset n bytes in
      ap (λ (y : Float). set (laid_over (take i (column_of stride offset n bytes)) (replicate 64 zero64)) i y) (e ∙ sym (column_at offset n bytes i nan g))
      ∙ over_suc (column_of stride offset n bytes) (replicate 64 zero64) i nan (omega arith) (omega arith)

  pub column_all : (offset n : ℕ) (bytes : List ℕ) (i : ℕ) → n ≤ i
      → laid_over (take i (column_of stride offset n bytes)) (replicate 64 zero64) ≡ laid_over (column_of stride offset n bytes) (replicate 64 zero64)
  column_all offset n bytes i h =
      let l = column_length offset n bytes in
      over_all (column_of stride offset n bytes) (replicate 64 zero64) i (omega arith)

  -- the places in use
  pub column_take :
      (offset n : ℕ) (bytes : List ℕ) → n ≤ 64 → take n (laid_over (column_of stride offset n bytes) (replicate 64 zero64)) ≡ column_of stride offset n bytes
  column_take offset n bytes h = over_take (column_of stride offset n bytes) (replicate 64 zero64) n (column_length offset n bytes) (omega arith)

-- ---- writing

pub put_none : (i : ℕ) (xs : List ℕ) → put_at i [] xs ≡ xs
put_none zero xs = refl
put_none (suc i) [] = refl
put_none (suc i) (x ∷ xs) = ap (λ (r : List ℕ). x ∷ r) (put_none i xs)

-- the first byte, and then the others
pub put_one : (i b : ℕ) (bytes xs : List ℕ) → put_at i (b ∷ bytes) xs ≡ put_at (suc i) bytes (set xs i b)
put_one zero b bytes [] = refl
put_one zero b bytes (x ∷ xs) = refl
put_one (suc i) b bytes [] = refl
put_one (suc i) b bytes (x ∷ xs) = ap (λ (r : List ℕ). x ∷ r) (put_one i b bytes xs)

over_front : (bytes xs : List ℕ) → length bytes ≤ length xs → laid_over bytes xs ≡ bytes ++ drop (length bytes) xs
over_front [] xs h = refl
over_front (b ∷ bytes) [] h = absurd (not-suc-le-zero h)
over_front (b ∷ bytes) (x ∷ xs) h = ap (λ (r : List ℕ). b ∷ r) (over_front bytes xs (le_of_suc-le-suc h))

-- n bytes, as a part of a slice is written
pub put_part : (i n : ℕ) (bytes xs : List ℕ) → length bytes ≡ n → i + n ≤ length xs → put_at i bytes xs ≡ take i xs ++ (bytes ++ drop n (drop i xs))
put_part zero n bytes xs e h = over_front bytes xs (omega arith) ∙ ap (λ (k : ℕ). bytes ++ drop k xs) e
put_part (suc i) n bytes [] e h = absurd (omega arith)
put_part (suc i) n bytes (x ∷ xs) e h = ap (λ (r : List ℕ). x ∷ r) (put_part i n bytes xs e (omega arith))

move : (i k : ℕ) → i + suc k ≡ suc i + k
move i k = omega arith

-- one after the other
pub put_put : (i : ℕ) (before bytes xs : List ℕ) → put_at (i + length before) bytes (put_at i before xs) ≡ put_at i (before ++ bytes) xs
put_put i [] bytes xs = rw (add-zero i) (ap (put_at i bytes) (put_none i xs))
put_put i (a ∷ before) bytes xs =
    ap (put_at (i + suc (length before)) bytes) (put_one i a before xs)
    ∙ ap (λ (k : ℕ). put_at k bytes (put_at (suc i) before (set xs i a))) (move i (length before))
    ∙ put_put (suc i) before bytes (set xs i a)
    ∙ sym (put_one i a (before ++ bytes) xs)

pub double_length : (x : Float) → length (double_bytes x) ≡ 8
unfolding bytes_of
double_length x = refl

-- the standard library's 8 bytes of a number
pub bytes_le : (p : ℕ) → to_le_bytes w64 p ≡ bytes_of p
unfolding bytes_of
bytes_le p = simp div-div-eq-div-mul

put_after : (j : ℕ) (before bytes xs : List ℕ) → length before ≡ j → put_at j bytes (put_at 0 before xs) ≡ put_at 0 (before ++ bytes) xs
put_after j before bytes xs e = ap (λ (k : ℕ). put_at k bytes (put_at 0 before xs)) (sym e ∙ sym (zero-add (length before))) ∙ put_put 0 before bytes xs

grouped : (a b d e : List ℕ) → ((a ++ b) ++ d) ++ e ≡ a ++ b ++ d ++ e
grouped a b d e = simp append_assoc

-- four doubles, one by one
pub put_4 : (a b d e : Float) (out0 out1 out2 out3 out4 : List ℕ) → out1 ≡ put_at 0 (double_bytes a) out0 → out2 ≡ put_at 8 (double_bytes b) out1
    → out3 ≡ put_at 16 (double_bytes d) out2 → out4 ≡ put_at 24 (double_bytes e) out3
    → out4 ≡ put_at 0 (double_bytes a ++ double_bytes b ++ double_bytes d ++ double_bytes e) out0
put_4 a b d e out0 out1 out2 out3 out4 h1 h2 h3 h4 =
    let x = double_bytes a in
    let y = double_bytes b in
    let z = double_bytes d in
    let l8 = double_length a in
    let l16 : length (x ++ y) ≡ 16 = omega (arith, length-append x y, double_length b) in
    let l24 : length ((x ++ y) ++ z) ≡ 24 = omega (arith, length-append (x ++ y) z, double_length d) in
    let e2 : out2 ≡ put_at 0 (x ++ y) out0 = h2 ∙ ap (put_at 8 y) h1 ∙ put_after 8 x y out0 l8 in
    let e3 : out3 ≡ put_at 0 ((x ++ y) ++ z) out0 = h3 ∙ ap (put_at 16 z) e2 ∙ put_after 16 (x ++ y) z out0 l16 in
    h4
    ∙ ap (put_at 24 (double_bytes e)) e3
    ∙ put_after 24 ((x ++ y) ++ z) (double_bytes e) out0 l24
    ∙ ap (λ (l : List ℕ). put_at 0 l out0) (grouped x y z (double_bytes e))

-- ---- the outcomes, by the tests

-- what a contract says of an outcome
pub answered : {r : ℕ} {after : List ℕ} (o : Outcome) → o ≡ record { code = r; out = after } → (r ≡ o.code) × (after ≡ o.out)
answered o e = (sym (ap (λ (q : Outcome). q.code) e), sym (ap (λ (q : Outcome). q.out) e))

or_right : (a b : Bool) → (a || b) ≡ false → b ≡ false
or_right true b h = absurd (true≢false h)
or_right false b h = h

-- by the columns
pub sum_by : (q : TruingPriorsV1) (p : Point) (n : ℕ) (observations replies : List ℕ) (ranges drops sigmas predicted : List Float)
    → ranges ≡ column_of 24 0 n observations → drops ≡ column_of 24 8 n observations → sigmas ≡ column_of 24 16 n observations → predicted ≡ column_of 8 0 n replies
    → with_priors_of q p (chi_square_of (observations_of ranges drops sigmas) predicted) ≡ sum_of q p n observations replies
unfolding sum_of
sum_by q p n observations replies ranges drops sigmas predicted e1 e2 e3 e4 = rw (e1, e2, e3, e4)

module _ (q : TruingPriorsV1) (p : Point) (observations replies out : List ℕ) where
  pub sum_1 : (not (eqb (length observations % 24) 0) || ltb 64 (length observations / 24)) ≡ true
      → sum_outcome q p observations replies out ≡ record { code = 1; out = out }
  unfolding sum_outcome
  sum_1 h = rw h

  module _ (whole : (not (eqb (length observations % 24) 0) || ltb 64 (length observations / 24)) ≡ false) where
    pub sum_2 : (length replies ≡ 8 * (length observations / 24) → ⊥) → sum_outcome q p observations replies out ≡ record { code = 2; out = out }
    unfolding sum_outcome
    sum_2 h = rw (whole, ne_eqb (length replies) (8 * (length observations / 24)) h)

    module _ (many : length replies ≡ 8 * (length observations / 24)) where
      pub sum_3 : length out < 8 → sum_outcome q p observations replies out ≡ record { code = 3; out = out }
      unfolding sum_outcome
      sum_3 h = rw (whole, eq-eqb (length replies) (8 * (length observations / 24)) many, lt-ltb (length out) 8 h)

      pub sum_0 : (after : List ℕ) → 8 ≤ length out → after ≡ put_at 0 (double_bytes (sum_of q p (length observations / 24) observations replies)) out
          → sum_outcome q p observations replies out ≡ record { code = 0; out = after }
      unfolding sum_outcome
      sum_0 after h e =
          rw (whole, eq-eqb (length replies) (8 * (length observations / 24)) many, le-ltb (length out) 8 h)
          (ap (λ (l : List ℕ). record { code = 0; out = l }) (sym e))

    -- the records that are there
    pub sum_room : (length observations / 24 ≤ 64) × (length observations / 24 * 24 ≤ length observations)
    sum_room = (
      ltb-false 64 (length observations / 24) (or_right (not (eqb (length observations % 24) 0)) (ltb 64 (length observations / 24)) whole),
      div-mul-le_self (length observations) 24,
    )

module _ (s : Symmetric2) (out : List ℕ) where
  pub inverse_short : length out < 32 → inverse_outcome s out ≡ record { code = 3; out = out }
  unfolding inverse_outcome
  inverse_short h = rw (lt-ltb (length out) 32 h)

  pub inverse_by : (i : Inverted) → 32 ≤ length out → i ≡ inverse_of s → inverse_outcome s out ≡ inverted_outcome i out
  unfolding inverse_outcome
  inverse_by i h e = rw (le-ltb (length out) 32 h) (ap (λ (j : Inverted). inverted_outcome j out) (sym e))
