-- Laws of digits and numbers, and the theorems that a double and a count read back as what was written. Assumes nothing.
use Rattle.std.specs.Prelude.{Option, None, Some, IfNone, IfSome, unwrap_or}
use Prim.Native.Nat.{ℕ, zero, suc, ◌+◌, ◌-◌, ◌*◌, ◌/◌, ◌%◌, ◌^◌, ◌≤◌, ◌<◌}
use mathlib.Core.Path.{◌≡◌, refl, sym, ap, subst, ◌∙◌}
use mathlib.Core.Bool.{Bool, true, false, not, ◌&&◌, cond, true≢false}
use mathlib.Core.List.{List, [], ◌∷◌, ◌++◌}
use native.Mathlib.Nat.{mul-suc, mul-one, mul_comm, mul_assoc, mul-le-mul_right, pow-le-pow_right, pow-succ', le-mul_of_pos_right, div-lt_iff_lt-mul}
use native.Mathlib.Nat.{le-div_iff_mul-le, div-add-mod, mod-lt, pow-zero, pow-suc}
use native.Mathlib.Omega.{arith}
use borrow.Author.Tests.{lt-ltb, le-ltb, le-leb, lt-leb, ne_eqb, ltb-true, ltb-false, leb-true, eqb-false}
use lib.Dec.{T, leb, ltb, eqb, lt→ltb}
use lib.ListN.{length, take, drop, get_or, replicate, length-append}
use lib.Seq.{drop-cons, take_at, length-take-le}
use lib.Arith.{le→nltb}
use lib.Ieee.{Float, nan, inf, fin, binary64, is_nan, nan_bits, of_bits, to_bits}
use lib.Ieee.Bits.{of_bits-to_bits, to_bits-lt, of_bits-fits, nan_bits_is, nan_bits_above}
use Rattle.numerals.specs.Numbers.{digit_of, glyph_of, number_from, digits_of, double_of, double_text, within64, plain, count_of, places_of}
use Rattle.numerals.specs.Numbers.{count_text, in20, DoubleBack, PatternBack, CountBack}

pub both_l : (a b : Bool) → (a && b) ≡ true → a ≡ true
both_l true b e = refl
both_l false b e = absurd (true≢false (sym e))

-- ---- reading on

cond_none : (v : Bool) (o : Option ℕ) → within64 o ≡ None → within64 (cond v o None) ≡ None
cond_none true o e = e
cond_none false o e = refl

-- what 64 bits do not hold, they do not hold with more digits
pub over_stays : (b m : ℕ) (s : List ℕ) → 0 < b → 2 ^ 64 ≤ m → within64 (number_from b m s) ≡ None
over_stays b m [] p h = rw (le-ltb m (2 ^ 64) h)
over_stays b m (c ∷ s) p h =
    cond_none (ltb (digit_of c) b) (number_from b (b * m + digit_of c) s)
    (over_stays b (b * m + digit_of c) s p (omega (arith, le-mul_of_pos_right m p, mul_comm m b)))

-- the next digit is too much
pub read_over : (b m i : ℕ) (s : List ℕ) → 0 < b → i < length s → digit_of (get_or s i 0) < b → 2 ^ 64 ≤ b * m + digit_of (get_or s i 0)
    → within64 (number_from b m (drop i s)) ≡ None
read_over b m i s p h d o =
    rw (drop-cons s i 0, lt-ltb (digit_of (get_or s i 0)) b d) (over_stays b (b * m + digit_of (get_or s i 0)) (drop (suc i) s) p o)

-- ---- writing

places_last : (k n : ℕ) → n < 10 → places_of k n ≡ 1
places_last zero n h = refl
places_last (suc k) n h = rw (lt-ltb n 10 h)

-- a number has one place more than its logarithm
places_above : (k j n : ℕ) → j ≤ k → 10 ^ j ≤ n → n < 10 * 10 ^ j → places_of k n ≡ suc j
places_above k zero n h p q = places_last k n (omega arith)
places_above zero (suc j) n h p q = absurd (omega arith)
places_above (suc k) (suc j) n h p q =
    let one : 10 ^ 0 ≤ 10 ^ j = pow-le-pow_right {n = 10} (omega arith) {i = 0} (omega arith) in
    let r : 10 ≤ n = omega (arith, one, rw pow-suc at p) in
    let low : 10 ^ j ≤ n / 10 = (le-div_iff_mul-le {k = 10} {x = 10 ^ j} {y = n} (omega arith)).1 (rw pow-suc at p) in
    let high : n / 10 < 10 * 10 ^ j = (div-lt_iff_lt-mul {k = 10} {x = n} {y = 10 * 10 ^ j} (omega arith)).1 (omega (arith, rw pow-suc at q)) in
    rw (le-ltb n 10 r, places_above k j (n / 10) (omega arith) low high)

-- ---- what is written reads back

pub digits_length : (b k n : ℕ) → length (digits_of b k n) ≡ k
digits_length b zero n = refl
digits_length b (suc k) n = rw (length-append, digits_length b k (n / b)) (omega arith)

digit_low : (d : ℕ) → d < 10 → digit_of (48 + d) ≡ d
unfolding digit_of
digit_low d h = rw (le-leb 48 (48 + d) (omega arith), le-leb (48 + d) 57 (omega arith)) (omega arith)

digit_high : (d : ℕ) → 10 ≤ d → d < 16 → digit_of (87 + d) ≡ d
unfolding digit_of
digit_high d h g =
    rw (le-leb 48 (87 + d) (omega arith), lt-leb (87 + d) 57 (omega arith), le-leb 97 (87 + d) (omega arith), le-leb (87 + d) 102 (omega arith)) (omega arith)

digit_either : (d : ℕ) (v : Bool) → d < 16 → ltb d 10 ≡ v → digit_of (cond v (48 + d) (87 + d)) ≡ d
digit_either d true h e = digit_low d (ltb-true d 10 e)
digit_either d false h e = digit_high d (ltb-false d 10 e) h

pub digit_glyph : (d : ℕ) → d < 16 → digit_of (glyph_of d) ≡ d
unfolding glyph_of
digit_glyph d h = digit_either d (ltb d 10) h refl

abbrev onward : ℕ → List ℕ → Option ℕ → Option ℕ
onward b t None = None
onward b t (Some n) = number_from b n t

onward_cond : (b : ℕ) (t : List ℕ) (v : Bool) (o p : Option ℕ) → o ≡ onward b t p → cond v o None ≡ onward b t (cond v p None)
onward_cond b t true o p e = e
onward_cond b t false o p e = refl

number_append : (b m : ℕ) (s t : List ℕ) → number_from b m (s ++ t) ≡ onward b t (number_from b m s)
number_append b m [] t = refl
number_append b m (c ∷ s) t =
    onward_cond b t (ltb (digit_of c) b) (number_from b (b * m + digit_of c) (s ++ t)) (number_from b (b * m + digit_of c) s)
    (number_append b (b * m + digit_of c) s t)

pub number_digits : (b k n : ℕ) → 0 < b → b ≤ 16 → n < b ^ k → number_from b 0 (digits_of b k n) ≡ Some n
number_digits b zero n p q h = let z : 0 ≡ n = omega (arith, rw pow-zero at h) in ap Some z
number_digits b (suc k) n p q h =
    let l = mod-lt n p in
    let g : digit_of (glyph_of (n % b)) ≡ n % b = digit_glyph (n % b) (omega arith) in
    number_append b 0 (digits_of b k (n / b)) (glyph_of (n % b) ∷ [])
    ∙ ap (onward b (glyph_of (n % b) ∷ [])) (number_digits b k (n / b) p q ((div-lt_iff_lt-mul {k = b} {x = n} {y = b ^ k} p).1 (rw pow-suc at h)))
    ∙ rw (g, lt-ltb (n % b) b l) (ap Some (div-add-mod n b))

pub places_most : (k n : ℕ) → places_of k n ≤ suc k
places_most zero n = omega arith
places_most (suc k) n = places_more k n (ltb n 10) (places_most k (n / 10)) where
  places_more : (k n : ℕ) (v : Bool) → places_of k (n / 10) ≤ suc k → cond v 1 (suc (places_of k (n / 10))) ≤ suc (suc k)
  places_more k n true h = omega arith
  places_more k n false h = omega arith

drop_zeros : (m k : ℕ) → drop {A = ℕ} k (replicate m 0) ≡ replicate (m - k) 0
drop_zeros m zero = let e : m - 0 ≡ m = omega arith in rw e
drop_zeros zero (suc k) = let e : 0 - suc k ≡ 0 = omega arith in rw e
drop_zeros (suc m) (suc k) = let e : suc m - suc k ≡ m - k = omega arith in rw e (drop_zeros m k)

pub text_length : (n : ℕ) → places_of 19 n ≡ length (count_text n)
unfolding count_text
text_length n = sym (digits_length 10 (places_of 19 n) n)

pub short_text : (n : ℕ) → length (count_text n) ≤ 20
short_text n = omega (arith, text_length n, places_most 19 n)

-- one digit more than the logarithm, where there is one
pub long_text : (n : ℕ) (o : Option ℕ) → IfNone o (n ≡ 0) → IfSome o (λ k. 10 ^ k ≤ n) → IfSome o (λ k. n < 10 * 10 ^ k) → IfSome o (λ k. k < 20)
    → unwrap_or o 0 + 1 ≡ length (count_text n)
long_text n None z p q h = omega (arith, text_length n, places_last 19 n (omega arith))
long_text n (Some k) z p q h = omega (arith, text_length n, places_above 19 k n (omega arith) p q)

pub digits_text : (n : ℕ) → digits_of 10 (length (count_text n)) n ≡ count_text n
unfolding count_text
digits_text n = rw (← text_length n)

-- the digits of a count, spelled into as many of 20 bytes as they need
module _ (n : ℕ) where
  abbrev len : ℕ
  len = length (count_text n)

  abbrev room : List ℕ
  room = replicate 20 0

  abbrev spelled : List ℕ
  spelled = digits_of 10 (length (take len room)) n

  pub filled : len ≡ length (take len room)
  filled = sym (length-take-le len room (short_text n))

  pub written : take len (spelled ++ drop len room) ≡ count_text n
  written = rw (← filled, digits_text n) (take_at (count_text n) _ len refl)

  pub behind : in20 (count_text n) ≡ spelled ++ drop len room
  behind = rw (← filled, digits_text n, drop_zeros 20 len)

pub double_back : DoubleBack
unfolding double_of double_text
double_back x h =
    rw (digits_length 16 16 (to_bits binary64 x), number_digits 16 16 (to_bits binary64 x) (omega arith) (omega arith) (to_bits-lt binary64 x h))
    (ap Some (of_bits-to_bits binary64 x h))

pub pattern_back : PatternBack
pattern_back b = double_back (of_bits binary64 b) (of_bits-fits binary64 b)

-- the first byte is there and is no 0
abbrev leading : List ℕ → Bool
leading [] = false
leading (c ∷ s) = not (eqb c 48)

leading_append : (s t : List ℕ) → leading s ≡ true → leading (s ++ t) ≡ true
leading_append [] t e = absurd (true≢false (sym e))
leading_append (c ∷ s) t e = e

leading_plain : (s : List ℕ) → leading s ≡ true → plain s ≡ true
leading_plain [] e = absurd (true≢false (sym e))
leading_plain (c ∷ []) e = refl
leading_plain (c ∷ d ∷ s) e = e

one_digit : (n : ℕ) → 0 < n → n < 10 → leading (digits_of 10 1 n) ≡ true
unfolding glyph_of
one_digit n p h =
    let m : n % 10 ≡ n = omega arith in
    rw (m, lt-ltb n 10 h, ne_eqb (48 + n) 48 (λ e. omega (arith, e)))

leading_at : (k n : ℕ) (v : Bool) → ltb n 10 ≡ v → 0 < n → (10 ≤ n → leading (digits_of 10 (places_of k (n / 10)) (n / 10)) ≡ true)
    → leading (digits_of 10 (cond v 1 (suc (places_of k (n / 10)))) n) ≡ true
leading_at k n true e p h = one_digit n p (ltb-true n 10 e)
leading_at k n false e p h = leading_append (digits_of 10 (places_of k (n / 10)) (n / 10)) (glyph_of (n % 10) ∷ []) (h (ltb-false n 10 e))

-- a number above 0 has no leading zero
leading_text : (k n : ℕ) → 0 < n → n < 10 ^ suc k → leading (digits_of 10 (places_of k n) n) ≡ true
leading_text zero n p h = one_digit n p h
leading_text (suc k) n p h =
    leading_at k n (ltb n 10) refl p
    (λ g. leading_text k (n / 10) (omega arith) ((div-lt_iff_lt-mul {k = 10} {x = n} {y = 10 ^ suc k} (omega arith)).1 (rw pow-suc at h)))

plain_at : (n : ℕ) (v : Bool) → ltb 0 n ≡ v → n < 10 ^ 20 → plain (digits_of 10 (places_of 19 n) n) ≡ true
plain_at n true e h = leading_plain (digits_of 10 (places_of 19 n) n) (leading_text 19 n (ltb-true 0 n e) h)
plain_at n false e h = let z : n ≡ 0 = omega (arith, ltb-false 0 n e) in rw z

wide_at : (k n : ℕ) (v : Bool) → ltb n 10 ≡ v → n / 10 < 10 ^ places_of k (n / 10) → n < 10 ^ cond v 1 (suc (places_of k (n / 10)))
wide_at k n true e h = ltb-true n 10 e
wide_at k n false e h = rw pow-suc ((div-lt_iff_lt-mul {k = 10} {x = n} {y = 10 ^ places_of k (n / 10)} (omega arith)).0 h)

-- its places hold it
wide : (k n : ℕ) → n < 10 ^ suc k → n < 10 ^ places_of k n
wide zero n h = h
wide (suc k) n h =
    wide_at k n (ltb n 10) refl (wide k (n / 10) ((div-lt_iff_lt-mul {k = 10} {x = n} {y = 10 ^ suc k} (omega arith)).1 (rw pow-suc at h)))

pub count_back : CountBack
unfolding count_of count_text
count_back n h =
    let g : n < 10 ^ 20 = omega arith in
    rw (plain_at n (ltb 0 n) refl g, number_digits 10 (places_of 19 n) n (omega arith) (omega arith) (wide 19 n g), lt-ltb n (2 ^ 64) h)

-- ---- how large a number is

below_at : (b m d l : ℕ) (v : Bool) (n : ℕ) (o : Option ℕ) → ltb d b ≡ v → (o ≡ Some n → n < suc (b * m + d) * b ^ l) → cond v o None ≡ Some n
    → n < suc m * b ^ suc l
below_at b m d l true n o e ih h =
    let q : suc (b * m + d) * b ^ l ≤ (b * suc m) * b ^ l = mul-le-mul_right (b ^ l) (omega (arith, ltb-true d b e, mul-suc b m)) in
    let r : (b * suc m) * b ^ l ≡ suc m * b ^ suc l =
    ap (λ (x : ℕ). x * b ^ l) (mul_comm b (suc m)) ∙ mul_assoc (suc m) b (b ^ l) ∙ ap (λ (x : ℕ). suc m * x) (sym (pow-succ' b l)) in
    omega (arith, ih h)
below_at b m d l false n o e ih h = let z : ◌≡◌ {A = ℕ} 0 1 = cc in absurd (omega arith)

pub number_below : (b m : ℕ) (s : List ℕ) (n : ℕ) → number_from b m s ≡ Some n → n < suc m * b ^ length s
number_below b m [] n h = let e : m ≡ n = cc in rw (pow-zero, mul-one) (omega arith)
number_below b m (c ∷ s) n h =
    below_at b m (digit_of c) (length s) (ltb (digit_of c) b) n (number_from b (b * m + digit_of c) s) refl (number_below b (b * m + digit_of c) s n) h

within_same : (o : Option ℕ) → ((n : ℕ) → o ≡ Some n → n < 2 ^ 64) → within64 o ≡ o
within_same None h = refl
within_same (Some n) h = rw (lt-ltb n (2 ^ 64) (h n refl))

-- 64 bits hold 16 hexadecimal digits
pub within_16 : (s : List ℕ) → length s ≡ 16 → within64 (number_from 16 0 s) ≡ number_from 16 0 s
within_16 s l = within_same (number_from 16 0 s) (λ n h. omega (arith, rw l at (number_below 16 0 s n h)))

-- ---- not-a-number

only_nan : (x : Float) → T (is_nan x) → nan ≡ x
unfolding is_nan
only_nan nan t = refl
only_nan (inf s) t = absurd t
only_nan (fin s m e) t = absurd t

-- without its sign's bit, a NaN's pattern is one above that of infinity
pub nan_above : (b : ℕ) → 0x7ff0_0000_0000_0000 < b % 2 ^ 63 → of_bits binary64 0x7ff8_0000_0000_0000 ≡ of_bits binary64 b
unfolding of_bits
nan_above b h = only_nan (of_bits binary64 b) (subst T (sym (nan_bits_above binary64 b) ∙ nan_bits_is binary64 b) (lt→ltb 0x7ff0_0000_0000_0000 (b % 2 ^ 63) h))

pub no_nan_above : (b : ℕ) → b % 2 ^ 63 ≤ 0x7ff0_0000_0000_0000 → T (not (nan_bits binary64 b))
no_nan_above b h = subst (λ (v : Bool). T (not v)) (sym (nan_bits_above binary64 b)) (le→nltb 0x7ff0_0000_0000_0000 (b % 2 ^ 63) h)

pub nan_pattern : (x : Float) → is_nan x ≡ true → 0x7ff8_0000_0000_0000 ≡ to_bits binary64 x
unfolding is_nan to_bits
nan_pattern nan e = refl
nan_pattern (inf s) e = absurd (true≢false (sym e))
nan_pattern (fin s m e) f = absurd (true≢false (sym f))

pub no_double : (s : List ℕ) → (length s ≡ 16 → ⊥) → double_of s ≡ None
unfolding double_of
no_double s h = rw (ne_eqb (length s) 16 h)

-- ---- a count of more than 20 digits

least_at : (b m d l : ℕ) (v : Bool) (n : ℕ) (o : Option ℕ) → (o ≡ Some n → (b * m + d) * b ^ l ≤ n) → cond v o None ≡ Some n → m * b ^ suc l ≤ n
least_at b m d l true n o ih h =
    let q : (b * m) * b ^ l ≤ (b * m + d) * b ^ l = mul-le-mul_right (b ^ l) (omega arith) in
    let r : (b * m) * b ^ l ≡ m * b ^ suc l = ap (λ (x : ℕ). x * b ^ l) (mul_comm b m) ∙ mul_assoc m b (b ^ l) ∙ ap (λ (x : ℕ). m * x) (sym (pow-succ' b l)) in
    omega (arith, ih h)
least_at b m d l false n o ih h = let z : ◌≡◌ {A = ℕ} 0 1 = cc in absurd (omega arith)

number_least : (b m : ℕ) (s : List ℕ) (n : ℕ) → number_from b m s ≡ Some n → m * b ^ length s ≤ n
number_least b m [] n h = let e : m ≡ n = cc in rw (pow-zero, mul-one) (omega arith)
number_least b m (c ∷ s) n h =
    least_at b m (digit_of c) (length s) (ltb (digit_of c) b) n (number_from b (b * m + digit_of c) s) (number_least b (b * m + digit_of c) s n) h

over_all : (o : Option ℕ) → ((n : ℕ) → o ≡ Some n → 2 ^ 64 ≤ n) → within64 o ≡ None
over_all None h = refl
over_all (Some n) h = rw (le-ltb n (2 ^ 64) (h n refl))

zero_at : (c : ℕ) (u v : Bool) → (leb 48 c && leb c 57) ≡ u → (leb 97 c && leb c 102) ≡ v → cond u (c - 48) (cond v (c - 87) 16) ≡ 0 → c ≡ 48
zero_at c true v e f h = omega (arith, leb-true 48 c (both_l (leb 48 c) (leb c 57) e))
zero_at c false true e f h = absurd (omega (arith, leb-true 97 c (both_l (leb 97 c) (leb c 102) f)))
zero_at c false false e f h = absurd (omega (arith, h))

-- only the digit 0 is 0
digit_zero : (c : ℕ) → digit_of c ≡ 0 → c ≡ 48
unfolding digit_of
digit_zero c h = zero_at c (leb 48 c && leb c 57) (leb 97 c && leb c 102) refl refl h

many_digits : (m : ℕ) (s : List ℕ) → 0 < m → 20 ≤ length s → within64 (number_from 10 m s) ≡ None
many_digits m s p h =
    over_all (number_from 10 m s)
    (λ n e. omega (arith, number_least 10 m s n e, pow-le-pow_right {n = 10} (omega arith) h, mul-le-mul_right {m = 1} {n = m} (10 ^ length s) p))

positive : (n : ℕ) → (n ≡ 0 → ⊥) → 0 < n
positive zero h = absurd (h refl)
positive (suc n) h = omega arith

long_at : (c : ℕ) (s : List ℕ) (u v : Bool) → eqb c 48 ≡ u → 20 ≤ length s
    → cond (not u) (within64 (cond v (number_from 10 (10 * 0 + digit_of c) s) None)) None ≡ None
long_at c s true v e h = refl
long_at c s false false e h = refl
long_at c s false true e h =
    let z : 0 < digit_of c = positive (digit_of c) (λ f. eqb-false c 48 e (digit_zero c f)) in
    many_digits (10 * 0 + digit_of c) s (omega arith) h

-- no count has more than 20 bytes
pub long_count : (s : List ℕ) → 20 < length s → count_of s ≡ None
unfolding count_of
long_count [] h = refl
long_count (c ∷ []) h = absurd (omega arith)
long_count (c ∷ d ∷ s) h = long_at c (d ∷ s) (eqb c 48) (ltb (digit_of c) 10) refl (omega arith)
