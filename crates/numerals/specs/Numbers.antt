-- Numbers as they stand in a line: a double is the 16 hexadecimal digits of its bits, a count is decimal. A text is the list of its bytes.
use Rattle.std.specs.Prelude.{ℕ, zero, suc, ◌+◌, ◌-◌, ◌*◌, ◌/◌, ◌%◌, ◌^◌, ◌<◌, ◌≡◌, Bool, true, false, not, ◌&&◌, cond, List, [], ◌∷◌, ◌++◌, T, leb, ltb, eqb, length, replicate, Float, Option, None, Some}
use Rattle.std.specs.Float.{binary64}
use Rattle.std.specs.Float.Ieee.{fits, of_bits, to_bits}

-- ---- digits

-- the value of the digit c, one of 0 to 9 and a to f; 16 where c is no digit
unfoldable pub digit_of : ℕ → ℕ
digit_of c = cond (leb 48 c && leb c 57) (c - 48) (cond (leb 97 c && leb c 102) (c - 87) 16)

-- the value of c, where it is a digit in base b
abbrev pub digit_in : ℕ → ℕ → Option ℕ
digit_in b c = cond (ltb (digit_of c) b) (Some (digit_of c)) None

-- the digit of a value below 16
unfoldable pub glyph_of : ℕ → ℕ
glyph_of d = cond (ltb d 10) (48 + d) (87 + d)

-- the number that follows m when these digits in base b are read on, none where a byte is no digit in base b
abbrev pub number_from : ℕ → ℕ → List ℕ → Option ℕ
number_from b m [] = Some m
number_from b m (c ∷ s) = cond (ltb (digit_of c) b) (number_from b (b * m + digit_of c) s) None

-- the last k digits of n in base b, the most significant first
abbrev pub digits_of : ℕ → ℕ → ℕ → List ℕ
digits_of b zero n = []
digits_of b (suc k) n = digits_of b k (n / b) ++ (glyph_of (n % b) ∷ [])

-- ---- doubles

-- the double whose bits are a number
abbrev pub of_pattern : Option ℕ → Option Float
of_pattern None = None
of_pattern (Some n) = Some (of_bits binary64 n)

-- the double that a text is: 16 digits, its bits. Any pattern of a not-a-number is the one nan.
unfoldable pub double_of : List ℕ → Option Float
double_of s = cond (eqb (length s) 16) (of_pattern (number_from 16 0 s)) None

-- the text of a double
unfoldable pub double_text : Float → List ℕ
double_text x = digits_of 16 16 (to_bits binary64 x)

-- ---- counts

-- a number that 64 bits hold
abbrev pub within64 : Option ℕ → Option ℕ
within64 None = None
within64 (Some n) = cond (ltb n (2 ^ 64)) (Some n) None

-- at least one digit, and no 0 before another
abbrev pub plain : List ℕ → Bool
plain [] = false
plain (c ∷ []) = true
plain (c ∷ d ∷ s) = not (eqb c 48)

-- the count that a text is: decimal digits with no leading zero, of a number below 2^64
unfoldable pub count_of : List ℕ → Option ℕ
count_of s = cond (plain s) (within64 (number_from 10 0 s)) None

-- how many decimal digits n has, where they are at most k + 1
abbrev pub places_of : ℕ → ℕ → ℕ
places_of zero n = 1
places_of (suc k) n = cond (ltb n 10) 1 (suc (places_of k (n / 10)))

-- the text of a count: below 2^64 there are at most 20 digits
unfoldable pub count_text : ℕ → List ℕ
count_text n = digits_of 10 (places_of 19 n) n

-- a text in 20 bytes, zeros behind it
abbrev pub in20 : List ℕ → List ℕ
in20 s = s ++ replicate (20 - length s) 0

-- ---- what is written reads back

-- a double. Theorem `double_back`.
abbrev pub DoubleBack : Type 0
DoubleBack = (x : Float) → T (fits binary64 x) → double_of (double_text x) ≡ Some x

-- the double of any pattern. Theorem `pattern_back`.
abbrev pub PatternBack : Type 0
PatternBack = (b : ℕ) → double_of (double_text (of_bits binary64 b)) ≡ Some (of_bits binary64 b)

-- a count. Theorem `count_back`.
abbrev pub CountBack : Type 0
CountBack = (n : ℕ) → n < 2 ^ 64 → count_of (count_text n) ≡ Some n
