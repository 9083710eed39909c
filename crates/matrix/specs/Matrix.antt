-- S12's `Symmetric2`: a symmetric matrix of two rows, by its entries a00, a01, a11.
use Rattle.std.specs.Prelude.{Bool, false, cond, not, ◌&&◌, ◌||◌, Float, Result, Ok, Err}
use Rattle.std.specs.Float.{inf, binary64}
use Rattle.std.specs.Float.Ieee.{add, sub, mul, div, neg, le, of_bits}
use Rattle.root.specs.Root.{root_of}
use Rattle.numeric.specs.Numeric.{zero64, half64, one64, two64, finite, abs_of, clamp_of, hypot_of}
use Rattle.matrix.specs.declared.Symmetric2.{Symmetric2}
use Rattle.matrix.specs.declared.InverseError.{InverseError}
use Rattle.matrix.specs.declared.InverseError.TheVariants.{NonFiniteInformation, RankDeficientInformation}

-- a00 · a11 − a01 · a01
unfoldable pub determinant_of : Symmetric2 → Float
determinant_of s = sub binary64 (mul binary64 s.a00 s.a11) (mul binary64 s.a01 s.a01)

-- the sum, entry by entry
unfoldable pub sum_of : Symmetric2 → Symmetric2 → Symmetric2
sum_of s t = record { a00 = add binary64 s.a00 t.a00; a01 = add binary64 s.a01 t.a01; a11 = add binary64 s.a11 t.a11 }

-- no entry is "not finite"
unfoldable pub entries_finite : Symmetric2 → Bool
entries_finite s = finite s.a00 && finite s.a01 && finite s.a11

-- S12's "largest eigenvalue": half of the trace and the discriminant together
unfoldable pub largest_of : Symmetric2 → Float
largest_of s =
    let trace = add binary64 s.a00 s.a11 in
    let discriminant = hypot_of (sub binary64 s.a00 s.a11) (mul binary64 two64 s.a01) in
    mul binary64 half64 (add binary64 trace discriminant)

-- an inverse and its condition number, or S12's refusals NonFinite and RankDeficient
pub data Inverted : Type 0 where
  inverse : (m : Symmetric2) (condition : Float) → Inverted
  non_finite rank_deficient : Inverted

-- what each case of the answer says
abbrev pub says : Result (Symmetric2 × Float) InverseError → Inverted
says (Ok (m, condition)) = inverse m condition
says (Err NonFiniteInformation) = non_finite
says (Err RankDeficientInformation) = rank_deficient

-- the inverse by entries, where the determinant is d: (a11/d, (−a01)/d, a00/d)
unfoldable pub inverse_entries : Symmetric2 → Float → Symmetric2
inverse_entries s d = record { a00 = div binary64 s.a11 d; a01 = div binary64 (neg s.a01) d; a11 = div binary64 s.a00 d }

-- 1e-12, up to which the ratio of the smallest eigenvalue to the largest counts as none
abbrev pub tolerance : Float
tolerance = of_bits binary64 0x3d71_9799_812d_ea11

-- S12's "the inverse refuses in order": each line is one of its tests, and the last what is given where all are passed.
-- The smallest eigenvalue is the determinant over the largest.
unfoldable pub inverse_of : Symmetric2 → Inverted
inverse_of s =
    let largest = largest_of s in
    let determinant = determinant_of s in
    let smallest = div binary64 determinant largest in
    let m = inverse_entries s determinant in
    cond (not (entries_finite s)) non_finite
    (cond (not (finite largest) || not (finite determinant)) non_finite
    (cond (le largest zero64 || le determinant zero64) rank_deficient
    (cond (not (finite smallest) || le smallest zero64 || le (div binary64 smallest largest) tolerance) rank_deficient
    (cond (not (entries_finite m)) non_finite (inverse m (div binary64 largest smallest))))))

-- 1e-15: a correlation that near to 1 counts as 1
abbrev pub correlation_tolerance : Float
correlation_tolerance = of_bits binary64 0x3cd2_03af_9ee7_5616

-- "column condition": infinity if a00 ≤ 0 or a11 ≤ 0; with the correlation's absolute value c, infinity if 1 − c ≤ 1e-15, and else (1 + c)/(1 − c)
unfoldable pub column_condition_of : Symmetric2 → Float
column_condition_of s =
    let correlation = clamp_of (div binary64 s.a01 (root_of (mul binary64 s.a00 s.a11))) (neg one64) one64 in
    let c = abs_of correlation in
    cond (le s.a00 zero64 || le s.a11 zero64) (inf false)
    (cond (le (sub binary64 one64 c) correlation_tolerance) (inf false) (div binary64 (add binary64 one64 c) (sub binary64 one64 c)))
