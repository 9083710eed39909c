-- What the functions that C links answer, byte by byte. A byte is a number below 256.
use Rattle.std.specs.Prelude.{ℕ, zero, suc, ◌+◌, ◌*◌, ◌/◌, ◌%◌, Bool, true, false, cond, not, ◌||◌, List, [], ◌∷◌, ◌++◌, eqb, ltb, length, take, drop, Float, Option, None, Some}
use Rattle.std.specs.Float.{binary64}
use Rattle.std.specs.Float.Ieee.{of_bits, to_bits}
use Rattle.matrix.specs.Matrix.{Inverted, inverse, non_finite, rank_deficient, inverse_of}
use Rattle.matrix.specs.declared.Symmetric2.{Symmetric2}
use Rattle.definition.specs.Request.{Observation}
use Rattle.definition.specs.Likelihood.{chi_square_of, with_priors_of}
use Rattle.definition.specs.Meaning.{observations_of}
use Rattle.definition.specs.declared.Point.{Point}
use Rattle.definition.specs.declared.NormalPriorV1.{NormalPriorV1}
use Rattle.definition.specs.declared.TruingPriorsV1.{TruingPriorsV1}
use Rattle.slices.specs.Slices.{laid_over}

-- ---- doubles in bytes

-- the number with these bytes, the lowest first
abbrev pub little_endian : List ℕ → ℕ
little_endian [] = 0
little_endian (b ∷ bytes) = b + 256 * little_endian bytes

-- the number of the 8 bytes from an index on
unfoldable pub number_at : ℕ → List ℕ → ℕ
number_at i bytes = little_endian (take 8 (drop i bytes))

-- the double there: every not-a-number pattern is the one not-a-number
abbrev pub double_at : ℕ → List ℕ → Float
double_at i bytes = of_bits binary64 (number_at i bytes)

-- n doubles, the first at the offset and each other a stride after the one before it
abbrev pub column_of : (stride offset n : ℕ) → List ℕ → List Float
column_of stride offset zero bytes = []
column_of stride offset (suc n) bytes = double_at offset bytes ∷ column_of stride (stride + offset) n bytes

-- the k lowest bytes of a number, the lowest first
abbrev pub lowest : (k : ℕ) → ℕ → List ℕ
lowest zero p = []
lowest (suc k) p = p % 256 ∷ lowest k (p / 256)

-- the 8 bytes of a pattern
unfoldable pub bytes_of : ℕ → List ℕ
bytes_of p = lowest 8 p

-- the 8 bytes of a double: not-a-number has the pattern 7ff8000000000000
abbrev pub double_bytes : Float → List ℕ
double_bytes x = bytes_of (to_bits binary64 x)

-- a list with bytes laid over it from an index on; it keeps its length
abbrev pub put_at : ℕ → List ℕ → List ℕ → List ℕ
put_at zero bytes xs = laid_over bytes xs
put_at (suc i) bytes [] = []
put_at (suc i) bytes (x ∷ xs) = x ∷ put_at i bytes xs

-- what a function returns, and what the bytes lent for its answer hold then
pub record Outcome : Type 0 where
  pub code : ℕ
  pub out : List ℕ

-- ---- the objective sum

-- n records of 24 bytes: a distance, a drop and a sigma
abbrev pub records_of : ℕ → List ℕ → List Observation
records_of n bytes = observations_of (column_of 24 0 n bytes) (column_of 24 8 n bytes) (column_of 24 16 n bytes)

abbrev pub prior_of : Bool → Float → Float → Option NormalPriorV1
prior_of false mean sigma = None
prior_of true mean sigma = Some (record { mean = mean; sigma = sigma })

-- bit 0 says that the speed's prior is given and bit 1 the coefficient's; no other bit counts
unfoldable pub priors_of : ℕ → Float → Float → Float → Float → TruingPriorsV1
priors_of bits speedMean speedSigma coefficientMean coefficientSigma =
    record {
      muzzle_velocity_fps = prior_of (eqb (bits % 2) 1) speedMean speedSigma;
      ballistic_coefficient = prior_of
          (eqb (bits / 2 % 2) 1) coefficientMean coefficientSigma;
    }

-- of n records and n replies
unfoldable pub sum_of : TruingPriorsV1 → Point → ℕ → List ℕ → List ℕ → Float
sum_of priors p n observations replies = with_priors_of priors p (chi_square_of (records_of n observations) (column_of 8 0 n replies))

-- refused in this order; a refusal leaves every byte as it was
unfoldable pub sum_outcome : TruingPriorsV1 → Point → List ℕ → List ℕ → List ℕ → Outcome
sum_outcome priors p observations replies out =
    let n = length observations / 24 in
    cond (not (eqb (length observations % 24) 0) || ltb 64 n) (record { code = 1; out = out })
    (cond (not (eqb (length replies) (8 * n))) (record { code = 2; out = out })
    (cond (ltb (length out) 8) (record { code = 3; out = out })
    (record { code = 0; out = put_at 0 (double_bytes (sum_of priors p n observations replies)) out })))

-- ---- the inverse

abbrev pub inverse_bytes : Symmetric2 → Float → List ℕ
inverse_bytes m condition = double_bytes m.a00 ++ double_bytes m.a01 ++ double_bytes m.a11 ++ double_bytes condition

abbrev pub inverted_outcome : Inverted → List ℕ → Outcome
inverted_outcome non_finite out = record { code = 1; out = out }
inverted_outcome rank_deficient out = record { code = 2; out = out }
inverted_outcome (inverse m condition) out = record { code = 0; out = put_at 0 (inverse_bytes m condition) out }

-- too short an output is refused before anything is computed
unfoldable pub inverse_outcome : Symmetric2 → List ℕ → Outcome
inverse_outcome s out = cond (ltb (length out) 32) (record { code = 3; out = out }) (inverted_outcome (inverse_of s) out)
