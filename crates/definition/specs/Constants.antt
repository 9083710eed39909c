-- Doubles: each operation rounds once, to binary64. The scope's constants by their bits; each is the double nearest to its decimal (specs/Decimals.antt).
use Rattle.std.specs.Prelude.{Float}
use Rattle.std.specs.Float.{binary64}
use Rattle.std.specs.Float.Ieee.{add, sub, mul, div, of_bits}
use Rattle.numeric.specs.Numeric.{half64}

infixl 65 ◌⊕◌
infixl 65 ◌⊖◌
infixl 70 ◌⊗◌
infixl 70 ◌⊘◌
abbrev pub ◌⊕◌ : Float → Float → Float
x ⊕ y = add binary64 x y

abbrev pub ◌⊖◌ : Float → Float → Float
x ⊖ y = sub binary64 x y

abbrev pub ◌⊗◌ : Float → Float → Float
x ⊗ y = mul binary64 x y

abbrev pub ◌⊘◌ : Float → Float → Float
x ⊘ y = div binary64 x y

-- one multiplication, as `powi(2)`
abbrev pub squared : Float → Float
squared x = x ⊗ x

-- 0.25, 4 and 10
abbrev pub quarter : Float
quarter = of_bits binary64 0x3fd0_0000_0000_0000

abbrev pub four : Float
four = of_bits binary64 0x4010_0000_0000_0000

abbrev pub ten : Float
ten = of_bits binary64 0x4024_0000_0000_0000

-- the scales of the two coordinates: 100 fps and 0.1
abbrev pub mv_scale : Float
mv_scale = of_bits binary64 0x4059_0000_0000_0000

abbrev pub bc_scale : Float
bc_scale = of_bits binary64 0x3fb9_9999_9999_999a

-- the steps of the five questions: 1e-3 of the coordinate, at least 0.5 fps and 1e-4
abbrev pub step_fraction : Float
step_fraction = of_bits binary64 0x3f50_624d_d2f1_a9fc

abbrev pub least_mv_step : Float
least_mv_step = half64

abbrev pub least_bc_step : Float
least_bc_step = of_bits binary64 0x3f1a_36e2_eb1c_432d

-- damping: 1e-6 at first, not below 1e-12; the least diagonal that it works on, 1e-12; a determinant below 1e-24 is unfit
abbrev pub first_damping : Float
first_damping = of_bits binary64 0x3eb0_c6f7_a0b5_ed8d

abbrev pub least_damping : Float
least_damping = of_bits binary64 0x3d71_9799_812d_ea11

abbrev pub least_diagonal : Float
least_diagonal = of_bits binary64 0x3d71_9799_812d_ea11

abbrev pub least_determinant : Float
least_determinant = of_bits binary64 0x3af3_57c2_99a8_8ea7

-- a gradient is flat up to 1e-6
abbrev pub flat_gradient : Float
flat_gradient = of_bits binary64 0x3eb0_c6f7_a0b5_ed8d

-- the poll's radius: 1e-2 at first, not below 1e-7
abbrev pub first_radius : Float
first_radius = of_bits binary64 0x3f84_7ae1_47ae_147b

abbrev pub least_radius : Float
least_radius = of_bits binary64 0x3e7a_d7f2_9abc_af48

-- a negative variance counts as 0 down to 1e-12 of its larger part, or of 1
abbrev pub variance_tolerance : Float
variance_tolerance = of_bits binary64 0x3d71_9799_812d_ea11

-- warnings: sensitivity ratio below 0.2, condition above 1000, prior dominance from 0.8
abbrev pub least_sensitivity_ratio : Float
least_sensitivity_ratio = of_bits binary64 0x3fc9_9999_9999_999a

abbrev pub largest_condition : Float
largest_condition = of_bits binary64 0x408f_4000_0000_0000

abbrev pub prior_dominance : Float
prior_dominance = of_bits binary64 0x3fe9_9999_9999_999a

-- 2^-52, Rust's f64::EPSILON
abbrev pub epsilon : Float
epsilon = of_bits binary64 0x3cb0_0000_0000_0000
