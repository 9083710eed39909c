-- Figures of the demonstration solver. Theorem `figures`, in proofs/Figures.antt, by computation.
use Rattle.std.specs.Prelude.{◌≡◌, true, false, Float, None, Some}
use Rattle.std.specs.Float.{nan, binary64}
use Rattle.std.specs.Float.Ieee.{of_bits}
use Rattle.numeric.specs.declared.DropUnit.TheVariants.{In, Mil}
use Rattle.definition.specs.declared.Point.{Point}
use Rattle.point_mass.specs.Flight.{is_sane, speed_of, entry_at}

abbrev pub point : Float → Float → Point
point mv bc = record { mv = mv; bc = bc }

-- 2750 fps and 0.31
abbrev pub example : Point
example = point (of_bits binary64 0x40a5_7c00_0000_0000) (of_bits binary64 0x3fd3_d70a_3d70_a3d7)

-- 100 fps and 0.01
abbrev pub slow : Point
slow = point (of_bits binary64 0x4059_0000_0000_0000) (of_bits binary64 0x3f84_7ae1_47ae_147b)

-- 100 fps and 0.01, 6000 fps and 3 are sane; the next speed above 6000 and a coefficient that is no number are not. At 2000 fps forward and 100 down the speed
-- is 2002.5. At 3 yards, in the second step, the example's drop is 0.0022 inches or 0.0207 mil; at a distance of 0 it is missing. At a quarter yard, in the
-- fourth step, the slow one's drop is 0.011 inches, one unit in the last place less than with a rounded root for the speed.
abbrev pub Figures : Type 0
Figures =
    (is_sane slow ≡ true)
    × (is_sane (point (of_bits binary64 0x40b7_7000_0000_0000) (of_bits binary64 0x4008_0000_0000_0000)) ≡ true)
    × (is_sane (point (of_bits binary64 0x40b7_7000_0000_0001) (of_bits binary64 0x4008_0000_0000_0000)) ≡ false)
    × (is_sane (point (of_bits binary64 0x40a5_7c00_0000_0000) nan) ≡ false)
    × (speed_of (of_bits binary64 0x409f_4000_0000_0000) (of_bits binary64 0x4059_0000_0000_0000) ≡ of_bits binary64 0x409f_4a00_0000_0000)
    × (entry_at example In (of_bits binary64 0x4008_0000_0000_0000) ≡ Some (of_bits binary64 0x3f62_4e11_0690_d5b2))
    × (entry_at example Mil (of_bits binary64 0x4008_0000_0000_0000) ≡ Some (of_bits binary64 0x3f95_2fb0_266a_00d1))
    × (entry_at example In (of_bits binary64 0) ≡ None)
    × (entry_at slow In (of_bits binary64 0x3fd0_0000_0000_0000) ≡ Some (of_bits binary64 0x3f86_7d6f_0e2c_6c1b))
