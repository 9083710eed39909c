-- `DropUnit::express_drop_m`: a drop in metres, at a distance in metres, in mil, MOA or inches.
use Rattle.std.specs.Prelude.{Float}
use Rattle.std.specs.Float.{binary64}
use Rattle.std.specs.Float.Ieee.{mul, div, of_bits}
use Rattle.numeric.specs.declared.DropUnit.{DropUnit}
use Rattle.numeric.specs.declared.DropUnit.TheVariants.{Mil, Moa, In}

-- 180/π, rounded once: 57.29577951308232
abbrev pub degrees_per_radian : Float
degrees_per_radian = of_bits binary64 0x404c_a5dc_1a63_c1f8

-- a slope in mil, 1000 to 1; minutes to a degree, 60; metres to an inch, 0.0254
abbrev pub mils_per_unit : Float
mils_per_unit = of_bits binary64 0x408f_4000_0000_0000

abbrev pub minutes_per_degree : Float
minutes_per_degree = of_bits binary64 0x404e_0000_0000_0000

abbrev pub metres_per_inch : Float
metres_per_inch = of_bits binary64 0x3f9a_0275_2546_0aa6

-- mil: drop/distance · 1000. MOA: drop/distance · 180/π · 60, left to right. Inches: drop / 0.0254, at any distance.
unfoldable pub express_of : DropUnit → Float → Float → Float
express_of Mil drop z = mul binary64 (div binary64 drop z) mils_per_unit
express_of Moa drop z = mul binary64 (mul binary64 (div binary64 drop z) degrees_per_radian) minutes_per_degree
express_of In drop z = div binary64 drop metres_per_inch
