-- The figures, computed. Assumes nothing.
use mathlib.Core.Path.{refl}
use lib.Ieee.{add, sub, mul, div, lt, eq, le, of_bits}
use Rattle.numeric.specs.Numeric.{finite, within_of}
use Rattle.numeric.specs.Drop.{express_of}
use Rattle.point_mass.specs.Flight.{is_sane, drag_of, step_of, on_line, flight, in_unit, entry_at}
use Rattle.point_mass.specs.Figures.{Figures}

pub figures : Figures
unfolding is_sane drag_of step_of on_line flight in_unit entry_at within_of finite express_of add sub mul div lt eq le of_bits
figures = (refl, refl, refl, refl, refl, refl, refl, refl, refl)
