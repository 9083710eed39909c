-- The demonstration solver, as a function of a point, a unit and one distance. Each operation rounds once; constants stand by their bits, with their decimals
-- beside them.
use Rattle.std.specs.Prelude.{ℕ, zero, suc, Bool, cond, ◌&&◌, ◌≡◌, List, map, Float, None, Some}
use Rattle.std.specs.Float.{binary64}
use Rattle.std.specs.Float.Ieee.{of_bits, lt, le}
use Rattle.numeric.specs.Numeric.{zero64, within_of}
use Rattle.numeric.specs.Drop.{express_of}
use Rattle.numeric.specs.declared.DropUnit.{DropUnit}
use Rattle.definition.specs.Constants.{◌⊕◌, ◌⊖◌, ◌⊗◌, ◌⊘◌}
use Rattle.definition.specs.Run as run
use Rattle.definition.specs.declared.Point.{Point}
use Rattle.slices.specs.Slices.{laid_over}
use Rattle.point_mass.specs.declared.Flight.{Flight}

-- ---- the points that are not refused

-- a finite speed from 100 to 6000 fps and a finite coefficient from 0.01 to 3, ends included
unfoldable pub is_sane : Point → Bool
is_sane p =
    within_of (of_bits binary64 0x4059_0000_0000_0000) (of_bits binary64 0x40b7_7000_0000_0000) p.mv
    && within_of (of_bits binary64 0x3f84_7ae1_47ae_147b) (of_bits binary64 0x4008_0000_0000_0000) p.bc

-- ---- one step

-- 950 and 1250 fps, between which the drag coefficient rises
abbrev pub slower : Float
slower = of_bits binary64 0x408d_b000_0000_0000

abbrev pub faster : Float
faster = of_bits binary64 0x4093_8800_0000_0000

-- 0.2 up to 950 fps, then 0.0015 more for each fps up to 1250, then 0.65 less 0.00008 for each
unfoldable pub drag_of : Float → Float
drag_of v =
    let low = of_bits binary64 0x3fc9_9999_9999_999a in
    cond (lt v slower) low
    (cond (lt v faster) (low ⊕ (v ⊖ slower) ⊗ of_bits binary64 0x3f58_9374_bc6a_7efa)
    (of_bits binary64 0x3fe4_cccc_cccc_cccd ⊖ (v ⊖ faster) ⊗ of_bits binary64 0x3f14_f8b5_88e3_68f1))

-- 1 / 512 of a second and 1 / 1024
abbrev pub time : Float
time = of_bits binary64 0x3f60_0000_0000_0000

abbrev pub half_time : Float
half_time = of_bits binary64 0x3f50_0000_0000_0000

-- 32.174 ft/s²
abbrev pub gravity : Float
gravity = of_bits binary64 0x4040_1645_a1ca_c083

-- the first-order flat-fire expansion of the length of the velocity, vx + vy² / 2 vx: good to a millionth at a slug's flat angles, where vy is below a
-- twentieth of vx
abbrev pub speed_of : Float → Float → Float
speed_of vx vy = vx ⊕ vy ⊗ vy ⊘ (vx ⊕ vx)

-- drag along the velocity and gravity down, over one step; the place goes on by the mean of the speeds before and after. k is 2.08551e-4 over the coefficient.
unfoldable pub step_of : Float → Flight → Flight
step_of k s =
    let speed = speed_of s.vx s.vy in
    let rate = drag_of speed ⊗ k ⊗ speed in
    let vx = s.vx ⊖ rate ⊗ s.vx ⊗ time in
    let vy = s.vy ⊕ (gravity ⊖ rate ⊗ s.vy) ⊗ time in
    record { x = s.x ⊕ (s.vx ⊕ vx) ⊗ half_time; y = s.y ⊕ (s.vy ⊕ vy) ⊗ half_time; vx = vx; vy = vy }

-- ---- the flight

-- how far down at x, on the straight line from one place to the next
unfoldable pub on_line : Flight → Flight → Float → Float
on_line s t x = s.y ⊕ (x ⊖ s.x) ⊘ (t.x ⊖ s.x) ⊗ (t.y ⊖ s.y)

-- how far down the slug is when it has come x feet: missing where the steps are used up, or where it has become slower than 50 fps
unfoldable pub flight : ℕ → Float → Float → Flight → run.Entry
flight zero k x s = None
flight (suc n) k x s =
    let t = step_of k s in
    cond (lt s.vx (of_bits binary64 0x4049_0000_0000_0000)) None (cond (le x t.x) (Some (on_line s t x)) (flight n k x t))

-- ---- the answer

-- from feet to metres (0.3048), the distance from yards to metres (0.9144), and on to the unit
unfoldable pub in_unit : DropUnit → Float → run.Entry → run.Entry
in_unit unit yards None = None
in_unit unit yards (Some y) =
    Some (express_of unit (y ⊗ of_bits binary64 0x3fd3_81d7_dbf4_87fd) (yards ⊗ of_bits binary64 0x3fed_42c3_c9ee_cbfb))

-- at the muzzle, with all speed forward
abbrev pub muzzle : Float → Flight
muzzle mv = record { x = zero64; y = zero64; vx = mv; vy = zero64 }

-- S3's "pointwise": the entry at a distance in yards is a function of the point and that distance alone. At most 4,096 steps; 3 feet to the yard.
unfoldable pub entry_at : Point → DropUnit → Float → run.Entry
entry_at p unit yards =
    cond (is_sane p && lt zero64 yards)
    (in_unit unit yards (flight 4096 (of_bits binary64 0x3f2b_55cf_72f7_f7d1 ⊘ p.bc) (yards ⊗ of_bits binary64 0x4008_0000_0000_0000) (muzzle p.mv)))
    None

abbrev pub entries_at : Point → DropUnit → List Float → List run.Entry
entries_at p unit yards = map (entry_at p unit) yards

-- the entries laid over the first places of a list; the places behind are as they were
pub record Filled (p : Point) (unit : DropUnit) (yards : List Float) (entries₀ entries₁ : List run.Entry) : Type 0 where
  pub entries : entries₁ ≡ laid_over (entries_at p unit yards) entries₀
