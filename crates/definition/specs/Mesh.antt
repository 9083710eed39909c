-- `polish_and_verify_objective_mesh`: the poll. A pass looks in eight directions at one radius; the best candidate with a material gain is the next centre,
-- and without one the radius is quartered, down to 1e-7. At most 1,024 candidates are evaluated.
use Rattle.std.specs.Prelude.{ℕ, zero, suc, Bool, cond, ◌&&◌, List, [], ◌∷◌, Float}
use Rattle.std.specs.Float.Ieee.{neg, lt, eq}
use Rattle.numeric.specs.Numeric.{zero64, one64, max_of, clamp_of}
use Rattle.numeric.specs.Poll.{direction_of}
use Rattle.numeric.specs.declared.Direction.{Direction}
use Rattle.matrix.specs.declared.Symmetric2.{Symmetric2}
use Rattle.criteria.specs.Criteria.{mv_min, mv_max, bc_min, bc_max, material_of}
use Rattle.definition.specs.Constants.{◌⊕◌, ◌⊖◌, ◌⊗◌, quarter, mv_scale, bc_scale, first_radius, least_radius}
use Rattle.definition.specs.Request.{Measured}
use Rattle.definition.specs.Run.{Run, done, ◌>>=◌}
use Rattle.definition.specs.Likelihood.{objective}
use Rattle.definition.specs.declared.Point.{Point}

-- how a fit was verified, if it was; the mesh with its final radius and the largest gain found there
pub data Convergence : Type 0 where
  not_converged scaled_gradient : Convergence
  objective_mesh : (radius improvement : Float) → Convergence

pub record Poll : Type 0 where
  pub point : Point
  pub convergence : Convergence
  pub evaluations : ℕ

-- a point within the bounds of the fit
unfoldable pub bounded_of : Float → Float → Point
bounded_of mv bc = record { mv = clamp_of mv mv_min mv_max; bc = clamp_of bc bc_min bc_max }

abbrev pub direction : Float → Float → Point
direction mv bc = record { mv = mv; bc = bc }

-- the four coordinate directions, then the poll direction and its turns
abbrev pub directions : Direction → List Point
directions d =
    direction one64 zero64
    ∷ direction (neg one64) zero64
    ∷ direction zero64 one64
    ∷ direction zero64 (neg one64)
    ∷ direction d.cos d.sin
    ∷ direction (neg d.cos) (neg d.sin)
    ∷ direction (neg d.sin) d.cos
    ∷ direction d.sin (neg d.cos)
    ∷ []

unfoldable pub candidate_of : Float → Point → Point → Point
candidate_of radius centre d = bounded_of (centre.mv ⊕ radius ⊗ d.mv ⊗ mv_scale) (centre.bc ⊕ radius ⊗ d.bc ⊗ bc_scale)

unfoldable pub unmoved_of : Point → Point → Bool
unmoved_of p q = eq p.mv q.mv && eq p.bc q.bc

-- the radius after a pass without a material gain
unfoldable pub quartered_of : Float → Float
quartered_of radius = max_of (radius ⊗ quarter) least_radius

-- A pass: its radius and how many smaller ones are to come, its centre with the objective there, the directions not yet looked at, and the best seen so far.
-- 1e-2 can be quartered nine times, and the tenth radius is 1e-7 (`ten_radii`).
pub record Pass : Type 0 where
  pub axis : Direction
  pub radius : Float
  pub smaller : ℕ
  pub centre : Point
  pub current : Float
  pub remaining : List Point
  pub best : Float
  pub best_point : Point
  pub evaluations : ℕ

-- what comes next in the poll: a candidate to be evaluated, or its end
pub data PollStep : Type 0 where
  evaluates : Point → Pass → PollStep
  ended : Poll → PollStep

-- the next direction that leads to another point than the centre; an unmoved candidate is skipped and not counted
pub data Looked : Type 0 where
  moved : Point → List Point → Looked
  none_moved : Looked

unfoldable pub look : Float → Point → List Point → Looked
look radius centre [] = none_moved
look radius centre (d ∷ ds) =
    let c = candidate_of radius centre d in
    cond (unmoved_of c centre) (look radius centre ds) (moved c ds)

-- a pass that begins
abbrev pub pass_at : Direction → Float → ℕ → Point → Float → ℕ → List Point → Pass
pass_at axis radius smaller centre current evaluations remaining = record {
  axis = axis;
  radius = radius;
  smaller = smaller;
  centre = centre;
  current = current;
  remaining = remaining;
  best = current;
  best_point = centre;
  evaluations = evaluations;
}

abbrev pub on_look : Looked → PollStep → (Point → List Point → PollStep) → PollStep
on_look none_moved none some = none
on_look (moved c ds) none some = some c ds

-- the poll's end at a radius where no direction had a material gain
abbrev pub searched : Float → Point → Float → Float → ℕ → Poll
searched radius centre current best evaluations =
    record { point = centre; convergence = objective_mesh radius (max_of (current ⊖ best) zero64); evaluations = evaluations }

-- a pass from its first direction on; `none` is what follows where every candidate is unmoved
abbrev pub from_first : Direction → Float → ℕ → Point → Float → ℕ → PollStep → PollStep
from_first axis radius smaller centre current n none =
    on_look (look radius centre (directions axis)) none (λ c ds. evaluates c (pass_at axis radius smaller centre current n ds))

-- after a pass without a material gain: the next radius, or the end
unfoldable pub ungained : Direction → Float → ℕ → Point → Float → Float → ℕ → PollStep
ungained axis radius zero centre current best n = ended (searched radius centre current best n)
ungained axis radius (suc smaller) centre current best n =
    let r = quartered_of radius in
    from_first axis r smaller centre current n (ungained axis r smaller centre current current n)

-- a new pass: where every candidate is unmoved, the best is the current one, and nothing is gained
unfoldable pub begin : Direction → Float → ℕ → Point → Float → ℕ → PollStep
begin axis radius smaller centre current n = from_first axis radius smaller centre current n (ungained axis radius smaller centre current current n)

abbrev pub with_remaining : Pass → List Point → Pass
with_remaining s ds = record {
  axis = s.axis;
  radius = s.radius;
  smaller = s.smaller;
  centre = s.centre;
  current = s.current;
  remaining = ds;
  best = s.best;
  best_point = s.best_point;
  evaluations = s.evaluations;
}

-- the pass has looked in all eight directions: a material gain moves the centre and keeps radius and directions
unfoldable pub judged : Pass → PollStep
judged s = cond (material_of s.current s.best)
    (begin s.axis s.radius s.smaller s.best_point s.best s.evaluations)
    (ungained s.axis s.radius s.smaller s.centre s.current s.best s.evaluations)

unfoldable pub poll_step : Pass → PollStep
poll_step s = on_look (look s.radius s.centre s.remaining) (judged s) (λ c ds. evaluates c (with_remaining s ds))

-- a candidate's objective is there: it is the best if it is below the best so far
unfoldable pub seen : Point → Float → Pass → Pass
seen c value s =
    let better = lt value s.best in
    record {
      axis = s.axis;
      radius = s.radius;
      smaller = s.smaller;
      centre = s.centre;
      current = s.current;
      remaining = s.remaining;
      best = cond better value s.best;
      best_point = cond better c s.best_point;
      evaluations = suc s.evaluations;
    }

abbrev pub stopped_at : ℕ → Pass → Poll
stopped_at zero s = searched s.radius s.centre s.current s.best s.evaluations
stopped_at (suc smaller) s = record { point = s.centre; convergence = not_converged; evaluations = s.evaluations }

-- The limit of evaluations stops the poll in or after a pass. A gain is kept; without one the last radius still counts as searched, also where the pass was
-- cut.
unfoldable pub stopped : Pass → Poll
stopped s = cond (material_of s.current s.best) (record { point = s.best_point; convergence = not_converged; evaluations = s.evaluations })
    (stopped_at s.smaller s)

module _ (m : Measured) where
  abbrev pub on_poll_step : (Pass → Run Poll) → PollStep → Run Poll
  on_poll_step go (ended r) = done r
  on_poll_step go (evaluates c s) = do
    value ← objective m c
    go (seen c value s)

  -- the poll with so many evaluations left
  unfoldable pub poll : ℕ → Pass → Run Poll
  poll zero s = done (stopped s)
  poll (suc left) s = on_poll_step (poll left) (poll_step s)

abbrev pub first_pass : Symmetric2 → Point → Float → Pass
first_pass information centre current =
    let axis = direction_of information.a00 information.a01 information.a11 in
    pass_at axis first_radius 9 centre current 0 (directions axis)
