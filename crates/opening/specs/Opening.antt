-- What the opening's checks say.
use Rattle.std.specs.Prelude.{Result, Ok, Err}
use Rattle.criteria.specs.Criteria.{mv_min, mv_max, bc_min, bc_max}
use Rattle.definition.specs.Request.{Opening}
use Rattle.definition.specs.Refusals.{number_of}
use Rattle.definition.specs.Run.{Run, done, refuse, bind, require}
use Rattle.definition.specs.Whole.{sound_prior_of, checked_measured, checked_requested}
use Rattle.definition.specs.declared.Refusal.{Refusal}
use Rattle.definition.specs.declared.TruingPriorsV1.{TruingPriorsV1}

-- what each case of a check says
abbrev pub checked_says : Result (Unit {0}) Refusal → Run (Unit {0})
checked_says (Ok u) = done tt
checked_says (Err r) = refuse (number_of r.code) r.position

-- refusal 5, the speed's prior first
abbrev pub checked_priors : TruingPriorsV1 → Run (Unit {0})
checked_priors p =
    bind (require (sound_prior_of mv_min mv_max p.muzzle_velocity_fps) 5 1) (λ u. require (sound_prior_of bc_min bc_max p.ballistic_coefficient) 5 2)

-- refusals 1 to 7, in order
abbrev pub checked_of : Opening → Run (Unit {0})
checked_of o = bind (checked_measured o.measured) (λ u. checked_requested o.requested)
