-- What a session stands for: what is left of its run.
use Rattle.std.specs.Prelude.{ℕ, Bool, cond, ◌&&◌, eqb, Option, None, Some}
use Rattle.definition.specs.Session.{State, over, Seen, Said, question, report, refusal, more_of}
use Rattle.definition.specs.declared.Distances.{Distances}
use Rattle.definition.specs.declared.RefusalCode.{RefusalCode}
use Rattle.definition.specs.declared.RefusalCode.TheVariants.{NoQuestionOpen, WrongEntryCount}
use Rattle.phases.specs.Phases.{state_at, plan_of}
use Rattle.run_body.specs.Meaning.{held_of, within_of, sizes_of, wanted_by}
use Rattle.session.specs.declared.Session.{Session}

-- a session that no call gave, beyond the limits of its lists, is over
abbrev pub state : Session → State
state s = cond (within_of s.body) (state_at (held_of s.body) s.phase) over

-- what a session shows of itself
abbrev pub seen : Session → Seen
seen s = record { state = state s; sizes = sizes_of s.body; asked = s.asked }

-- a report stands
abbrev pub stands_in : Session → Bool
stands_in s = within_of s.body && (plan_of s.phase s.body.entered).stands

-- ---- the steps of the calls

abbrev pub counted_by : Said → ℕ → ℕ
counted_by (question mv bc list) n = more_of n
counted_by report n = n
counted_by (refusal number position) n = n

-- why a reply of n entries is declined, if it is, by the distances that the open question is about
abbrev pub declined_by : Option Distances → ℕ → ℕ → ℕ → Option RefusalCode
declined_by None n shots wanted = Some NoQuestionOpen
declined_by (Some list) n shots wanted = cond (eqb n (wanted_by list shots wanted)) None (Some WrongEntryCount)
