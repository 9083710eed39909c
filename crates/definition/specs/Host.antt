-- Hosts: what a run comes to when each question gets its reply.
use Rattle.std.specs.Prelude.{ℕ, zero, suc}
use Rattle.definition.specs.Run.{Run, done, refuse, ask, Reply, Which}
use Rattle.definition.specs.declared.Point.{Point}

-- how a run ends: with its value, or with a refusal's number and position
pub data Outcome (A : Type 0) : Type 0 where
  ends : A → Outcome A
  refuses : ℕ → ℕ → Outcome A

-- a host that gives equal replies to equal questions
abbrev pub Host : Type 0
Host = Point → Which → Reply

module _ {A : Type 0} (host : Host) where
  abbrev pub play : Run A → Outcome A
  play (done a) = ends a
  play (refuse n i) = refuses n i
  play (ask p w k) = play (k (host p w))

  -- how many questions are put
  abbrev pub questions : Run A → ℕ
  questions (done a) = zero
  questions (refuse n i) = zero
  questions (ask p w k) = suc (questions (k (host p w)))
