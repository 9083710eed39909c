-- What the checks let pass.
use Prim.Native.Nat.{ℕ, zero, suc, ◌≤◌}
use mathlib.Core.Path.{◌≡◌, refl}
use mathlib.Core.Bool.{Bool, true, false}
use mathlib.Core.List.{List}
use borrow.Author.Tests.{leb-true}
use lib.Dec.{leb}
use lib.ListN.{length}
use Rattle.definition.specs.Lists.{first_at}
use Rattle.definition.specs.Request.{Requested, Measured, Opening}
use Rattle.definition.specs.Run.{Run, done, refuse, ask, bind, require, unless}
use Rattle.definition.specs.Whole.{faulty_requested, checked_point, checked_count, checked_measured, checked_requested}
use Rattle.opening.specs.Opening.{checked_of}

-- a check that passes passes each of its parts
bind_done : (t u : Run (Unit {0})) → bind t (λ x. u) ≡ done tt → (t ≡ done tt) × (u ≡ done tt)
bind_done (done tt) u e = (refl, e)
bind_done (refuse n i) u e = absurd cc
bind_done (ask p w k) u e = absurd cc

require_done : (b : Bool) (n i : ℕ) → require b n i ≡ done tt → b ≡ true
require_done true n i e = refl
require_done false n i e = cc

unless_done : (i n : ℕ) → unless i n ≡ done tt → i ≡ 0
unless_done zero n e = refl
unless_done (suc i) n e = cc

pub measured_count : (m : Measured) → checked_measured m ≡ done tt → length m.observations ≤ 64
unfolding checked_measured checked_count
measured_count m e =
    let n = length m.observations in
    let count = (bind_done (checked_count m.observations) _ (bind_done (checked_point m.entered) _ e).1).0 in
    leb-true n 64 (require_done _ 3 0 (bind_done (require (leb 2 n) 2 0) (require (leb n 64) 3 0) count).1)

requested_parts : (ds : List Requested) → checked_requested ds ≡ done tt
    → (require (leb (length ds) 64) 6 0 ≡ done tt) × (unless (first_at faulty_requested ds) 7 ≡ done tt)
unfolding checked_requested
requested_parts ds e = bind_done (require (leb (length ds) 64) 6 0) (unless (first_at faulty_requested ds) 7) e

pub requested_count : (ds : List Requested) → checked_requested ds ≡ done tt → length ds ≤ 64
requested_count ds e = leb-true (length ds) 64 (require_done _ 6 0 (requested_parts ds e).0)

pub requested_sound : (ds : List Requested) → checked_requested ds ≡ done tt → first_at faulty_requested ds ≡ 0
requested_sound ds e = unless_done _ 7 (requested_parts ds e).1

pub checked_parts : (o : Opening) → checked_of o ≡ done tt → (checked_measured o.measured ≡ done tt) × (checked_requested o.requested ≡ done tt)
checked_parts o e = bind_done (checked_measured o.measured) (checked_requested o.requested) e
