-- What a session is between two calls: it stands for what is left of the run or of the last edit, over the opening's lists.
use Rattle.std.specs.Prelude.{◌≡◌, Option, None, Some}
use Rattle.definition.specs.Request.{Opening}
use Rattle.definition.specs.Run.{Run, Which, shots, distances, new}
use Rattle.definition.specs.Laws.{Asks, put}
use Rattle.definition.specs.Summary.{Finished}
use Rattle.definition.specs.Whole.{whole}
use Rattle.definition.specs.declared.Point.{Point}
use Rattle.definition.specs.Session as meaning
use Rattle.definition.specs.Session.{sizes_for, Sized}
use Rattle.editing.specs.Meaning.{state, seen}
use Rattle.editing.specs.declared.Session.{Session}
use Rattle.demands.specs.Calls.{Editing, At, rest_at, kept_by}
use Rattle.demands.specs.Demands.{count}

abbrev pub IsNew : Point → Which → Type 0
IsNew p shots = ⊥
IsNew p distances = ⊥
IsNew p (new d) = Unit {0}

-- an edit puts at most the five, about its new distance alone
abbrev pub News : Option Editing → Run Finished → Type 0
News None t = Unit {0}
News (Some x) t = Asks IsNew 5 t

pub record Inv (o : Opening) (t : At) (s : Session) : Type 0 where
  pub leads : state s ≡ meaning.after (kept_by t.last) (rest_at o t)
  pub sized : Sized (kept_by t.last) (sizes_for o) (seen s).sizes
  pub news : News t.last (rest_at o t)
  pub counts : count s ≡ put (whole o) t.run
