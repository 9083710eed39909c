-- A finished run with one requested distance more, fewer or exchanged: its list and the rows of its bands change, and nothing else.
use Rattle.std.specs.Prelude.{ℕ, ◌≡◌, ◌&&◌, length, Option, option_map}
use Rattle.definition.specs.Likelihood.{Rows}
use Rattle.definition.specs.Whole.{Edit, placed, renewed}
use Rattle.definition.specs.declared.Point.{Point}
use Rattle.lists.specs.Changing.{roomy}
use Rattle.definition.specs.Session.{State, asking, standing, over, finished_in, either}
use Rattle.session.specs.Meaning.{state}
use Rattle.session.specs.declared.Session.{Session}

-- the point of the fit and the number of requested distances, where a finished run stands
abbrev pub fitted_in : State → Option (Point × ℕ)
fitted_in x = option_map (λ c. (c.fit.point, length c.requested)) (finished_in x)

-- where no finished run stands, or the edit does not fit its list, nothing changes; where it does, what the arrays hold past their lists is free
abbrev pub changed_from : State → Session → Edit → Rows → Session → Type 0
changed_from (asking kept t) s e one r = r ≡ s
changed_from (standing c) s e one r =
    either (placed e (length c.requested) && roomy e (length c.requested)) ((state r ≡ standing (renewed c e one)) × (r.asked ≡ s.asked)) (r ≡ s)
changed_from over s e one r = r ≡ s

pub record Changed (s : Session) (e : Edit) (one : Rows) (r : Session) : Type 0 where
  pub is : changed_from (state s) s e one r
