-- The five questions about a list of distances (`truing_jacobian_rows`), one after another: what is left of them before each reply, and the rows with one reply
-- more.
use Rattle.std.specs.Prelude.{ℕ, List, [], ◌∷◌, map, take, Option, None, Some}
use Rattle.definition.specs.Lists.{first_of}
use Rattle.definition.specs.Run.{Run, done, Entry, Reading, reading_of, drop_or0, Which}
use Rattle.definition.specs.Likelihood as likelihood
use Rattle.definition.specs.Likelihood.{Rows}
use Rattle.definition.specs.declared.Point.{Point}
use Rattle.slices.specs.Slices.{laid_over}
use Rattle.stencil.specs.declared.StencilPoint.{StencilPoint}
use Rattle.stencil.specs.declared.StencilPoint.TheVariants.{Nominal, MvPlus, MvMinus, BcPlus, BcMinus}
use Rattle.stencil.specs.declared.StencilRows.{StencilRows}

-- ---- question by question

-- what is left of the five questions before the reply to one of them
abbrev pub stencil : StencilPoint → Point → Which → Rows → Run Rows
stencil Nominal p w r = likelihood.truing_jacobian_rows p w
stencil MvPlus p w r = likelihood.mv_plus p w r.predicted r.gap
stencil MvMinus p w r = likelihood.mv_minus p w r.predicted r.by_mv r.gap
stencil BcPlus p w r = likelihood.bc_plus p w r.predicted r.by_mv r.gap
stencil BcMinus p w r = likelihood.bc_minus p w r.predicted r.by_mv r.by_bc r.gap

-- its point
abbrev pub point_at : StencilPoint → Point → Point
point_at Nominal p = p
point_at MvPlus p = likelihood.mv_plus_at p
point_at MvMinus p = likelihood.mv_minus_at p
point_at BcPlus p = likelihood.bc_plus_at p
point_at BcMinus p = likelihood.bc_minus_at p

-- the five questions in order
abbrev pub five : List StencilPoint
five = Nominal ∷ MvPlus ∷ MvMinus ∷ BcPlus ∷ BcMinus ∷ []

-- the question after it, if it is not the last
abbrev pub next_of : StencilPoint → Option StencilPoint
next_of Nominal = Some MvPlus
next_of MvPlus = Some MvMinus
next_of MvMinus = Some BcPlus
next_of BcPlus = Some BcMinus
next_of BcMinus = None

-- the rows with its reply
abbrev pub rows_next : StencilPoint → Point → Rows → Reading → Rows
rows_next Nominal p r d = record { predicted = d.drops; by_mv = r.by_mv; by_bc = r.by_bc; gap = d.gap }
rows_next MvPlus p r d = record { predicted = r.predicted; by_mv = d.drops; by_bc = r.by_bc; gap = first_of r.gap d.gap }
rows_next MvMinus p r d =
    record {
      predicted = r.predicted;
      by_mv = likelihood.slopes (likelihood.mv_step_of p.mv) r.by_mv d.drops;
      by_bc = r.by_bc;
      gap = first_of r.gap d.gap;
    }
rows_next BcPlus p r d = record { predicted = r.predicted; by_mv = r.by_mv; by_bc = d.drops; gap = first_of r.gap d.gap }
rows_next BcMinus p r d =
    record {
      predicted = r.predicted;
      by_mv = r.by_mv;
      by_bc = likelihood.slopes (likelihood.bc_step_of p.bc) r.by_bc d.drops;
      gap = first_of r.gap d.gap;
    }

-- what follows its reply
abbrev pub after_reply : Option StencilPoint → Point → Which → Rows → Run Rows
after_reply None p w r = done r
after_reply (Some q) p w r = stencil q p w r

abbrev pub stencil_next : StencilPoint → Point → Which → Rows → Run Rows
stencil_next k p w r = after_reply (next_of k) p w r

-- ---- in places

module _ {N : ℕ} where
  -- the rows in all places, and those in the first n
  abbrev pub all_rows : StencilRows N → Rows
  all_rows t = record { predicted = t.predicted; by_mv = t.by_mv; by_bc = t.by_bc; gap = t.gap }

  abbrev pub rows_at : ℕ → StencilRows N → Rows
  rows_at n t = record { predicted = take n t.predicted; by_mv = take n t.by_mv; by_bc = take n t.by_bc; gap = t.gap }

-- the rows in all places with the reply to a question laid over their first: its drops, or the slopes by those at the minus point
abbrev pub laid_rows : StencilPoint → Point → List Entry → Rows → Rows
laid_rows Nominal p es r = record { predicted = laid_over (map drop_or0 es) r.predicted; by_mv = r.by_mv; by_bc = r.by_bc; gap = (reading_of es).gap }
laid_rows MvPlus p es r =
    record { predicted = r.predicted; by_mv = laid_over (map drop_or0 es) r.by_mv; by_bc = r.by_bc; gap = first_of r.gap (reading_of es).gap }
laid_rows MvMinus p es r =
    record {
      predicted = r.predicted;
      by_mv = laid_over (likelihood.slopes (likelihood.mv_step_of p.mv) r.by_mv (map drop_or0 es)) r.by_mv;
      by_bc = r.by_bc;
      gap = first_of r.gap (reading_of es).gap;
    }
laid_rows BcPlus p es r =
    record { predicted = r.predicted; by_mv = r.by_mv; by_bc = laid_over (map drop_or0 es) r.by_bc; gap = first_of r.gap (reading_of es).gap }
laid_rows BcMinus p es r =
    record {
      predicted = r.predicted;
      by_mv = r.by_mv;
      by_bc = laid_over (likelihood.slopes (likelihood.bc_step_of p.bc) r.by_bc (map drop_or0 es)) r.by_bc;
      gap = first_of r.gap (reading_of es).gap;
    }
