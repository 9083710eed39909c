-- The fit of a finished run, and a change of its requested distances, over plain values. Assumes nothing.
use Rattle.std.proofs.Common.{ℕ, ◌≤◌, ◌≡◌, refl, sym, ap, ◌∙◌, Bool, true, false, None, Some, arith, le-leb}
use Rattle.std.proofs.lemmas.Bool.{and_parts, and_from, ltb-true}
use Rattle.std.proofs.lemmas.Float.{T_from_true}
use Rattle.std.specs.Prelude.{T, leb, ◌&&◌}
use Rattle.definition.specs.Session.{State, asking, standing, over as ended, finished_in, either}
use Rattle.definition.specs.Whole.{Edit, put_in, take_out, exchange, placed, edited, edited_rows, renewed}
use Rattle.definition.specs.declared.Row.{Row}
use Rattle.lists.specs.Lists.{requested_in}
use Rattle.lists.specs.Changing.{edit_of, size_after, roomy, rows_from}
use Rattle.lists.specs.declared.Change.{Change}
use Rattle.lists.specs.declared.Wanted.{Wanted}
use Rattle.report_parts.specs.Parts.{BandsCount}
use Rattle.stencil.specs.Stencil.{rows_at}
use Rattle.stencil.specs.declared.StencilRows.{StencilRows}
use Rattle.phases.specs.Phases.{finished_of}
use Rattle.phases.specs.declared.Phase.TheVariants.{Ended}
use Rattle.run_body.specs.Meaning.{held_of}
use Rattle.session.specs.Meaning.{state, stands_in}
use Rattle.finished_run.specs.Changing.{fitted_in, changed_from, Changed}
use Rattle.session.specs.declared.Session.{Session}
use Rattle.run_body.proofs.Laws.{wanted_within}
use Rattle.session.proofs.Laws.{state_within}
use Rattle.finished_run.proofs.Reading.{is_standing, not_standing, standing_within}

-- ---- the fit of a finished run

pub fitted_none : (s : Session) → stands_in s ≡ false → None ≡ fitted_in (state s)
fitted_none s f = rw (not_standing s f)

pub fitted_some : (s : Session) (n : ℕ) → stands_in s ≡ true → BandsCount s.body.wanted s.body.rows n
    → Some (s.body.progress.point, n) ≡ fitted_in (state s)
fitted_some s n st count = rw (is_standing s st, count.requested (wanted_within s.body (standing_within s st)))

-- ---- a change

size_within : (e : Edit) (n : ℕ) → n ≤ 64 → roomy e n ≡ true → size_after e n ≤ 64
size_within (put_in i d) n h r = let l = ltb-true n 64 r in omega arith
size_within (take_out i) n h r = omega arith
size_within (exchange i d) n h r = h

module _ (s : Session) (x : Change) (row : Row) where
  pub not_changed : stands_in s ≡ false → Changed s (edit_of x) (rows_from row) s
  not_changed f = record { is = by (state s) (not_standing s f) }
    where
      by : (t : State) → finished_in t ≡ None → changed_from t s (edit_of x) (rows_from row) s
      by (asking kept t) g = refl
      by (standing c) g = absurd (cc)
      by ended g = refl

  module _ (n : ℕ) (st : stands_in s ≡ true) (count : BandsCount s.body.wanted s.body.rows n) where
    few : s.body.wanted.n ≤ 64
    few = wanted_within s.body (standing_within s st)

    fits : (b : Bool) (r : Session) → (placed (edit_of x) n && roomy (edit_of x) n) ≡ b
        → either b ((state r ≡ standing (renewed (finished_of (held_of s.body)) (edit_of x) (rows_from row))) × (r.asked ≡ s.asked)) (r ≡ s)
        → Changed s (edit_of x) (rows_from row) r
    fits b r e f = record { is = rw (is_standing s st, count.requested few, e) f }

    -- the edit does not fit the list
    pub not_fitting : (placed (edit_of x) n && roomy (edit_of x) n) ≡ false → Changed s (edit_of x) (rows_from row) s
    not_fitting e = fits false s e refl

    -- it does: where the functions that change the arrays say what they give
    pub is_changed : (w : Wanted) (t : StencilRows 64) → (placed (edit_of x) n && roomy (edit_of x) n) ≡ true
        → (s.body.wanted.n ≤ 64 → T (placed (edit_of x) s.body.wanted.n) → T (roomy (edit_of x) s.body.wanted.n)
        → (requested_in w ≡ edited (edit_of x) (requested_in s.body.wanted)) × (w.n ≡ size_after (edit_of x) s.body.wanted.n))
        → (n ≤ 64 → T (placed (edit_of x) n) → T (roomy (edit_of x) n)
        → rows_at (size_after (edit_of x) n) t ≡ edited_rows (edit_of x) (rows_from row) (rows_at n s.body.rows))
        → Changed s (edit_of x) (rows_from row) (record { body = record s.body { wanted = w; rows = t }; phase = Ended; asked = s.asked })
    is_changed w t e list rows =
        let b = record s.body { wanted = w; rows = t } in
        let at : n ≡ s.body.wanted.n = count.places in
        let h : n ≤ 64 = omega (arith, few) in
        let p = and_parts (placed (edit_of x) n) (roomy (edit_of x) n) e in
        let placed_is : T (placed (edit_of x) n) = T_from_true _ p.0 in
        let roomy_is : T (roomy (edit_of x) n) = T_from_true _ p.1 in
        let new = list few (rw at at placed_is) (rw at at roomy_is) in
        let size : w.n ≡ size_after (edit_of x) n = new.1 ∙ ap (size_after (edit_of x)) (sym at) in
        let bound = size_within (edit_of x) n h p.1 in
        let same : rows_at w.n t ≡ edited_rows (edit_of x) (rows_from row) (rows_at s.body.wanted.n s.body.rows) =
        ap (λ (m : ℕ). rows_at m t) size ∙ rows h placed_is roomy_is
        ∙ ap (λ (m : ℕ). edited_rows (edit_of x) (rows_from row) (rows_at m s.body.rows)) at in
        fits true (record { body = b; phase = Ended; asked = s.asked }) e (
          state_within (record { body = b; phase = Ended; asked = s.asked })
              (and_from _ _ (and_parts (leb s.body.shots.n 64) (leb s.body.wanted.n 64) (standing_within s st)).0 (le-leb w.n 64 (omega arith)))
              ∙ ap standing (λ i. record (finished_of (held_of s.body)) { requested = new.0 i; band_rows = same i }),
          refl,
        )
