-- The contracts of the calls from where a session stands, for whatever shows it. Assumes nothing.
use Rattle.std.specs.Prelude.{eqb, Option, Some}
use mathlib.Core.Path.{◌≡◌, sym, subst}
use mathlib.Core.Bool.{Bool, true, false}
use mathlib.Core.List.{List}
use lib.ListN.{length}
use Rattle.definition.specs.Run.{Run, ask, Reply, refused, entries, Entry, Which}
use Rattle.definition.specs.Summary.{Finished}
use Rattle.definition.specs.Whole.{Edit, placed, edit}
use Rattle.definition.specs.Session.{State, asking, standing, over, Said, wants, either, Seen, Declines, goes_on, entries_taken}
use Rattle.definition.specs.Session.{refusal_taken, edit_taken, Replied, PointRefused, Edited}
use Rattle.definition.specs.declared.Point.{Point}

-- no question is open
abbrev pub Closed : State → Type 0
Closed over = Unit {0}
Closed (standing c) = Unit {0}
Closed (asking kept t) = ⊥

-- no report stands
abbrev pub Unfinished : State → Type 0
Unfinished over = Unit {0}
Unfinished (standing c) = ⊥
Unfinished (asking kept t) = Unit {0}

module _ {S : Type 0} (seen : S → Seen) (s : S) (said : Said) (r : S) where
  module _ (es : List Entry) where
    pub reply_closed : (x : State) → (seen s).state ≡ x → Closed x → Declines seen said r s 8 → Replied seen s es said r
    reply_closed over e c d = record { is = subst (λ (y : State). entries_taken seen y s es said r) (sym e) d }
    reply_closed (standing f) e c d = record { is = subst (λ (y : State). entries_taken seen y s es said r) (sym e) d }
    reply_closed (asking kept t) e c d = absurd c

    module _ (kept : Option Finished) (p : Point) (w : Which) (k : Reply → Run Finished) (e : (seen s).state ≡ asking kept (ask p w k)) where
      by_length : (b : Bool) → eqb (length es) (wants (seen s).sizes w) ≡ b
          → either b (goes_on seen s kept (k (entries es)) said r) (Declines seen said r s 9) → Replied seen s es said r
      by_length b l d = record {
        is =
            subst (λ (y : State). entries_taken seen y s es said r) (sym e)
            (subst (λ (x : Bool). either x (goes_on seen s kept (k (entries es)) said r) (Declines seen said r s 9)) (sym l) d);
      }

      pub reply_wrong : eqb (length es) (wants (seen s).sizes w) ≡ false → Declines seen said r s 9 → Replied seen s es said r
      reply_wrong l d = by_length false l d

      pub reply_taken : eqb (length es) (wants (seen s).sizes w) ≡ true → goes_on seen s kept (k (entries es)) said r
          → Replied seen s es said r
      reply_taken l d = by_length true l d

  pub refusal_closed : (x : State) → (seen s).state ≡ x → Closed x → Declines seen said r s 8 → PointRefused seen s said r
  refusal_closed over e c d = record { is = subst (λ (y : State). refusal_taken seen y s said r) (sym e) d }
  refusal_closed (standing f) e c d = record { is = subst (λ (y : State). refusal_taken seen y s said r) (sym e) d }
  refusal_closed (asking kept t) e c d = absurd c

  pub refusal_taken_lem : (kept : Option Finished) (p : Point) (w : Which) (k : Reply → Run Finished) → (seen s).state ≡ asking kept (ask p w k)
      → goes_on seen s kept (k refused) said r → PointRefused seen s said r
  refusal_taken_lem kept p w k e d = record { is = subst (λ (y : State). refusal_taken seen y s said r) (sym e) d }

  module _ (e : Edit) where
    pub edit_unfinished : (x : State) → (seen s).state ≡ x → Unfinished x → Declines seen said r s 14 → Edited seen s e said r
    edit_unfinished over q u d = record { is = subst (λ (y : State). edit_taken seen y s e said r) (sym q) d }
    edit_unfinished (standing f) q u d = absurd u
    edit_unfinished (asking kept t) q u d = record { is = subst (λ (y : State). edit_taken seen y s e said r) (sym q) d }

    module _ (c : Finished) (q : (seen s).state ≡ standing c) where
      by_place : (b : Bool) → placed e (length c.requested) ≡ b → either b (goes_on seen s (Some c) (edit c e) said r) (Declines seen said r s 15)
          → Edited seen s e said r
      by_place b l d = record {
        is =
            subst (λ (y : State). edit_taken seen y s e said r) (sym q)
            (subst (λ (x : Bool). either x (goes_on seen s (Some c) (edit c e) said r) (Declines seen said r s 15)) (sym l) d);
      }

      pub edit_misplaced : placed e (length c.requested) ≡ false → Declines seen said r s 15 → Edited seen s e said r
      edit_misplaced l d = by_place false l d

      pub edit_taken_lem : placed e (length c.requested) ≡ true → goes_on seen s (Some c) (edit c e) said r → Edited seen s e said r
      edit_taken_lem l d = by_place true l d
