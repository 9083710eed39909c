-- `report_text::put_each` meets its contract. Assumes nothing.
use Rattle.std.specs.Prelude.{option_map}
use Rattle.std.proofs.Common.{refl, sym, ap, ◌∙◌, true, false}
use Rattle.report_text.specs.Writer.{held}
use Rattle.report_text.proofs.Listing.{none_there, put_first, put_later, nil_no_more}
use Rattle.report_text.proofs.Putting.{put_nothing}
use Rattle.report_text.proofs.lists.put_each.Goals as goal
use Rattle.report_text.proofs.lists.put_each.Goals.{in-Some, then-not-is_first, else-not-is_first, in_default}

pub loop-i-init : goal.loop-i-init
unfolding held
loop-i-init g c = record { written = sym (put_nothing _ c.args.w.now.within); first = refl }

pub loop-i-preserved : goal.loop-i-preserved
loop-i-preserved g c =
    elim c.match-get.branch [
      | in-Some w ↦
          let e = sym c.get.ensures ∙ ap (option_map g.P.Item.Text.text) w.in-Some.is in
          let n = nil_no_more (g.P.Places.texts c.args.places.now) c.loop-i.i _ e in
          elim w.if-not-is_first.branch [
            | then-not-is_first v ↦
                let q = put_later (held c.args.w.now) (held c.loop-i.w) c.args.between.now (g.P.Places.texts c.args.places.now) c.loop-i.i _ e
                c.loop-i.invariant.written (sym c.loop-i.invariant.first ∙ v.if-not-is_first.true) in
                record { written = cc; first = cc }
            | else-not-is_first v ↦
                let q = put_first (held c.args.w.now) (held c.loop-i.w) c.args.between.now (g.P.Places.texts c.args.places.now) c.loop-i.i _ e
                c.loop-i.invariant.written (sym c.loop-i.invariant.first ∙ v.if-not-is_first.false) in
                record { written = cc; first = cc }
          ]
      | in_default w ↦
          let e = sym c.get.ensures ∙ ap (option_map g.P.Item.Text.text) w.in_default.is in
          let n = none_there (g.P.Places.texts c.args.places.now) c.loop-i.i e in
          record { written = cc; first = cc }
    ]
