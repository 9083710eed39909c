-- `conversation::Conversation::respond` meets its contract: a line by its form, in its place or not. Assumes nothing.
use Rattle.std.proofs.Common.{rules, ◌≡◌, ◌∙◌, sym, refl, Some, None, not}
use Rattle.definition.specs.Whole as edits
use Rattle.demands.specs.Calls.{reply, refuse_point, change}
use Rattle.lines.specs.declared.Form.TheVariants as form
use Rattle.conversation.specs.Conversation.{answer_to, takes_shot, takes_coefficient, takes_distance}
use Rattle.conversation.specs.declared.Section.TheVariants.{Shots, Priors, Distances}
use Rattle.conversation.proofs.Responses.{timely, late, is_shots, by_form, collected_responds, open_responds, asked_responds, page_responds, malformed_responds}
use Rattle.conversation.proofs.Conversation.respond.Goals.{in_default-via-in-Some-Shot+else-matches, in_default-via-in-Some-PriorSpeed+else-matches-2, in_default-via-in-Some-PriorCoefficient+else-matches-3, in_default-via-in-Some-Distance+else-not-matches, in_default-via-in-Some-Open+else-not-matches-2, in_default-via-in_default, in-Shots, in_default-matches, in-Shots-matches, in_default-matches-2, in-Shots-matches-2, in_default-matches-3, in-Closed, in_default-matches-4, in-Closed-matches, in_default-matches-5}
use Rattle.conversation.proofs.Conversation.respond.Goals as goal

pub returns-in-Some-Entered : goal.returns-in-Some-Entered
unfolding answer_to
returns-in-Some-Entered c = λ u k.
    let s = c.in-Some-Entered in
    let q : c.args.form ≡ Some (form.Entered s.entered) = search rules in
    by_form c.args.form _ q _ _ u (collected_responds c.args.self.now u k Shots Shots c.new-self.result _ refl c.new-self.ensures)

pub returns-in-Some-Shot : goal.returns-in-Some-Shot
unfolding answer_to
returns-in-Some-Shot c = λ u k.
    let s = c.in-Some-Shot in
    let q : c.args.form ≡ Some (form.Shot s.shot) = search rules in
    let e : c.match-matches.matches ≡ takes_shot c.args.self.now.section = elim c.match-matches.branch [ in-Shots w ↦ search rules | in_default-matches w ↦ search rules ] in
    by_form c.args.form _ q _ _ u (timely k takes_shot _ _ e c.if-matches.true (collected_responds c.args.self.now u k c.args.self.now.section Shots c.push_shot.new.self _ (is_shots c.args.self.now.section (sym e ∙ c.if-matches.true)) (c.push_shot.ensures u.request k.request)))

pub returns-in-Some-PriorSpeed : goal.returns-in-Some-PriorSpeed
unfolding answer_to
returns-in-Some-PriorSpeed c = λ u k.
    let s = c.in-Some-PriorSpeed in
    let q : c.args.form ≡ Some (form.PriorSpeed s.prior) = search rules in
    let e : c.match-matches-2.matches ≡ takes_shot c.args.self.now.section = elim c.match-matches-2.branch [ in-Shots-matches w ↦ search rules | in_default-matches-2 w ↦ search rules ] in
    by_form c.args.form _ q _ _ u (timely k takes_shot _ _ e c.if-matches-2.true (collected_responds c.args.self.now u k Priors Priors c.set_speed_prior.new.self _ refl (c.set_speed_prior.ensures u.request k.request)))

pub returns-in-Some-PriorCoefficient : goal.returns-in-Some-PriorCoefficient
unfolding answer_to
returns-in-Some-PriorCoefficient c = λ u k.
    let s = c.in-Some-PriorCoefficient in
    let q : c.args.form ≡ Some (form.PriorCoefficient s.prior) = search rules in
    let e : c.match-matches-3.matches ≡ takes_coefficient c.args.self.now.section = elim c.match-matches-3.branch [ in-Shots-matches-2 w ↦ search rules | in_default-matches-3 w ↦ search rules ] in
    by_form c.args.form _ q _ _ u (timely k takes_coefficient _ _ e c.if-matches-3.true (collected_responds c.args.self.now u k Distances Distances c.set_coefficient_prior.new.self _ refl (c.set_coefficient_prior.ensures u.request k.request)))

pub returns-in-Some-Distance : goal.returns-in-Some-Distance
unfolding answer_to
returns-in-Some-Distance c = λ u k.
    let s = c.in-Some-Distance in
    let q : c.args.form ≡ Some (form.Distance s.distance) = search rules in
    let e : not c.match-matches-4.matches ≡ takes_distance c.args.self.now.section = elim c.match-matches-4.branch [ in-Closed w ↦ search rules | in_default-matches-4 w ↦ search rules ] in
    by_form c.args.form _ q _ _ u (timely k takes_distance _ _ e c.if-not-matches.true-raw (collected_responds c.args.self.now u k Distances Distances c.push_distance.new.self _ refl (c.push_distance.ensures u.request k.request)))

pub returns-in-Some-Open : goal.returns-in-Some-Open
unfolding answer_to
returns-in-Some-Open c = λ u k.
    let s = c.in-Some-Open in
    let q : c.args.form ≡ Some form.Open = search rules in
    let e : not c.match-matches-5.matches ≡ takes_distance c.args.self.now.section = elim c.match-matches-5.branch [ in-Closed-matches w ↦ search rules | in_default-matches-5 w ↦ search rules ] in
    by_form c.args.form _ q _ _ u (timely k takes_distance _ _ e c.if-not-matches-2.true-raw (open_responds c.args.self.now u k c.open-a.result c.open-a.ensures))

pub returns-in-Some-Drops : goal.returns-in-Some-Drops
unfolding answer_to
returns-in-Some-Drops c = λ u k.
    let s = c.in-Some-Drops in
    let q : c.args.form ≡ Some (form.Drops s.entries) = search rules in
    by_form c.args.form _ q _ _ u (c.after_call.ensures u (reply s.entries.now) k c.reply.ensures)

pub returns-in-Some-Refused : goal.returns-in-Some-Refused
unfolding answer_to
returns-in-Some-Refused c = λ u k.
    let s = c.in-Some-Refused in
    let q : c.args.form ≡ Some form.Refused = search rules in
    by_form c.args.form _ q _ _ u (c.after_call-in-Some-Refused.ensures u refuse_point k c.refuse.ensures)

pub returns-in-Some-PutIn : goal.returns-in-Some-PutIn
unfolding answer_to
returns-in-Some-PutIn c = λ u k.
    let s = c.in-Some-PutIn in
    let q : c.args.form ≡ Some (form.PutIn s.place s.d) = search rules in
    by_form c.args.form _ q _ _ u (c.after_call-in-Some-PutIn.ensures u (change (edits.put_in s.place s.d)) k c.put_in.ensures)

pub returns-in-Some-TakeOut : goal.returns-in-Some-TakeOut
unfolding answer_to
returns-in-Some-TakeOut c = λ u k.
    let s = c.in-Some-TakeOut in
    let q : c.args.form ≡ Some (form.TakeOut s.place) = search rules in
    by_form c.args.form _ q _ _ u (c.after_call-in-Some-TakeOut.ensures u (change (edits.take_out s.place)) k c.take_out.ensures)

pub returns-in-Some-Exchange : goal.returns-in-Some-Exchange
unfolding answer_to
returns-in-Some-Exchange c = λ u k.
    let s = c.in-Some-Exchange in
    let q : c.args.form ≡ Some (form.Exchange s.place s.d) = search rules in
    by_form c.args.form _ q _ _ u (c.after_call-in-Some-Exchange.ensures u (change (edits.exchange s.place s.d)) k c.exchange.ensures)

pub returns-in-Some-Asked : goal.returns-in-Some-Asked
unfolding answer_to
returns-in-Some-Asked c = λ u k.
    let s = c.in-Some-Asked in
    let q : c.args.form ≡ Some form.Asked = search rules in
    by_form c.args.form _ q _ _ u (asked_responds c.args.self.now u k c.asked.result c.asked.ensures)

pub returns-in-Some-Page : goal.returns-in-Some-Page
unfolding answer_to
returns-in-Some-Page c = λ u k.
    let s = c.in-Some-Page in
    let q : c.args.form ≡ Some form.Page = search rules in
    by_form c.args.form _ q _ _ u (page_responds c.args.self.now u k)

pub returns-in_default : goal.returns-in_default
unfolding answer_to
returns-in_default c = λ u k.
    let m = malformed_responds c.args.self.now u k in
    elim c.in_default.branch [
      | in_default-via-in-Some-Shot+else-matches w ↦
          let q : c.args.form ≡ Some (form.Shot w.in-Some-Shot.shot) = search rules in
          let e : w.match-matches.matches ≡ takes_shot c.args.self.now.section = elim w.match-matches.branch [ in-Shots v ↦ search rules | in_default-matches v ↦ search rules ] in
          by_form c.args.form _ q _ _ u (late k takes_shot _ _ e w.if-matches.false m)
      | in_default-via-in-Some-PriorSpeed+else-matches-2 w ↦
          let q : c.args.form ≡ Some (form.PriorSpeed w.in-Some-PriorSpeed.prior) = search rules in
          let e : w.match-matches-2.matches ≡ takes_shot c.args.self.now.section = elim w.match-matches-2.branch [ in-Shots-matches v ↦ search rules | in_default-matches-2 v ↦ search rules ] in
          by_form c.args.form _ q _ _ u (late k takes_shot _ _ e w.if-matches-2.false m)
      | in_default-via-in-Some-PriorCoefficient+else-matches-3 w ↦
          let q : c.args.form ≡ Some (form.PriorCoefficient w.in-Some-PriorCoefficient.prior) = search rules in
          let e : w.match-matches-3.matches ≡ takes_coefficient c.args.self.now.section = elim w.match-matches-3.branch [ in-Shots-matches-2 v ↦ search rules | in_default-matches-3 v ↦ search rules ] in
          by_form c.args.form _ q _ _ u (late k takes_coefficient _ _ e w.if-matches-3.false m)
      | in_default-via-in-Some-Distance+else-not-matches w ↦
          let q : c.args.form ≡ Some (form.Distance w.in-Some-Distance.distance) = search rules in
          let e : not w.match-matches-4.matches ≡ takes_distance c.args.self.now.section = elim w.match-matches-4.branch [ in-Closed v ↦ search rules | in_default-matches-4 v ↦ search rules ] in
          by_form c.args.form _ q _ _ u (late k takes_distance _ _ e w.if-not-matches.false-raw m)
      | in_default-via-in-Some-Open+else-not-matches-2 w ↦
          let q : c.args.form ≡ Some form.Open = search rules in
          let e : not w.match-matches-5.matches ≡ takes_distance c.args.self.now.section = elim w.match-matches-5.branch [ in-Closed-matches v ↦ search rules | in_default-matches-5 v ↦ search rules ] in
          by_form c.args.form _ q _ _ u (late k takes_distance _ _ e w.if-not-matches-2.false-raw m)
      | in_default-via-in_default w ↦ let q : c.args.form ≡ None = search rules in by_form c.args.form None q _ _ u m
    ]
