-- `lines::with_entry` meets its contract. Assumes nothing.
use Rattle.std.proofs.Common.{sym, ap, ◌∙◌, Some}
use Rattle.lines.specs.Reading.{entries_with}
use Rattle.fixed_list.proofs.Pushed.{pushed}
use Rattle.lines.proofs.with_entry.Goals as goal

pub returns-in-Some-entries : goal.returns-in-Some-entries
returns-in-Some-entries c =
    let e = c.try_push.ensures in
    let old = c.in-Some-entries.entries in
    rw c.in-Some-entries.is
    (ap (λ zs. Some (record { items = zs })) (pushed 65 old c.try_push.new.self c.in-Some.entry c.try_push.result e.variant e.ok e.err e.full)
    ∙ ap (entries_with (Some old)) (sym c.in-Some.is ∙ c.or.ensures))
