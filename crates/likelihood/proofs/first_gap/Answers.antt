-- `first_gap`, where no entry is missing.
use Rattle.std.proofs.Common.{◌≡◌, sym, false, fold, ◌||◌, Bool, rules}
use Rattle.definition.specs.Run.{Entry, is_missing}
use Rattle.likelihood.proofs.Laws.{none_found}
use Rattle.likelihood.proofs.first_gap.Goals as goal

pub returns-then-not-any_missing : goal.returns-then-not-any_missing
returns-then-not-any_missing c =
    let e : fold (λ (found : Bool) (entry : Entry). found || is_missing entry) false c.args.entries.now ≡ false = search rules in
    sym (none_found is_missing c.args.entries.now e)
