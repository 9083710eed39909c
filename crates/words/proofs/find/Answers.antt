-- `words::find` meets its contract. Assumes nothing.
use Rattle.std.proofs.Common.{◌∙◌, ap, find}
use Rattle.words.specs.Words.{same, place_in, word_at}
use Rattle.words.proofs.Found.{found_among}
use Rattle.words.proofs.find.Goals as goal

pub returns : goal.returns
returns c =
    let s = c.args.s.now in
    c.search.ensures ∙ ap (find (λ w. same s (word_at (place_in w)))) c.of_length.ensures ∙ found_among s
