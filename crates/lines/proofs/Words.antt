-- What `==` says of a fixed word, by its place. Assumes nothing.
use Rattle.std.proofs.Common.{◌≡◌, Bool, false, refl, ap, ◌∙◌, Option, None, Some}
use lib.Dec.{eqb}
use denote.Enum.Declared.{tag_of}
use Rattle.std.specs.Option.{option_eq}
use Rattle.words.specs.Words.{place_in}
use Rattle.words.specs.declared.Word.{Word}
use Rattle.words.specs.declared.Word.TheVariants as word
use Rattle.words.specs.contracts.Word.{the_type}
use Rattle.words.specs.contracts.WordPartialEq.TheImpl.{eq-value}
use Rattle.lines.specs.Reading.{is_word}

place_tag : (w : Word) → tag_of the_type w ≡ place_in w
place_tag word.Entered = refl
place_tag w = refl

same_places : (v w : Word) → eq-value.it v w ≡ eqb (place_in v) (place_in w)
same_places v w = ap (λ n. eqb n (tag_of the_type w)) (place_tag v) ∙ ap (eqb (place_in v)) (place_tag w)

none_is : (w : Word) → ◌≡◌ {A = Bool} false (eqb 43 (place_in w))
none_is word.Entered = refl
none_is w = refl

pub eq_is : (o : Option Word) (w : Word) → option_eq eq-value.it o (Some w) ≡ is_word o w
eq_is None w = none_is w
eq_is (Some v) w = same_places v w
