-- The first word of a line is no entry; each later one is. Assumes nothing.
use Rattle.std.proofs.Common.{◌≡◌, List, [], ◌∷◌, ◌++◌, length, take, refl, sym, ◌∙◌, arith}
use Rattle.std.proofs.Common.{true, false, Option, None, Some, true≢false}
use Rattle.std.proofs.lemmas.List.{take_all, take-append-le}
use Rattle.std.specs.Option.{is_some}
use lib.Dec.{eqb, eqb-suc-zero}
use Rattle.definition.specs.Run.{Entry}
use Rattle.lines.specs.declared.Reading.{Reading}
use Rattle.lines.specs.Reading.{entries_with, after_first}
use Rattle.fixed_list.specs.FixedList.{FixedList}

module _ (ws : List Reading) (es : Option (FixedList Entry)) (e : Option Entry) where
  pub after_none : eqb (length ws) 0 ≡ true → es ≡ after_first ws es e
  after_none h = by ws h where
    by : (xs : List Reading) → eqb (length xs) 0 ≡ true → es ≡ after_first xs es e
    by [] k = refl
    by (x ∷ xs) k = absurd (true≢false (sym k ∙ eqb-suc-zero (length xs)))

  pub after_some : eqb (length ws) 0 ≡ false → entries_with es e ≡ after_first ws es e
  after_some h = by ws h where
    by : (xs : List Reading) → eqb (length xs) 0 ≡ false → entries_with es e ≡ after_first xs es e
    by [] k = absurd (true≢false k)
    by (x ∷ xs) k = refl

  -- where there are no entries there are none after a further word
  pub after_no : is_some es ≡ false → es ≡ after_first ws es e
  after_no h = by ws es h where
    by : (xs : List Reading) (fs : Option (FixedList Entry)) → is_some fs ≡ false → fs ≡ after_first xs fs e
    by [] fs k = refl
    by (x ∷ xs) None k = refl
    by (x ∷ xs) (Some fs) k = absurd (true≢false k)

-- five words are kept
pub five_kept : (ws : List Reading) (x : Reading) → length ws ≡ 5 → ws ≡ take 5 (ws ++ (x ∷ []))
five_kept ws x h = sym (take-append-le 5 ws (x ∷ []) (omega (arith, h)) ∙ take_all 5 ws (omega (arith, h)))
