-- A list of at most n items after `try_push`, which keeps what it had where it is full: the first n, in one equation for both cases. Assumes nothing.
use Rattle.std.proofs.Common.{◌≡◌, ℕ, zero, suc, ◌<◌, List, [], ◌∷◌, ◌++◌, take, refl, sym, ap, ◌∙◌, arith, Result, Ok, Err, length-append}
use Rattle.std.specs.Prelude.{OnOk, OnErr, IsOk, ◌↔◌}
use Rattle.std.proofs.lemmas.List.{take_all, take-append-le}
use Rattle.fixed_list.specs.FixedList.{FixedList, list_len}

-- what is cut off at first is cut off at last
take_cut : {A : Type 0} (n : ℕ) (xs ys : List A) → take n (take n xs ++ ys) ≡ take n (xs ++ ys)
take_cut zero xs ys = refl
take_cut (suc n) [] ys = refl
take_cut (suc n) (x ∷ xs) ys = ap (λ zs. x ∷ zs) (take_cut n xs ys)

module _ {A E : Type 0} (n : ℕ) (old new : FixedList A) (x : A) where
  pub pushed : (r : Result (Unit {0}) E) → (IsOk r ↔ (list_len old < n)) → OnOk r (new.items ≡ old.items ++ (x ∷ [])) → OnErr r (new ≡ old)
      → OnErr r (list_len old ≡ n) → new.items ≡ take n (old.items ++ (x ∷ []))
  pushed (Ok u) a b c d = b ∙ sym (take_all n (old.items ++ (x ∷ [])) (omega (arith, length-append old.items (x ∷ []), a.0 refl)))
  pushed (Err e) a b c d =
      ap (λ v. v.items) c ∙ sym (take-append-le n old.items (x ∷ []) (omega (arith, d)) ∙ take_all n old.items (omega (arith, d)))

  -- where the items are the first n of others
  pub pushed_first : (r : Result (Unit {0}) E) (xs : List A) → (IsOk r ↔ (list_len old < n)) → OnOk r (new.items ≡ old.items ++ (x ∷ []))
      → OnErr r (new ≡ old) → OnErr r (list_len old ≡ n) → old.items ≡ take n xs → new.items ≡ take n (xs ++ (x ∷ []))
  pushed_first r xs a b c d e = pushed r a b c d ∙ ap (λ ys. take n (ys ++ (x ∷ []))) e ∙ take_cut n xs (x ∷ [])
