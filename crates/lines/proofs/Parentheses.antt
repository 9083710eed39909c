-- What stands before a last ) is what the library's `strip_suffix` leaves. Assumes nothing.
use Rattle.std.proofs.Common.{◌≡◌, ℕ, List, [], ◌∷◌, ◌++◌, Bool, true, false, cond, refl, sym, ap, ◌∙◌, subst, ◌≢◌, MatchOption, Bor, Option, None, Some}
use Rattle.std.specs.Option.{option_map}
use borrow.Author.Tests.{eqb-true}
use lib.Dec.{eqb}
use Rattle.lines.specs.Lines.{before_close, on_front}

-- a text with ) behind it
close_back : (t : List ℕ) → before_close (t ++ (41 ∷ [])) ≡ Some t
close_back [] = refl
close_back (c ∷ []) = refl
close_back (c ∷ d ∷ t) = ap (on_front c) (close_back (d ∷ t))

-- what stands before a ) has it behind
abbrev Back : List ℕ → Option (List ℕ) → Type 0
Back s None = Unit {0}
Back s (Some t) = s ≡ t ++ (41 ∷ [])

back_front : (c : ℕ) (s : List ℕ) (o : Option (List ℕ)) → Back s o → Back (c ∷ s) (on_front c o)
back_front c s None e = tt
back_front c s (Some t) e = ap (λ u. c ∷ u) e

back : (s : List ℕ) → Back s (before_close s)
back [] = tt
back (c ∷ []) = by (eqb c 41) refl where
  by : (v : Bool) → eqb c 41 ≡ v → Back (c ∷ []) (cond v (Some []) None)
  by true e = ap (λ d. d ∷ []) (eqb-true c 41 e)
  by false e = tt
back (c ∷ d ∷ s) = back_front c (d ∷ s) (before_close (d ∷ s)) (back (d ∷ s))

none_before : (s : List ℕ) (o : Option (List ℕ)) → Back s o → ((t : List ℕ) → s ≡ t ++ (41 ∷ []) → ⊥) → o ≡ None
none_before s None b h = refl
none_before s (Some t) b h = absurd (h t b)

pub closed_by : (s : List ℕ) (r : Option (Bor (List ℕ))) → MatchOption r ((front : List ℕ) → s ≢ front ++ (41 ∷ [])) (λ x. s ≡ x.now ++ (41 ∷ []))
    → option_map (λ x. x.now) r ≡ before_close s
closed_by s None h = sym (none_before s (before_close s) (back s) h)
closed_by s (Some x) h = sym (ap before_close h ∙ close_back x.now)

pub close_is : (s t : List ℕ) → before_close s ≡ Some t → s ≡ t ++ (41 ∷ [])
close_is s t e = subst (Back s) e (back s)
