-- The rule of the table, for all its words at once by a computed test. Assumes nothing.
use Prim.Native.Nat.{ℕ, zero, suc, ◌<◌}
use mathlib.Core.Path.{◌≡◌, refl, sym, ap, ◌∙◌}
use mathlib.Core.Bool.{Bool, true, false, not, ◌&&◌, cond, true≢false, and-false}
use mathlib.Core.List.{List, [], ◌∷◌}
use native.Mathlib.Nat.{le_of_suc-le-suc, not-suc-le-zero}
use borrow.Author.Tests.{eqb-true, eq-eqb, ltb-true}
use lib.Dec.{ltb, eqb, eqb-zero-suc, eqb-suc-zero, eqb-suc-suc}
use lib.ListN.{length, get_or}
use lib.Pointwise.{pointwise}
use Rattle.std.proofs.Common.{nat_eq}
use Rattle.words.specs.Words.{bytes, same, words, word_at, first_in, place_of, place}
use Rattle.words.specs.Low.{low}
use Rattle.words.specs.Rule.{fit, Rule, WordOf, Named, AllFit, LowNone}

-- ---- two lists of bytes

pub both_l : (a b : Bool) → (a && b) ≡ true → a ≡ true
both_l true b e = refl
both_l false b e = e

pub both_r : (a b : Bool) → (a && b) ≡ true → b ≡ true
both_r true b e = e
both_r false b e = absurd (true≢false (sym e))

pub same_self : (s : List ℕ) → same s s ≡ true
same_self [] = refl
same_self (c ∷ s) = rw (eq-eqb c c refl, same_self s)

pub same_true : (s t : List ℕ) → same s t ≡ true → s ≡ t
same_true [] [] e = refl
same_true [] (d ∷ t) e = absurd (true≢false (sym e))
same_true (c ∷ s) [] e = absurd (true≢false (sym e))
same_true (c ∷ s) (d ∷ t) e =
    ap (λ (x : ℕ). x ∷ s) (eqb-true c d (both_l (eqb c d) (same s t) e)) ∙ ap (λ (l : List ℕ). d ∷ l) (same_true s t (both_r (eqb c d) (same s t) e))

pub same_length : (s t : List ℕ) → (length s ≡ length t → ⊥) → same s t ≡ false
same_length [] [] h = absurd (h refl)
same_length [] (d ∷ t) h = refl
same_length (c ∷ s) [] h = refl
same_length (c ∷ s) (d ∷ t) h = rw (same_length s t (λ e. h (ap suc e))) (and-false (eqb c d))

-- ---- the test

-- s stands nowhere in the list
abbrev apart : List ℕ → List (List ℕ) → Bool
apart s [] = true
apart s (w ∷ ws) = not (same s w) && apart s ws

-- each word stands once
abbrev distinct : List (List ℕ) → Bool
distinct [] = true
distinct (w ∷ ws) = apart w ws && distinct ws

abbrev all_fit : List (List ℕ) → Bool
all_fit [] = true
all_fit (w ∷ ws) = fit w && all_fit ws

-- ---- the rule

apart_at : (s : List ℕ) (ws : List (List ℕ)) (k : ℕ) → apart s ws ≡ true → k < length ws → same s (get_or ws k []) ≡ false
apart_at s [] k e h = absurd (not-suc-le-zero h)
apart_at s (w ∷ ws) zero e h = by (same s w) (both_l (not (same s w)) (apart s ws) e) where
  by : (v : Bool) → not v ≡ true → v ≡ false
  by true f = sym f
  by false f = refl
apart_at s (w ∷ ws) (suc k) e h = apart_at s ws k (both_r (not (same s w)) (apart s ws) e) (le_of_suc-le-suc h)

rule_in : (ws : List (List ℕ)) (s : List ℕ) (k : ℕ) → distinct ws ≡ true → k < length ws → eqb (first_in ws s) k ≡ same s (get_or ws k [])
rule_in [] s k e h = absurd (not-suc-le-zero h)
rule_in (w ∷ ws) s zero e h = by (same s w) where
  by : (v : Bool) → eqb (cond v 0 (suc (first_in ws s))) 0 ≡ v
  by true = refl
  by false = eqb-suc-zero (first_in ws s)
rule_in (w ∷ ws) s (suc k) e h =
    by (same s w) refl (apart_at w ws k (both_l (apart w ws) (distinct ws) e) (le_of_suc-le-suc h))
    (rule_in ws s k (both_r (apart w ws) (distinct ws) e) (le_of_suc-le-suc h)) where
      by : (v : Bool) → same s w ≡ v → same w (get_or ws k []) ≡ false → eqb (first_in ws s) k ≡ same s (get_or ws k [])
          → eqb (cond v 0 (suc (first_in ws s))) (suc k) ≡ same s (get_or ws k [])
      by true f other later = eqb-zero-suc k ∙ sym (ap (λ (t : List ℕ). same t (get_or ws k [])) (same_true s w f) ∙ other)
      by false f other later = eqb-suc-suc (first_in ws s) k ∙ later

fit_in : (ws : List (List ℕ)) (k : ℕ) → all_fit ws ≡ true → fit (get_or ws k []) ≡ true
fit_in [] k e = refl
fit_in (w ∷ ws) zero e = both_l (fit w) (all_fit ws) e
fit_in (w ∷ ws) (suc k) e = fit_in ws k (both_r (fit w) (all_fit ws) e)

first_in_lem : (ws : List (List ℕ)) (s : List ℕ) → first_in ws s < length ws → get_or ws (first_in ws s) [] ≡ s
first_in_lem [] s h = absurd (not-suc-le-zero h)
first_in_lem (w ∷ ws) s h = by (same s w) refl h (first_in_lem ws s) where
  by : (v : Bool) → same s w ≡ v → cond v 0 (suc (first_in ws s)) < suc (length ws) → (first_in ws s < length ws → get_or ws (first_in ws s) [] ≡ s)
      → get_or (w ∷ ws) (cond v 0 (suc (first_in ws s))) [] ≡ s
  by true f g later = sym (same_true s w f)
  by false f g later = later (le_of_suc-le-suc g)

pub rule : Rule
unfolding place_of word_at
rule s k h = rule_in words s k refl h

pub all_fit_lem : AllFit
unfolding word_at
all_fit_lem k = fit_in words k refl

pub word_of : WordOf
unfolding word_at
word_of w h = first_in_lem words (bytes w) (ltb-true (place w) (length words) h)

pub named : Named
named w h s = rule s (place w) (ltb-true (place w) (length words) h) ∙ ap (same s) (word_of w h)

-- ---- what begins before the letters is none of the words

abbrev all_high : List (List ℕ) → Bool
all_high [] = true
all_high (w ∷ ws) = not (low w) && all_high ws

low_other : (s w : List ℕ) → low s ≡ true → not (low w) ≡ true → same s w ≡ false
low_other [] w e f = absurd (true≢false (sym e))
low_other (c ∷ s) [] e f = refl
low_other (c ∷ s) (d ∷ w) e f = by (eqb c d) refl
  where
    by : (v : Bool) → eqb c d ≡ v → (v && same s w) ≡ false
    by false q = refl
    by true q = absurd (true≢false (sym f ∙ ap not (sym (ap (λ (n : ℕ). ltb n 58) (eqb-true c d q)) ∙ e)))

low_in : (ws : List (List ℕ)) (s : List ℕ) → all_high ws ≡ true → low s ≡ true → first_in ws s ≡ length ws
low_in [] s h e = refl
low_in (w ∷ ws) s h e =
    ap (λ (v : Bool). cond v 0 (suc (first_in ws s))) (low_other s w e (both_l (not (low w)) (all_high ws) h))
    ∙ ap suc (low_in ws s (both_r (not (low w)) (all_high ws) h) e)

pub low_none : LowNone
unfolding place_of
low_none s e = low_in words s refl e

-- ---- what the library's `==` says of two lists of bytes

pub pointwise_same : (s t : List ℕ) → pointwise nat_eq s t ≡ same s t
pointwise_same [] [] = refl
pointwise_same [] (d ∷ t) = refl
pointwise_same (c ∷ s) [] = refl
pointwise_same (c ∷ s) (d ∷ t) = ap (λ v. eqb c d && v) (pointwise_same s t)
