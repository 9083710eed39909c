-- The word of the code that a list of bytes is: the search finds the one at its place. Assumes nothing.
use Rattle.std.proofs.Common.{◌≡◌, ℕ, zero, suc, ◌+◌, ◌<◌, ◌≤◌, ◌&&◌, arith, Bool, true, false, true≢false, cond, refl, sym, ap, ◌∙◌, None, Some}
use Rattle.std.proofs.Common.{List, [], ◌∷◌, map, length, find, slice_get, get_or}
use Rattle.std.proofs.lemmas.Option.{slice_get_past}
use lib.Dec.{eqb, ltb}
use native.Mathlib.Nat.{le_of_suc-le-suc, not-suc-le-zero}
use borrow.Author.Tests.{eqb-true, eq-eqb, ltb-true, ltb-false}
use Rattle.words.specs.Words.{same, words, word_at, first_in, place_of, place_in, place_by, found}
use Rattle.words.specs.Low.{low, with_length}
use Rattle.words.specs.declared.Word.{Word}
use Rattle.words.specs.declared.TheConstants.{ALL}
use Rattle.words.proofs.Rule.{low_none, same_length, both_l, both_r}

find_first : (s : List ℕ) (ws : List Word) → find (λ w. same s (word_at (place_in w))) ws ≡ slice_get ws (first_in (map (λ w. word_at (place_in w)) ws) s)
find_first s [] = refl
find_first s (w ∷ ws) = by (same s (word_at (place_in w))) (find_first s ws) where
  by : (v : Bool) → find (λ x. same s (word_at (place_in x))) ws ≡ slice_get ws (first_in (map (λ x. word_at (place_in x)) ws) s)
      → cond v (Some w) (find (λ x. same s (word_at (place_in x))) ws)
      ≡ slice_get (w ∷ ws) (cond v 0 (suc (first_in (map (λ x. word_at (place_in x)) ws) s)))
  by true e = refl
  by false e = e

-- the code's words are the table's, in its order
in_order : map (λ w. word_at (place_in w)) ALL ≡ words
unfolding word_at
in_order = refl

pub found_by : (s : List ℕ) → find (λ w. same s (word_at (place_in w))) ALL ≡ found s
unfolding place_of found
found_by s = find_first s ALL ∙ ap (λ ws. slice_get ALL (first_in ws s)) in_order

-- s is this word
abbrev here : List ℕ → Word → Bool
here s w = same s (word_at (place_in w))

-- words of another length are others
in_length : (s : List ℕ) (ws : List Word) → find (λ w. same s (word_at (place_in w))) (with_length (length s) ws) ≡ find (λ w. same s (word_at (place_in w))) ws
in_length s [] = refl
in_length s (w ∷ ws) = by (eqb (length (word_at (place_in w))) (length s)) refl (in_length s ws) where
  by : (v : Bool) → eqb (length (word_at (place_in w))) (length s) ≡ v → find (here s) (with_length (length s) ws) ≡ find (here s) ws
      → find (here s) (cond v (w ∷ with_length (length s) ws) (with_length (length s) ws)) ≡ cond (here s w) (Some w) (find (here s) ws)
  by true e h = ap (cond (here s w) (Some w)) h
  by false e h =
      h ∙ sym (ap (λ (b : Bool). cond b (Some w) (find (here s) ws)) (same_length s (word_at (place_in w)) (λ f. true≢false (sym (eq-eqb _ _ (sym f)) ∙ e))))

-- so those of the same length are enough
pub found_among : (s : List ℕ) → find (λ w. same s (word_at (place_in w))) (with_length (length s) ALL) ≡ found s
found_among s = in_length s ALL ∙ found_by s

pub low_found : (s : List ℕ) → low s ≡ true → found s ≡ None
unfolding found
low_found s e = ap (slice_get ALL) (low_none s e)

-- ---- the place of the word of the code is that of the bytes

abbrev numbered : ℕ → List Word → Bool
numbered n [] = true
numbered n (w ∷ ws) = eqb (place_in w) n && numbered (suc n) ws

place_get : (n : ℕ) (ws : List Word) (k : ℕ) → numbered n ws ≡ true → k < length ws → place_by (slice_get ws k) ≡ n + k
place_get n [] k e h = absurd (not-suc-le-zero h)
place_get n (w ∷ ws) zero e h = omega (arith, eqb-true (place_in w) n (both_l (eqb (place_in w) n) (numbered (suc n) ws) e))
place_get n (w ∷ ws) (suc k) e h =
    omega (arith, place_get (suc n) ws k (both_r (eqb (place_in w) n) (numbered (suc n) ws) e) (le_of_suc-le-suc h))

first_in_most : (ws : List (List ℕ)) (s : List ℕ) → first_in ws s ≤ length ws
first_in_most [] s = omega arith
first_in_most (w ∷ ws) s = by (same s w) (first_in_most ws s) where
  by : (v : Bool) → first_in ws s ≤ length ws → cond v 0 (suc (first_in ws s)) ≤ suc (length ws)
  by true h = omega arith
  by false h = omega (arith, h)

pub place_found : (s : List ℕ) → place_by (found s) ≡ place_of s
unfolding found place_of
place_found s = by (ltb (first_in words s) (length words)) refl where
  by : (v : Bool) → ltb (first_in words s) (length words) ≡ v → place_by (slice_get ALL (first_in words s)) ≡ first_in words s
  by true e = place_get 0 ALL (first_in words s) refl (ltb-true (first_in words s) (length words) e) ∙ omega arith
  by false e =
      ap place_by (slice_get_past ALL (first_in words s) (ltb-false (first_in words s) (length words) e))
      ∙ omega (arith, first_in_most words s, ltb-false (first_in words s) (length words) e)

-- ---- the word at a number

past_get : (ws : List (List ℕ)) (k : ℕ) → length ws ≤ k → get_or ws k [] ≡ []
past_get [] k h = refl
past_get (w ∷ ws) zero h = absurd (not-suc-le-zero h)
past_get (w ∷ ws) (suc k) h = past_get ws k (le_of_suc-le-suc h)

past : (k : ℕ) → length words ≤ k → word_at k ≡ []
unfolding word_at
past k h = past_get words k h

past_all : word_at (length words) ≡ []
past_all = past (length words) (omega arith)

pub number_text : (k : ℕ) → word_at (place_by (slice_get ALL k)) ≡ word_at k
number_text k = by (ltb k (length words)) refl where
  by : (v : Bool) → ltb k (length words) ≡ v → word_at (place_by (slice_get ALL k)) ≡ word_at k
  by true e = ap word_at (place_get 0 ALL k refl (ltb-true k (length words) e) ∙ omega arith)
  by false e = ap (λ o. word_at (place_by o)) (slice_get_past ALL k (ltb-false k (length words) e)) ∙ past_all ∙ sym (past k (ltb-false k (length words) e))
