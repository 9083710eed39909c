-- A word of more than 20 bytes is no part of a form: where one stands, the words are malformed. Assumes nothing.
use Rattle.std.specs.Prelude.{Option, None, Some}
use Prim.Native.Nat.{ℕ, ◌≤◌, ◌<◌}
use Prim.Native.String.{String}
use mathlib.Core.Path.{◌≡◌, refl, sym, ap}
use mathlib.Core.Bool.{Bool, true, false, ◌||◌, cond, true≢false}
use mathlib.Core.List.{List, [], ◌∷◌}
use native.Mathlib.Omega.{arith}
use borrow.Author.Tests.{ltb-true}
use lib.Dec.{ltb}
use lib.ListN.{length}
use Rattle.definition.specs.Run.{Entry}
use Rattle.words.specs.Words.{bytes, is}
use Rattle.words.proofs.Rule.{same_length}
use Rattle.numerals.specs.Numbers.{double_of, count_of}
use Rattle.lines.specs.Lines.{Form, malformed, if_read, sigma_read, entry_read, in_front, entries_read, entered_of, shot_of, prior_of, distance_of, change_of, exchange}
use Rattle.lines.specs.Lines.{take_out_of, drops_of, with0, with1, with2, with3, form_of_words}
use Rattle.numerals.proofs.Numbers.{no_double, long_count}

abbrev pub long : List ℕ → Bool
long w = ltb 20 (length w)

abbrev pub any_long : List (List ℕ) → Bool
any_long [] = false
any_long (w ∷ ws) = long w || any_long ws

-- ---- a long word

module _ (s : List ℕ) (t : long s ≡ true) where
  h : 20 < length s
  h = ltb-true 20 (length s) t

  pub long_double : double_of s ≡ None
  long_double = no_double s (λ e. omega (arith, e, h))

  pub long_no_count : count_of s ≡ None
  long_no_count = long_count s h

  pub long_other : (w : String) → length (bytes w) ≤ 20 → is w s ≡ false
  long_other w k = same_length s (bytes w) (λ e. omega (arith, e, h))

  pub long_sigma : sigma_read s ≡ None
  long_sigma = rw (long_double, long_other "none" (omega arith))

  pub long_entry : entry_read s ≡ None
  long_entry = rw (long_double, long_other "missing" (omega arith))

-- ---- what every form of a kind has

module _ (P : Form → Type 0) (bad : P malformed) where
  pub all_0 : (x : Form) (ws : List (List ℕ)) → P x → P (with0 x ws)
  all_0 x [] h = h
  all_0 x (a ∷ ws) h = bad

  pub all_1 : (f : List ℕ → Form) (ws : List (List ℕ)) → ((a : List ℕ) → P (f a)) → P (with1 f ws)
  all_1 f [] h = bad
  all_1 f (a ∷ ws) h = all_0 (f a) ws (h a)

  pub all_2 : (f : List ℕ → List ℕ → Form) (ws : List (List ℕ)) → ((a b : List ℕ) → P (f a b)) → P (with2 f ws)
  all_2 f [] h = bad
  all_2 f (a ∷ ws) h = all_1 (f a) ws (h a)

  pub all_3 : (f : List ℕ → List ℕ → List ℕ → Form) (ws : List (List ℕ)) → ((a b c : List ℕ) → P (f a b c)) → P (with3 f ws)
  all_3 f [] h = bad
  all_3 f (a ∷ ws) h = all_2 (f a) ws (h a)

  pub if_all : {A : Type 0} (o : Option A) (f : A → Form) → ((a : A) → P (f a)) → P (if_read o f)
  if_all None f h = bad
  if_all (Some a) f h = h a

-- ---- a form with a long word

either : (a b : Bool) {P : Type 0} → (a ≡ true → P) → (b ≡ true → P) → (a || b) ≡ true → P
either true b f g e = f refl
either false b f g e = g e

none_0 : (x : Form) (ws : List (List ℕ)) → any_long ws ≡ true → with0 x ws ≡ malformed
none_0 x [] e = absurd (true≢false (sym e))
none_0 x (a ∷ ws) e = refl

abbrev Bad : Form → Type 0
Bad x = x ≡ malformed

bad_1 : (f : List ℕ → Form) (ws : List (List ℕ)) → ((a : List ℕ) → long a ≡ true → f a ≡ malformed) → any_long ws ≡ true → with1 f ws ≡ malformed
bad_1 f [] h e = refl
bad_1 f (a ∷ ws) h e = either (long a) (any_long ws) (λ t. all_0 Bad refl (f a) ws (h a t)) (λ t. none_0 (f a) ws t) e

bad_2 : (f : List ℕ → List ℕ → Form) (ws : List (List ℕ)) → ((a b : List ℕ) → long a ≡ true → f a b ≡ malformed)
    → ((a b : List ℕ) → long b ≡ true → f a b ≡ malformed) → any_long ws ≡ true → with2 f ws ≡ malformed
bad_2 f [] h g e = refl
bad_2 f (a ∷ ws) h g e = either (long a) (any_long ws) (λ t. all_1 Bad refl (f a) ws (λ b. h a b t)) (λ t. bad_1 (f a) ws (g a) t) e

bad_3 : (f : List ℕ → List ℕ → List ℕ → Form) (ws : List (List ℕ)) → ((a b c : List ℕ) → long a ≡ true → f a b c ≡ malformed)
    → ((a b c : List ℕ) → long b ≡ true → f a b c ≡ malformed) → ((a b c : List ℕ) → long c ≡ true → f a b c ≡ malformed) → any_long ws ≡ true
    → with3 f ws ≡ malformed
bad_3 f [] h g k e = refl
bad_3 f (a ∷ ws) h g k e = either (long a) (any_long ws) (λ t. all_2 Bad refl (f a) ws (λ b c. h a b c t)) (λ t. bad_2 (f a) ws (g a) (k a) t) e

if_bad : {A : Type 0} (o : Option A) (f : A → Form) → ((a : A) → f a ≡ malformed) → if_read o f ≡ malformed
if_bad o f h = if_all Bad refl o f h

by_first : (v : Bool) {x y : Form} → x ≡ malformed → y ≡ malformed → cond v x y ≡ malformed
by_first true p q = p
by_first false p q = q

entries_bad : (ws : List (List ℕ)) → any_long ws ≡ true → entries_read ws ≡ None
entries_bad [] e = absurd (true≢false (sym e))
entries_bad (w ∷ ws) e =
    either (long w) (any_long ws) (λ t. rw (long_entry w t)) (λ t. rw (entries_bad ws t) (front_none (entry_read w))) e where
      front_none : (o : Option Entry) → in_front o None ≡ None
      front_none None = refl
      front_none (Some d) = refl

-- words of which one after the first is long
later_bad : (w : List ℕ) (ws : List (List ℕ)) → any_long ws ≡ true → form_of_words (w ∷ ws) ≡ malformed
unfolding entered_of shot_of prior_of distance_of change_of take_out_of
later_bad w ws e =
    by_first (is "entered" w) (bad_2 _ ws (λ a b t. rw (long_double a t)) (λ a b t. rw (long_double b t) (if_bad (double_of a) _ (λ x. refl))) e)
    (by_first (is "shot" w)
    (bad_3 _ ws (λ a b c t. rw (long_double a t)) (λ a b c t. rw (long_double b t) (if_bad (double_of a) _ (λ x. refl)))
    (λ a b c t. rw (long_double c t) (if_bad (double_of a) _ (λ x. if_bad (double_of b) _ (λ y. refl)))) e)
    (by_first (is "prior" w)
    (bad_3 _ ws
    (λ a b c t. rw (long_other a t "speed" (omega arith), long_other a t "coefficient" (omega arith))
    (if_bad (double_of b) _ (λ x. if_bad (double_of c) _ (λ y. refl))))
    (λ a b c t. rw (long_double b t)) (λ a b c t. rw (long_double c t) (if_bad (double_of b) _ (λ x. refl))) e)
    (by_first (is "distance" w) (bad_2 _ ws (λ a b t. rw (long_double a t)) (λ a b t. rw (long_sigma b t) (if_bad (double_of a) _ (λ x. refl))) e)
    (by_first (is "open" w) (bad_1 _ ws (λ a t. rw (long_other a t "plain" (omega arith))) e)
    (by_first (is "drops" w) (ap drops_of (entries_bad ws e))
    (by_first (is "refused" w) (none_0 _ ws e)
    (by_first (is "put-in" w)
    (bad_3 _ ws (λ a b c t. rw (long_no_count a t)) (λ a b c t. rw (long_double b t) (if_bad (count_of a) _ (λ x. refl)))
    (λ a b c t. rw (long_sigma c t) (if_bad (count_of a) _ (λ x. if_bad (double_of b) _ (λ y. refl)))) e)
    (by_first (is "take-out" w) (bad_1 _ ws (λ a t. rw (long_no_count a t)) e)
    (by_first (is "exchange" w)
    (bad_3 _ ws (λ a b c t. rw (long_no_count a t)) (λ a b c t. rw (long_double b t) (if_bad (count_of a) _ (λ x. refl)))
    (λ a b c t. rw (long_sigma c t) (if_bad (count_of a) _ (λ x. if_bad (double_of b) _ (λ y. refl)))) e)
    (by_first (is "asked" w) (none_0 _ ws e)
    (by_first (is "page" w) (none_0 _ ws e) refl)))))))))))

-- words among which one is long are malformed
pub words_bad : (ws : List (List ℕ)) → any_long ws ≡ true → form_of_words ws ≡ malformed
words_bad [] e = refl
words_bad (w ∷ ws) e = either (long w) (any_long ws) first_bad (later_bad w ws) e where
  first_bad : long w ≡ true → form_of_words (w ∷ ws) ≡ malformed
  first_bad t =
      rw (
        long_other w t "entered" (omega arith),
        long_other w t "shot" (omega arith),
        long_other w t "prior" (omega arith),
        long_other w t "distance" (omega arith),
        long_other w t "open" (omega arith),
        long_other w t "drops" (omega arith),
        long_other w t "refused" (omega arith),
        long_other w t "put-in" (omega arith),
        long_other w t "take-out" (omega arith),
        long_other w t "exchange" (omega arith),
        long_other w t "asked" (omega arith),
        long_other w t "page" (omega arith),
      )
