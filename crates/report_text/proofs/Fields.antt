-- Laws of fields as texts: grouped as they are written, in two parts, and with one more. Assumes nothing.
use Prim.Native.Nat.{ℕ, zero, suc}
use mathlib.Core.Path.{◌≡◌, refl, sym}
use mathlib.Core.List.{List, [], ◌∷◌, ◌++◌, append-nil, append_assoc}
use lib.ListN.{length}
use Rattle.words.specs.Words.{bytes}
use Rattle.report_text.specs.Writing.{Text}
use Rattle.report_text.specs.Texts.{led, joined, opened, bracketed}

-- fields, and then a text, grouped to the right as they are written
abbrev pub led_then : List Text → Text → Text
led_then [] e = e
led_then (f ∷ fs) e = (bytes " " ++ f) ++ led_then fs e

abbrev pub joined_then : List Text → Text → Text
joined_then [] e = e
joined_then (f ∷ fs) e = f ++ led_then fs e

pub led_end : (fs : List Text) (e : Text) → led_then fs e ≡ led fs ++ e
unfolding led
led_end [] e = refl
led_end (f ∷ fs) e = rw (led_end fs e, append_assoc)

pub joined_end : (fs : List Text) (e : Text) → joined_then fs e ≡ joined fs ++ e
unfolding joined
joined_end [] e = refl
joined_end (f ∷ fs) e = rw (led_end fs e, append_assoc)

pub after : (s : Text) (fs : List Text) (e : Text) → s ++ joined_then fs e ≡ s ++ joined fs ++ e
after s fs e = rw (joined_end fs e, append_assoc)

pub in_brackets : (fs : List Text) → bytes "(" ++ joined_then fs (bytes ")") ≡ bracketed fs
unfolding bracketed opened
in_brackets fs = after (bytes "(") fs (bytes ")")

pub led_both : (fs gs : List Text) → led (fs ++ gs) ≡ led fs ++ led gs
unfolding led
led_both [] gs = refl
led_both (f ∷ fs) gs = rw (led_both fs gs, append_assoc)

pub led_cons : (f : Text) (fs : List Text) → led (f ∷ fs) ≡ bytes " " ++ (f ++ led fs)
unfolding led
led_cons f fs = refl

pub led_nil : led [] ≡ []
unfolding led
led_nil = refl

pub joined_cons : (f : Text) (fs : List Text) → joined (f ∷ fs) ≡ f ++ led fs
unfolding joined
joined_cons f fs = refl

pub brackets : (fs : List Text) → bracketed fs ≡ bytes "(" ++ (joined fs ++ bytes ")")
unfolding bracketed opened
brackets fs = refl

-- brackets in two parts
pub two_parts : (f : Text) (fs : List Text) (g : Text) (gs : List Text)
    → (bytes "(" ++ joined (f ∷ fs) ++ bytes " ") ++ (joined (g ∷ gs) ++ bytes ")") ≡ bracketed ((f ∷ fs) ++ (g ∷ gs))
two_parts f fs g gs = simp (brackets, joined_cons, led_both fs (g ∷ gs), led_cons, append_assoc)

-- the second part a single field
in_two : (f : Text) (fs : List Text) (g : Text) → (bytes "(" ++ joined (f ∷ fs) ++ bytes " ") ++ (g ++ bytes ")") ≡ bracketed ((f ∷ fs) ++ (g ∷ []))
in_two f fs g = rw (sym (two_parts f fs g [])) (simp (joined_cons, led_nil, append-nil))

-- what stands before the item at a place of a list
abbrev pub before : ℕ → Text
before zero = []
before (suc i) = bytes " "

-- a list with an item more
pub one_more : (fs : List Text) (f : Text) → joined fs ++ (before (length fs) ++ f) ≡ joined (fs ++ (f ∷ []))
unfolding led joined
one_more [] f = sym (append-nil f)
one_more (g ∷ fs) f = rw (led_both fs (f ∷ []), append-nil, append_assoc)

-- a place that is not the first
pub later : (i : ℕ) → (i ≡ 0 → ⊥) → bytes " " ≡ before i
later zero h = absurd (h refl)
later (suc i) h = refl
