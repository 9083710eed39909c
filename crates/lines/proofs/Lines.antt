-- A line that is cut into words and read word by word comes to the form that the whole line is, its entries up to 65: the theorem `line_form`. And a word
-- of more than 22 bytes spoils a line wherever it stands, so that any other may stand in for it: `long_spoils`, `long_same`. Assumes nothing.
use Rattle.std.specs.Prelude.{Option, None, Some}
use Rattle.std.specs.Option.{option_and_then}
use Prim.Native.Nat.{ℕ, suc, ◌<◌}
use mathlib.Core.Path.{◌≡◌, refl, sym, ap, ◌∙◌, subst}
use mathlib.Core.Bool.{Bool, true, false, cond}
use mathlib.Core.List.{List, [], ◌∷◌}
use native.Mathlib.Omega.{arith}
use borrow.Author.Tests.{eqb-true, lt-ltb}
use lib.Dec.{eqb}
use lib.ListN.{length, length-append}
use Rattle.lines.specs.declared.Line.{Line}
use Rattle.lines.specs.Lines.{malformed, put_first, words_of, after_open, on_front, before_close, of_inner, form_of}
use Rattle.lines.specs.Reading.{start_of, feed_of, form_if, take_of, read_rest, read_all, short, LineForm}
use Rattle.lines.specs.Reading.{closed_if}
use Rattle.lines.proofs.Parentheses.{close_is}
use Rattle.lines.proofs.Track.{feed_all, all_none, words_form}

-- ---- words of a text

-- a first word that is empty is not the only one
abbrev ProperAt : List ℕ → List (List ℕ) → Type 0
ProperAt [] [] = ⊥
ProperAt [] (x ∷ ws) = Unit {0}
ProperAt (c ∷ v) ws = Unit {0}

abbrev Proper : List (List ℕ) → Type 0
Proper [] = ⊥
Proper (v ∷ ws) = ProperAt v ws

abbrev Any : List (List ℕ) → Type 0
Any [] = ⊥
Any (w ∷ ws) = Unit {0}

put_some : (c : ℕ) (ws : List (List ℕ)) → Any (put_first c ws)
put_some c [] = tt
put_some c (w ∷ ws) = tt

words_some : (t : List ℕ) → Any (words_of t)
words_some [] = tt
words_some (c ∷ t) = by (eqb c 32) where
  by : (v : Bool) → Any (cond v ([] ∷ words_of t) (put_first c (words_of t)))
  by true = tt
  by false = put_some c (words_of t)

empty_proper : (ws : List (List ℕ)) → Any ws → Proper ([] ∷ ws)
empty_proper [] h = absurd h
empty_proper (w ∷ ws) h = tt

put_proper : (c : ℕ) (ws : List (List ℕ)) → Proper (put_first c ws)
put_proper c [] = tt
put_proper c (w ∷ ws) = tt

words_proper : (d : ℕ) (t : List ℕ) → Proper (words_of (d ∷ t))
words_proper d t = by (eqb d 32) where
  by : (v : Bool) → Proper (cond v ([] ∷ words_of t) (put_first d (words_of t)))
  by true = empty_proper (words_of t) (words_some t)
  by false = put_proper d (words_of t)

-- ---- the last word's parenthesis is the text's

abbrev alone : Option (List ℕ) → Option (List (List ℕ))
alone None = None
alone (Some u) = Some (u ∷ [])

-- the words, the last one without its )
abbrev close_last : List (List ℕ) → Option (List (List ℕ))
close_last [] = None
close_last (w ∷ []) = alone (before_close w)
close_last (w ∷ v ∷ ws) = on_front w (close_last (v ∷ ws))

abbrev cut : Option (List ℕ) → Option (List (List ℕ))
cut None = None
cut (Some u) = Some (words_of u)

abbrev put_in : ℕ → Option (List (List ℕ)) → Option (List (List ℕ))
put_in c None = None
put_in c (Some ws) = Some (put_first c ws)

put_alone : (c : ℕ) (o : Option (List ℕ)) → alone (on_front c o) ≡ put_in c (alone o)
put_alone c None = refl
put_alone c (Some u) = refl

put_front : (c : ℕ) (v : List ℕ) (o : Option (List (List ℕ))) → on_front (c ∷ v) o ≡ put_in c (on_front v o)
put_front c v None = refl
put_front c v (Some us) = refl

put_close : (c : ℕ) (ws : List (List ℕ)) → Proper ws → close_last (put_first c ws) ≡ put_in c (close_last ws)
put_close c [] p = absurd p
put_close c ([] ∷ []) p = absurd p
put_close c ((e ∷ v) ∷ []) p = put_alone c (before_close (e ∷ v))
put_close c ([] ∷ x ∷ ws) p = put_front c [] (close_last (x ∷ ws))
put_close c ((e ∷ v) ∷ x ∷ ws) p = put_front c (e ∷ v) (close_last (x ∷ ws))

empty_close : (ws : List (List ℕ)) → Any ws → close_last ([] ∷ ws) ≡ on_front [] (close_last ws)
empty_close [] h = absurd h
empty_close (w ∷ ws) h = refl

-- cutting after a first byte, by whether that is a blank
cut_front : (c : ℕ) (v : Bool) (o : Option (List ℕ)) → eqb c 32 ≡ v → cond v (on_front [] (cut o)) (put_in c (cut o)) ≡ cut (on_front c o)
cut_front c true None e = refl
cut_front c true (Some u) e = rw e
cut_front c false None e = refl
cut_front c false (Some u) e = rw e

one_byte : (c : ℕ) (u v : Bool) → eqb c 32 ≡ u → eqb c 41 ≡ v
    → close_last (cond u ([] ∷ [] ∷ []) ((c ∷ []) ∷ [])) ≡ cut (cond v (Some []) None)
one_byte c true true e f = absurd (omega (arith, eqb-true c 32 e, eqb-true c 41 f))
one_byte c true false e f = refl
one_byte c false true e f = rw f
one_byte c false false e f = rw f

close_words : (t : List ℕ) → close_last (words_of t) ≡ cut (before_close t)
close_words [] = refl
close_words (c ∷ []) = one_byte c (eqb c 32) (eqb c 41) refl refl
close_words (c ∷ d ∷ t) = by (eqb c 32) refl (close_words (d ∷ t)) where
  by : (v : Bool) → eqb c 32 ≡ v → close_last (words_of (d ∷ t)) ≡ cut (before_close (d ∷ t))
      → close_last (cond v ([] ∷ words_of (d ∷ t)) (put_first c (words_of (d ∷ t)))) ≡ cut (on_front c (before_close (d ∷ t)))
  by true e ih = empty_close (words_of (d ∷ t)) (words_some (d ∷ t)) ∙ ap (on_front []) ih ∙ cut_front c true (before_close (d ∷ t)) e
  by false e ih = put_close c (words_of (d ∷ t)) (words_proper d t) ∙ ap (put_in c) ih ∙ cut_front c false (before_close (d ∷ t)) e

-- ---- the words read one by one

-- the words that are closed so, fed one by one
abbrev fed : Option Line → Option (List (List ℕ)) → Option Line
fed l us = option_and_then (feed_all l) us

fed_none : (o : Option (List (List ℕ))) → fed None o ≡ None
fed_none None = refl
fed_none (Some us) = all_none us

within : (l : Option Line) (v : List ℕ) → take_of l v false false ≡ option_and_then (λ x. feed_of x v) l
unfolding take_of
within l v = refl

at_end : (l : Option Line) (v : List ℕ) → take_of l v false true ≡ fed l (alone (before_close v))
unfolding take_of
at_end None v = sym (fed_none (alone (before_close v)))
at_end (Some x) v = by (before_close v) where
  by : (o : Option (List ℕ)) → option_and_then (feed_of x) o ≡ fed (Some x) (alone o)
  by None = refl
  by (Some u) = refl

fed_more : (l : Option Line) (v : List ℕ) (o : Option (List (List ℕ))) → fed (option_and_then (λ x. feed_of x v) l) o ≡ fed l (on_front v o)
fed_more l v None = refl
fed_more l v (Some us) = refl

rest_ends : (l : Option Line) (v : List ℕ) (ws : List (List ℕ)) → read_rest l (v ∷ ws) ≡ fed l (close_last (v ∷ ws))
rest_ends l v [] = at_end l v
rest_ends l v (x ∷ ws) =
    ap (λ k. read_rest k (x ∷ ws)) (within l v) ∙ rest_ends (option_and_then (λ y. feed_of y v) l) x ws ∙ fed_more l v (close_last (x ∷ ws))

ended_form : (o : Option (List ℕ)) → form_if (fed (Some start_of) (cut o)) ≡ short (of_inner o)
ended_form None = refl
ended_form (Some u) = words_form (words_of u)

rest_form : (ws : List (List ℕ)) (o : Option (List ℕ)) → Any ws → close_last ws ≡ cut o → form_if (read_rest (Some start_of) ws) ≡ short (of_inner o)
rest_form [] o h e = absurd h
rest_form (w ∷ ws) o h e = ap form_if (rest_ends (Some start_of) w ws ∙ ap (fed (Some start_of)) e) ∙ ended_form o

-- ---- the first word

opened : (u : List ℕ) (last : Bool) → take_of (Some start_of) (40 ∷ u) true last ≡ take_of (Some start_of) u false last
unfolding take_of
opened u last = refl

all_opened : (ws : List (List ℕ)) → Any ws → read_all (put_first 40 ws) ≡ read_rest (Some start_of) ws
all_opened [] h = absurd h
all_opened (u ∷ []) h = opened u true
all_opened (u ∷ v ∷ ws) h = ap (λ l. read_rest l (v ∷ ws)) (opened u false)

take_none : (w : List ℕ) (first last : Bool) → take_of None w first last ≡ None
unfolding take_of
take_none w first last = refl

rest_none : (ws : List (List ℕ)) → read_rest None ws ≡ None
rest_none [] = refl
rest_none (w ∷ []) = take_none w false true
rest_none (w ∷ v ∷ ws) = ap (λ l. read_rest l (v ∷ ws)) (take_none w false false) ∙ rest_none (v ∷ ws)

unopened : (w : List ℕ) (last : Bool) → after_open w ≡ None → take_of (Some start_of) w true last ≡ None
unfolding take_of
unopened w last e = rw e refl

all_unopened : (w : List ℕ) (ws : List (List ℕ)) → after_open w ≡ None → read_all (w ∷ ws) ≡ None
all_unopened w [] e = unopened w true e
all_unopened w (v ∷ ws) e = ap (λ l. read_rest l (v ∷ ws)) (unopened w false e) ∙ rest_none (v ∷ ws)

not_opened : (c : ℕ) (ws : List (List ℕ)) → eqb c 40 ≡ false → read_all (put_first c ws) ≡ None
not_opened c [] e = all_unopened (c ∷ []) [] (rw e)
not_opened c (w ∷ ws) e = all_unopened (c ∷ w) ws (rw e)

other_first : (c : ℕ) (t : List ℕ) → eqb c 40 ≡ false → read_all (words_of (c ∷ t)) ≡ None
other_first c t e = by (eqb c 32) where
  by : (v : Bool) → read_all (cond v ([] ∷ words_of t) (put_first c (words_of t))) ≡ None
  by true = all_unopened [] (words_of t) refl
  by false = not_opened c (words_of t) e

open_line : (t : List ℕ) → form_if (read_all (words_of (40 ∷ t))) ≡ short (form_of (40 ∷ t))
unfolding form_of
open_line t = ap form_if (all_opened (words_of t) (words_some t)) ∙ rest_form (words_of t) (before_close t) (words_some t) (close_words t)

unopened_line : (c : ℕ) (t : List ℕ) → eqb c 40 ≡ false → malformed ≡ short (form_of (c ∷ t))
unfolding form_of
unopened_line c t e = rw e

no_line : malformed ≡ short (form_of [])
unfolding form_of
no_line = refl

pub line_form : LineForm
line_form [] = ap form_if (all_unopened [] [] refl) ∙ no_line
line_form (c ∷ t) = by (eqb c 40) refl where
  by : (v : Bool) → eqb c 40 ≡ v → form_if (read_all (words_of (c ∷ t))) ≡ short (form_of (c ∷ t))
  by true e = subst (λ (d : ℕ). form_if (read_all (words_of (d ∷ t))) ≡ short (form_of (d ∷ t))) (sym (eqb-true c 40 e)) (open_line t)
  by false e = ap form_if (other_first c t e) ∙ unopened_line c t e

-- ---- long words

long_feed : (l : Line) (s : List ℕ) → 20 < length s → feed_of l s ≡ None
unfolding feed_of
long_feed l s h = rw (lt-ltb 20 (length s) h) refl

before_short : (s t : List ℕ) → before_close s ≡ Some t → length s ≡ suc (length t)
before_short s t e = ap length (close_is s t e) ∙ omega (arith, length-append t (41 ∷ []))

long_before : (l : Line) (s : List ℕ) → 21 < length s → option_and_then (feed_of l) (before_close s) ≡ None
long_before l s h = by (before_close s) refl where
  by : (o : Option (List ℕ)) → before_close s ≡ o → option_and_then (feed_of l) o ≡ None
  by None e = refl
  by (Some t) e = long_feed l t (omega (arith, before_short s t e))

-- a word of more than 22 bytes spoils a line, wherever it stands
pub long_spoils : (l : Option Line) (s : List ℕ) (first last : Bool) → 22 < length s → take_of l s first last ≡ None
unfolding take_of
long_spoils None s first last h = refl
long_spoils (Some l) s false false h = long_feed l s (omega arith)
long_spoils (Some l) s false true h = long_before l s (omega arith)
long_spoils (Some l) [] true last h = absurd (omega arith)
long_spoils (Some l) (c ∷ s) true last h = by (eqb c 40) last where
  by : (v w : Bool) → option_and_then (feed_of l) (option_and_then (closed_if w) (cond v (Some s) None)) ≡ None
  by true true = long_before l s (omega arith)
  by true false = long_feed l s (omega arith)
  by false w = refl

-- so of a word of more than 24 bytes it is enough to keep that it has more than 24
pub long_same : (l : Option Line) (s t : List ℕ) (first last : Bool) → 24 < length s → 24 < length t → take_of l s first last ≡ take_of l t first last
long_same l s t first last g h = long_spoils l s first last (omega arith) ∙ sym (long_spoils l t first last (omega arith))
