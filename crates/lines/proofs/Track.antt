-- What a line holds once words are fed to it, and that its form is that of the words: the theorem `words_form`. Assumes nothing.
use Rattle.std.proofs.Common.{◌≡◌, ℕ, zero, suc, ◌+◌, ◌≤◌, Bool, true, false, cond, ◌||◌, List, [], ◌∷◌, ◌++◌, map, length, take, refl, sym, ap, ◌∙◌, Option, None, Some, true≢false, append_assoc, append-nil, Float}
use Rattle.std.specs.Option.{option_map, option_and_then}
use Prim.Native.String.{String}
use lib.Dec.{ltb, eqb}
use borrow.Author.Tests.{ltb-false, le-ltb}
use Rattle.fixed_list.specs.FixedList.{FixedList}
use Rattle.definition.specs.Run.{Entry}
use Rattle.words.specs.Words.{is, words, place, place_by}
use Rattle.words.specs.declared.Word.{Word}
use Rattle.words.specs.declared.Word.TheVariants as word
use Rattle.words.proofs.Rule.{named}
use Rattle.words.proofs.Found.{place_found}
use Rattle.numerals.specs.Numbers.{double_of, count_of}
use Rattle.lines.specs.declared.Reading.{Reading}
use Rattle.lines.specs.declared.Line.{Line}
use Rattle.lines.specs.Lines.{
  Form,
  malformed,
  drops,
  refused,
  put_in,
  exchange,
  asked,
  page,
  if_read,
  double_or,
  sigma_read,
  entry_read,
  in_front,
  entries_read,
  entered_of,
  shot_of,
  prior_by,
  prior_of,
  distance_of,
  open_of,
  change_of,
  take_out_of,
  drops_of,
  with0,
  with1,
  with2,
  with3,
  form_of_words,
}
use Rattle.lines.specs.Reading.{word_reading, reading_or, start_of, entries_with, feed_of, requested_of, placed, change_in, changes, items_in, named_in, form_in, form_if, short}
use Rattle.lines.proofs.Long.{long, any_long, all_0, all_1, all_2, all_3, if_all, words_bad}

-- ---- the entries

-- an entry behind others, where all are read
abbrev behind : Option (List Entry) → Option Entry → Option (List Entry)
behind None e = None
behind (Some es) None = None
behind (Some es) (Some e) = Some (es ++ (e ∷ []))

front_behind : (d : Option Entry) (es : Option (List Entry)) (e : Option Entry) → in_front d (behind es e) ≡ behind (in_front d es) e
front_behind None es e = refl
front_behind (Some d) None e = refl
front_behind (Some d) (Some es) None = refl
front_behind (Some d) (Some es) (Some e) = refl

entries_snoc : (ws : List (List ℕ)) (s : List ℕ) → entries_read (ws ++ (s ∷ [])) ≡ behind (entries_read ws) (entry_read s)
entries_snoc [] s = by (entry_read s) where
  by : (e : Option Entry) → in_front e (Some []) ≡ behind (Some []) e
  by None = refl
  by (Some e) = refl
entries_snoc (w ∷ ws) s = ap (in_front (entry_read w)) (entries_snoc ws s) ∙ front_behind (entry_read w) (entries_read ws) (entry_read s)

-- the first 65 of them, as the code keeps them
abbrev kept : Option (List Entry) → Option (FixedList Entry)
kept es = option_map (λ xs. record { items = take 65 xs }) es

-- what is cut off at first is cut off at last
take_cut : {A : Type 0} (n : ℕ) (xs ys : List A) → take n (take n xs ++ ys) ≡ take n (xs ++ ys)
take_cut zero xs ys = refl
take_cut (suc n) [] ys = refl
take_cut (suc n) (x ∷ xs) ys = ap (λ zs. x ∷ zs) (take_cut n xs ys)

kept_behind : (es : Option (List Entry)) (e : Option Entry) → entries_with (kept es) e ≡ kept (behind es e)
kept_behind None e = refl
kept_behind (Some es) None = refl
kept_behind (Some es) (Some e) = ap (λ xs. Some (record { items = xs })) (take_cut 65 es (e ∷ []))

-- ---- a word that is read

-- the rule of the table of words
word_of : (w : String) → ltb (place w) (length words) ≡ true → (s : List ℕ) → eqb (place_by (word_reading s).word) (place w) ≡ is w s
unfolding word_reading
word_of w h s = ap (λ n. eqb n (place w)) (place_found s) ∙ named w h s

double_is : (s : List ℕ) → (word_reading s).double ≡ double_of s
unfolding word_reading
double_is s = refl

count_is : (s : List ℕ) → (word_reading s).count ≡ count_of s
unfolding word_reading
count_is s = refl

entry_is : (s : List ℕ) → reading_or (word_reading s) word.Missing ≡ entry_read s
entry_is s = rw (double_is s, word_of "missing" refl s) refl

sigma_is : (s : List ℕ) → reading_or (word_reading s) word.None ≡ sigma_read s
sigma_is s = rw (double_is s, word_of "none" refl s) refl

-- ---- a line of short words

-- what a line holds of a first word and others
abbrev line_of : List ℕ → List (List ℕ) → Line
line_of w ws = record { words = record { items = take 5 (map word_reading (w ∷ ws)) }; entries = kept (entries_read ws) }

map_snoc : {A B : Type 0} (f : A → B) (xs : List A) (x : A) → map f (xs ++ (x ∷ [])) ≡ map f xs ++ (f x ∷ [])
map_snoc f [] x = refl
map_snoc f (y ∷ xs) x = ap (λ ys. f y ∷ ys) (map_snoc f xs x)

pub feed_first : (w : List ℕ) → length w ≤ 20 → feed_of start_of w ≡ Some (line_of w [])
unfolding feed_of
feed_first w h = rw (le-ltb 20 (length w) h) refl

pub feed_next : (w : List ℕ) (ws : List (List ℕ)) (s : List ℕ) → length s ≤ 20 → feed_of (line_of w ws) s ≡ Some (line_of w (ws ++ (s ∷ [])))
unfolding feed_of
feed_next w ws s h =
    rw (le-ltb 20 (length s) h, entry_is s, kept_behind (entries_read ws) (entry_read s), ← entries_snoc ws s, take_cut 5 (map word_reading (w ∷ ws)) (word_reading s ∷ []), ← map_snoc word_reading ws s) refl

pub feed_long : (l : Line) (s : List ℕ) → long s ≡ true → feed_of l s ≡ None
unfolding feed_of
feed_long l s h = rw h refl

-- the words fed one by one
abbrev pub feed_all : Option Line → List (List ℕ) → Option Line
feed_all l [] = l
feed_all l (w ∷ ws) = feed_all (option_and_then (λ x. feed_of x w) l) ws

pub all_none : (ws : List (List ℕ)) → feed_all None ws ≡ None
all_none [] = refl
all_none (w ∷ ws) = all_none ws

neither_l : (a b : Bool) → (a || b) ≡ false → a ≡ false
neither_l true b e = absurd (true≢false e)
neither_l false b e = refl

neither_r : (a b : Bool) → (a || b) ≡ false → b ≡ false
neither_r true b e = absurd (true≢false e)
neither_r false b e = e

all_short : (w : List ℕ) (vs ws : List (List ℕ)) → any_long ws ≡ false → feed_all (Some (line_of w vs)) ws ≡ Some (line_of w (vs ++ ws))
all_short w vs [] e = ap (λ us. Some (line_of w us)) (sym (append-nil vs))
all_short w vs (s ∷ ws) e =
    ap (λ l. feed_all l ws) (feed_next w vs s (ltb-false 20 (length s) (neither_l (long s) (any_long ws) e)))
    ∙ all_short w (vs ++ (s ∷ [])) ws (neither_r (long s) (any_long ws) e)
    ∙ ap (λ us. Some (line_of w us)) (append_assoc vs (s ∷ []) ws)

all_long : (l : Option Line) (ws : List (List ℕ)) → any_long ws ≡ true → feed_all l ws ≡ None
all_long l [] e = absurd (true≢false (sym e))
all_long None (w ∷ ws) e = all_none ws
all_long (Some l) (w ∷ ws) e = by (long w) refl e (all_long (feed_of l w) ws) where
  by : (v : Bool) → long w ≡ v → (v || any_long ws) ≡ true → (any_long ws ≡ true → feed_all (feed_of l w) ws ≡ None) → feed_all (feed_of l w) ws ≡ None
  by true f g later = ap (λ x. feed_all x ws) (feed_long l w f) ∙ all_none ws
  by false f g later = later g

-- ---- the form of a line

-- a form by its first word's place
abbrev chain : Option (FixedList Entry) → ℕ → List Reading → Form
chain es k ws =
    cond (eqb k (place "entered")) (named_in es (Some word.Entered) ws)
    (cond (eqb k (place "shot")) (named_in es (Some word.Shot) ws)
    (cond (eqb k (place "prior")) (named_in es (Some word.Prior) ws)
    (cond (eqb k (place "distance")) (named_in es (Some word.Distance) ws)
    (cond (eqb k (place "open")) (named_in es (Some word.Open) ws)
    (cond (eqb k (place "drops")) (named_in es (Some word.Drops) ws)
    (cond (eqb k (place "refused")) (named_in es (Some word.Refused) ws)
    (cond (eqb k (place "put-in")) (named_in es (Some word.PutIn) ws)
    (cond (eqb k (place "take-out")) (named_in es (Some word.TakeOut) ws)
    (cond (eqb k (place "exchange")) (named_in es (Some word.Exchange) ws)
    (cond (eqb k (place "asked")) (named_in es (Some word.Asked) ws)
    (cond (eqb k (place "page")) (named_in es (Some word.Page) ws) malformed)))))))))))

named_chain : (es : Option (FixedList Entry)) (o : Option Word) (ws : List Reading) → named_in es o ws ≡ chain es (place_by o) ws
named_chain es None ws = refl
named_chain es (Some word.Entered) ws = refl
named_chain es (Some w) ws = refl

-- with so many words after the first: five are enough to tell, and each word says what its reading does
module _ {A B : Type 0} (f : A → B) where
  taken_0 : (x : Form) (ws : List A) → with0 x (take 4 (map f ws)) ≡ with0 x ws
  taken_0 x [] = refl
  taken_0 x (a ∷ ws) = refl

  taken_1 : (g : B → Form) (h : A → Form) (ws : List A) → ((a : A) → g (f a) ≡ h a) → with1 g (take 4 (map f ws)) ≡ with1 h ws
  taken_1 g h [] e = refl
  taken_1 g h (a ∷ []) e = e a
  taken_1 g h (a ∷ b ∷ ws) e = refl

  taken_2 : (g : B → B → Form) (h : A → A → Form) (ws : List A) → ((a b : A) → g (f a) (f b) ≡ h a b) → with2 g (take 4 (map f ws)) ≡ with2 h ws
  taken_2 g h [] e = refl
  taken_2 g h (a ∷ []) e = refl
  taken_2 g h (a ∷ b ∷ []) e = e a b
  taken_2 g h (a ∷ b ∷ c ∷ ws) e = refl

  taken_3 : (g : B → B → B → Form) (h : A → A → A → Form) (ws : List A) → ((a b c : A) → g (f a) (f b) (f c) ≡ h a b c)
      → with3 g (take 4 (map f ws)) ≡ with3 h ws
  taken_3 g h [] e = refl
  taken_3 g h (a ∷ []) e = refl
  taken_3 g h (a ∷ b ∷ []) e = refl
  taken_3 g h (a ∷ b ∷ c ∷ []) e = e a b c
  taken_3 g h (a ∷ b ∷ c ∷ d ∷ ws) e = refl

-- what is kept of a form is the form itself, but of drops
abbrev Whole : Form → Type 0
Whole x = short x ≡ x

-- the code's form x is what is kept of p
record Keeps (x p : Form) : Type 0 where
  kept : x ≡ short p

still : {x p : Form} → x ≡ p → Whole p → Keeps x p
still e h = record { kept = e ∙ sym h }

-- the place of the first word decides as the word does
pick : {u v : Bool} {x y p q : Form} → u ≡ v → Keeps x p → Keeps y q → Keeps (cond u x y) (cond v p q)
pick {u} {v} {x} {y} {p} {q} e f g = record { kept = ap (λ (b : Bool). cond b x y) e ∙ by v } where
  by : (b : Bool) → cond b x y ≡ short (cond b p q)
  by true = f.kept
  by false = g.kept

whole_if : {A : Type 0} (o : Option A) (f : A → Form) → ((a : A) → Whole (f a)) → Whole (if_read o f)
whole_if o f h = if_all Whole refl o f h

whole_prior : (u v : Bool) (x y : Float) → Whole (prior_by u v x y)
whole_prior true v x y = refl
whole_prior false true x y = refl
whole_prior false false x y = refl

whole_open : (v : Bool) → Whole (open_of v)
whole_open true = refl
whole_open false = refl

-- an edit, by the words and by what they are read as
change_is : (f : ℕ → Float → Option Float → Form) (ws : List Reading)
    → changes f (change_in ws) ≡ with3 (λ a b c. change_of f a.count b.double (reading_or c word.None)) ws
unfolding change_of
change_is f [] = refl
change_is f (a ∷ []) = refl
change_is f (a ∷ b ∷ []) = refl
change_is f (a ∷ b ∷ c ∷ []) = by a.count b.double (reading_or c word.None) where
  by : (k : Option ℕ) (x : Option Float) (s : Option (Option Float)) → changes f (placed k (requested_of x s)) ≡ change_of f k x s
  by None x s = refl
  by (Some k) None s = refl
  by (Some k) (Some x) None = refl
  by (Some k) (Some x) (Some s) = refl
change_is f (a ∷ b ∷ c ∷ d ∷ ws) = refl

module _ (ws : List (List ℕ)) where
  read : List Reading
  read = take 4 (map word_reading ws)

  change_tells : (f : ℕ → Float → Option Float → Form) → ((k : ℕ) (x : Float) (s : Option Float) → Whole (f k x s))
      → Keeps (changes f (change_in (take 4 (map word_reading ws)))) (with3 (λ a b c. change_of f (count_of a) (double_of b) (sigma_read c)) ws)
  unfolding change_of
  change_tells f k =
      still
      (change_is f (take 4 (map word_reading ws)) ∙ taken_3 word_reading _ _ ws (λ a b c. rw (count_is a, double_is b, sigma_is c) refl))
      (all_3 Whole refl _ ws (λ a b c. whole_if (count_of a) _ (λ n. whole_if (double_of b) _ (λ x. whole_if (sigma_read c) _ (λ s. k n x s)))))

  drops_tells : Keeps (drops_of (items_in (kept (entries_read ws)))) (drops_of (entries_read ws))
  drops_tells = record { kept = by (entries_read ws) } where
    by : (es : Option (List Entry)) → drops_of (items_in (kept es)) ≡ short (drops_of es)
    by None = refl
    by (Some es) = refl

  form_tells : (w : List ℕ) → Keeps (chain (kept (entries_read ws)) (place_by (word_reading w).word) (take 4 (map word_reading ws))) (form_of_words (w ∷ ws))
  unfolding entered_of shot_of prior_of distance_of take_out_of
  form_tells w =
      pick (word_of "entered" refl w)
      (still (taken_2 word_reading _ _ ws (λ a b. rw (double_is a, double_is b) refl))
      (all_2 Whole refl _ ws (λ a b. whole_if (double_of a) _ (λ x. whole_if (double_of b) _ (λ y. refl)))))
      (pick (word_of "shot" refl w)
      (still (taken_3 word_reading _ _ ws (λ a b c. rw (double_is a, double_is b, double_is c) refl))
      (all_3 Whole refl _ ws (λ a b c. whole_if (double_of a) _ (λ x. whole_if (double_of b) _ (λ y. whole_if (double_of c) _ (λ z. refl))))))
      (pick (word_of "prior" refl w)
      (still (taken_3 word_reading _ _ ws (λ a b c. rw (word_of "speed" refl a, word_of "coefficient" refl a, double_is b, double_is c) refl))
      (all_3 Whole refl _ ws (λ a b c. whole_if (double_of b) _ (λ y. whole_if (double_of c) _ (λ z. whole_prior (is "speed" a) (is "coefficient" a) y z)))))
      (pick (word_of "distance" refl w)
      (still (taken_2 word_reading _ _ ws (λ a b. rw (double_is a, sigma_is b) refl))
      (all_2 Whole refl _ ws (λ a b. whole_if (double_of a) _ (λ x. whole_if (sigma_read b) _ (λ y. refl)))))
      (pick (word_of "open" refl w)
      (still (taken_1 word_reading _ _ ws (λ a. rw (word_of "plain" refl a) refl)) (all_1 Whole refl _ ws (λ a. whole_open (is "plain" a))))
      (pick (word_of "drops" refl w) drops_tells
      (pick (word_of "refused" refl w) (still (taken_0 word_reading refused ws) (all_0 Whole refl refused ws refl))
      (pick (word_of "put-in" refl w) (change_tells put_in (λ k x s. refl))
      (pick (word_of "take-out" refl w)
      (still (taken_1 word_reading _ _ ws (λ a. rw (count_is a) refl)) (all_1 Whole refl _ ws (λ a. whole_if (count_of a) _ (λ x. refl))))
      (pick (word_of "exchange" refl w) (change_tells exchange (λ k x s. refl))
      (pick (word_of "asked" refl w) (still (taken_0 word_reading asked ws) (all_0 Whole refl asked ws refl))
      (pick (word_of "page" refl w) (still (taken_0 word_reading page ws) (all_0 Whole refl page ws refl)) (still refl refl))))))))))))

line_form_is : (w : List ℕ) (ws : List (List ℕ)) → form_in (line_of w ws) ≡ short (form_of_words (w ∷ ws))
unfolding form_in
line_form_is w ws = named_chain (kept (entries_read ws)) (word_reading w).word (take 4 (map word_reading ws)) ∙ (form_tells ws w).kept

no_words : form_in start_of ≡ malformed
unfolding form_in
no_words = refl

-- words that are fed one by one come to what is kept of the form that they are
pub words_form : (ws : List (List ℕ)) → form_if (feed_all (Some start_of) ws) ≡ short (form_of_words ws)
words_form [] = no_words
words_form (w ∷ ws) = by (any_long (w ∷ ws)) refl where
  by : (v : Bool) → any_long (w ∷ ws) ≡ v → form_if (feed_all (Some start_of) (w ∷ ws)) ≡ short (form_of_words (w ∷ ws))
  by true e = ap form_if (all_long (Some start_of) (w ∷ ws) e) ∙ sym (ap short (words_bad (w ∷ ws) e))
  by false e =
      ap (λ l. form_if (feed_all l ws)) (feed_first w (ltb-false 20 (length w) (neither_l (long w) (any_long ws) e)))
      ∙ ap form_if (all_short w [] ws (neither_r (long w) (any_long ws) e))
      ∙ line_form_is w ws
