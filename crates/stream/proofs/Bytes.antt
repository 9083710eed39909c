-- The input byte by byte. Assumes nothing.
use Rattle.std.specs.Prelude.{Option, None, Some}
use Prim.Native.Nat.{ℕ, ◌+◌, ◌≤◌, ◌<◌}
use mathlib.Core.Path.{◌≡◌, refl, sym, ap, ◌∙◌, subst}
use mathlib.Core.Bool.{Bool, true, false, cond}
use mathlib.Core.List.{List, [], ◌∷◌, ◌++◌, append_assoc, append-nil}
use native.Mathlib.Numerals.{add-one}
use native.Mathlib.Omega.{arith}
use borrow.Author.Tests.{leb-true, leb-false, eq-eqb, ne_eqb}
use lib.Dec.{eqb, leb}
use lib.ListN.{length, take, drop, get_or, length-take, drop_of_length-le}
use lib.Seq.{drop-cons, take_all}
use Rattle.lines.specs.Lines.{form_of, words_of, put_first}
use Rattle.lines.specs.Reading.{start_of, take_of, form_if, short, read_rest, read_all}
use Rattle.lines.specs.declared.Line.{Line}
use Rattle.lines.proofs.Lines.{line_form, long_same}
use Rattle.report_text.specs.Writing.{Text}
use Rattle.coverage.specs.Rows.{Table}
use Rattle.conversation.specs.Conversation.{Conversation, Answered, unended_text, next_line, answer_to, text_of, initial}
use Rattle.stream.specs.Output.{unended, on_first, lines_of, answers_to, output_of}
use Rattle.stream.specs.Bytes.{Cut, uncut, cut_byte, cut_from, some, Reads, line_in, ends_in, rest_in, Scans, output_from, Feeds}
use Rattle.conversation.specs.Tracks.{Tracks, Fills, Answers}
use Rattle.conversation.specs.declared.Conversation.{Conversation as Held}
use Rattle.conversation.proofs.Replies.{answer_short}
use Rattle.fixed_list.specs.FixedList.{FixedList}
use Rattle.stream.specs.declared.State.{State}
use Rattle.stream.specs.declared.Reader.{Reader}

-- ---- a line that is cut byte by byte is read as its words are

cut_append : (x : Cut) (s t : List ℕ) → cut_from x (s ++ t) ≡ cut_from (cut_from x s) t
cut_append x [] t = refl
cut_append x (c ∷ s) t = cut_append (cut_byte x c) s t

-- the open word in front of the words that follow
abbrev in_front_of : List ℕ → List (List ℕ) → List (List ℕ)
in_front_of v [] = v ∷ []
in_front_of v (w ∷ ws) = (v ++ w) ∷ ws

-- the words that are left, the first of which is the line's first or not
abbrev read_on : Option Line → Bool → List (List ℕ) → Option Line
read_on l f [] = l
read_on l f (w ∷ []) = take_of l w f true
read_on l f (w ∷ v ∷ ws) = read_on (take_of l w f false) false (v ∷ ws)

read_rest_lem : (l : Option Line) (ws : List (List ℕ)) → read_on l false ws ≡ read_rest l ws
read_rest_lem l [] = refl
read_rest_lem l (w ∷ []) = refl
read_rest_lem l (w ∷ v ∷ ws) = read_rest_lem (take_of l w false false) (v ∷ ws)

read_all_lem : (ws : List (List ℕ)) → read_on (Some start_of) true ws ≡ read_all ws
read_all_lem [] = refl
read_all_lem (w ∷ []) = refl
read_all_lem (w ∷ v ∷ ws) = read_rest_lem (take_of (Some start_of) w true false) (v ∷ ws)

abbrev ended : Cut → Option Line
ended x = take_of x.line x.word x.first true

put_in_front : (v : List ℕ) (c : ℕ) (ws : List (List ℕ)) → in_front_of (v ++ (c ∷ [])) ws ≡ in_front_of v (put_first c ws)
put_in_front v c [] = refl
put_in_front v c (w ∷ ws) = ap (λ (x : List ℕ). x ∷ ws) (append_assoc v (c ∷ []) w)

abbrev Any : List (List ℕ) → Type 0
Any [] = ⊥
Any (w ∷ ws) = Unit {0}

put_some : (c : ℕ) (ws : List (List ℕ)) → Any (put_first c ws)
put_some c [] = tt
put_some c (w ∷ ws) = tt

words_some : (t : List ℕ) → Any (words_of t)
words_some [] = tt
words_some (c ∷ t) = by (eqb c 32)
  where
    by : (v : Bool) → Any (cond v ([] ∷ words_of t) (put_first c (words_of t)))
    by true = tt
    by false = put_some c (words_of t)

cut_words : (l : Option Line) (f : Bool) (v s : List ℕ) → ended (cut_from (record { line = l; first = f; word = v }) s) ≡ read_on l f (in_front_of v (words_of s))
cut_words l f v [] = ap (λ (w : List ℕ). take_of l w f true) (sym (append-nil v))
cut_words l f v (c ∷ s) = by (eqb c 32) (λ m. cut_words (take_of l v f false) false [] s) (λ m. cut_words l f (v ++ (c ∷ [])) s)
  where
    opens : (ws : List (List ℕ)) → Any ws → read_on (take_of l v f false) false (in_front_of [] ws) ≡ read_on l f ((v ++ []) ∷ ws)
    opens [] h = absurd h
    opens (w ∷ ws) h = ap (λ (x : List ℕ). read_on (take_of l x f false) false (w ∷ ws)) (sym (append-nil v))

    by : (b : Bool)
        → (ℕ
        → ended (cut_from (record { line = take_of l v f false; first = false; word = [] }) s) ≡ read_on (take_of l v f false) false (in_front_of [] (words_of s)))
        → (ℕ → ended (cut_from (record { line = l; first = f; word = v ++ (c ∷ []) }) s) ≡ read_on l f (in_front_of (v ++ (c ∷ [])) (words_of s)))
        → ended (cut_from (cond b (record { line = take_of l v f false; first = false; word = [] }) (record { line = l; first = f; word = v ++ (c ∷ []) })) s)
        ≡ read_on l f (in_front_of v (cond b ([] ∷ words_of s) (put_first c (words_of s))))
    by true g h = g 0 ∙ opens (words_of s) (words_some s)
    by false g h = h 0 ∙ ap (read_on l f) (put_in_front v c (words_of s))

pub line_is : (s : List ℕ) → form_if (ended (cut_from uncut s)) ≡ short (form_of s)
line_is s = ap form_if (cut_words (Some start_of) true [] s ∙ plain (words_of s) (words_some s)) ∙ line_form s
  where
    plain : (ws : List (List ℕ)) → Any ws → read_on (Some start_of) true (in_front_of [] ws) ≡ read_all ws
    plain [] h = absurd h
    plain (w ∷ ws) h = read_all_lem (w ∷ ws)

-- of a long word 32 bytes serve
word_short : (l : Option Line) (v : List ℕ) (first last : Bool) → take_of l (take 32 v) first last ≡ take_of l v first last
word_short l v first last = by (leb (length v) 32) refl
  where
    by : (b : Bool) → leb (length v) 32 ≡ b → take_of l (take 32 v) first last ≡ take_of l v first last
    by true e = ap (λ (x : List ℕ). take_of l x first last) (take_all 32 v (leb-true (length v) 32 e))
    by false e = let g = leb-false (length v) 32 e in long_same l (take 32 v) v first last (omega (arith, length-take 32 v)) (omega arith)

some_more : (s : List ℕ) (c : ℕ) → true ≡ some (s ++ (c ∷ []))
some_more [] c = refl
some_more (a ∷ s) c = refl

module _ (r : Reader) (s : List ℕ) (k : Reads r s) where
  x : Cut
  x = cut_from uncut s

  took : (last : Bool)
      → take_of r.line r.word.items r.first last ≡ take_of (cut_from uncut s).line (cut_from uncut s).word (cut_from uncut s).first last
  took last =
      (λ i. take_of (k.line i) (k.word i) (k.first i) last) ∙ word_short (cut_from uncut s).line (cut_from uncut s).word (cut_from uncut s).first last

  pub ends_line : form_if (take_of r.line r.word.items r.first true) ≡ short (form_of s)
  ends_line = ap form_if (took true) ∙ line_is s

  module _ (c : ℕ) where
    blank_cut : eqb c 32 ≡ true
        → cut_from uncut (s ++ (c ∷ []))
        ≡ record { line = take_of (cut_from uncut s).line (cut_from uncut s).word (cut_from uncut s).first false; first = false; word = [] }
    blank_cut e =
        cut_append uncut s (c ∷ [])
        ∙ ap (λ (b : Bool). cond {A = Cut} b
        (record { line = take_of (cut_from uncut s).line (cut_from uncut s).word (cut_from uncut s).first false; first = false; word = [] })
        (record { line = (cut_from uncut s).line; first = (cut_from uncut s).first; word = (cut_from uncut s).word ++ (c ∷ []) })) e

    other_cut : eqb c 32 ≡ false
        → cut_from uncut (s ++ (c ∷ [])) ≡ record { line = (cut_from uncut s).line; first = (cut_from uncut s).first; word = (cut_from uncut s).word ++ (c ∷ []) }
    other_cut e =
        cut_append uncut s (c ∷ [])
        ∙ ap (λ (b : Bool). cond {A = Cut} b
        (record { line = take_of (cut_from uncut s).line (cut_from uncut s).word (cut_from uncut s).first false; first = false; word = [] })
        (record { line = (cut_from uncut s).line; first = (cut_from uncut s).first; word = (cut_from uncut s).word ++ (c ∷ []) })) e

    pub reads_blank : (l : Option Line) (w : FixedList ℕ) → eqb c 32 ≡ true → l ≡ take_of r.line r.word.items r.first false → w.items ≡ []
        → Reads (record { line = l; word = w; first = false; begun = true }) (s ++ (c ∷ []))
    reads_blank l w e f g =
        let q = sym (blank_cut e) in
        record {
          line = f ∙ took false ∙ ap (λ (y : Cut). y.line) q;
          first = ap (λ (y : Cut). y.first) q;
          begun = some_more s c;
          word = g ∙ ap (λ (y : Cut). take 32 y.word) q;
        }

    pub reads_more : (w : FixedList ℕ) → eqb c 32 ≡ false → w.items ≡ take 32 ((cut_from uncut s).word ++ (c ∷ []))
        → Reads (record { line = r.line; word = w; first = r.first; begun = true }) (s ++ (c ∷ []))
    reads_more w e f =
        let q = sym (other_cut e) in
        record {
          line = k.line ∙ ap (λ (y : Cut). y.line) q;
          first = k.first ∙ ap (λ (y : Cut). y.first) q;
          begun = some_more s c;
          word = f ∙ ap (λ (y : Cut). take 32 y.word) q;
        }

-- ---- the first line of what is left

abbrev answering : Conversation → List ℕ → List ℕ → Text
answering t s b = text_of (answer_to (next_line t) (form_of s)) ++ output_from (answer_to (next_line t) (form_of s)).0 [] b

pub to_line : (t : Conversation) (s b more : List ℕ) → ends_in b ≡ true → output_from t s (b ++ more) ≡ answering t (s ++ line_in b) (rest_in b ++ more)
to_line t s [] more e = let z : ◌≡◌ {A = ℕ} 0 1 = cc in absurd (omega arith)
to_line t s (c ∷ b) more e = by (eqb c 10) e (to_line t (s ++ (c ∷ [])) b more)
  where
    by : (v : Bool) → cond v true (ends_in b) ≡ true
        → (ends_in b ≡ true → output_from t (s ++ (c ∷ [])) (b ++ more) ≡ answering t ((s ++ (c ∷ [])) ++ line_in b) (rest_in b ++ more))
        → cond v (answering t s (b ++ more)) (output_from t (s ++ (c ∷ [])) (b ++ more))
        ≡ answering t (s ++ cond v [] (c ∷ line_in b)) (cond v b (rest_in b) ++ more)
    by true f g = ap (λ (l : List ℕ). answering t l (b ++ more)) (sym (append-nil s))
    by false f g = g f ∙ ap (λ (l : List ℕ). answering t l (rest_in b ++ more)) (append_assoc s (c ∷ []) (line_in b))

pub no_line : (t : Conversation) (s b more : List ℕ) → ends_in b ≡ false → output_from t s (b ++ more) ≡ output_from t (s ++ line_in b) (rest_in b ++ more)
no_line t s [] more e = ap (λ (l : List ℕ). output_from t l more) (sym (append-nil s))
no_line t s (c ∷ b) more e = by (eqb c 10) e (no_line t (s ++ (c ∷ [])) b more)
  where
    by : (v : Bool) → cond v true (ends_in b) ≡ false
        → (ends_in b ≡ false → output_from t (s ++ (c ∷ [])) (b ++ more) ≡ output_from t ((s ++ (c ∷ [])) ++ line_in b) (rest_in b ++ more))
        → cond v (answering t s (b ++ more)) (output_from t (s ++ (c ∷ [])) (b ++ more))
        ≡ output_from t (s ++ cond v [] (c ∷ line_in b)) (cond v b (rest_in b) ++ more)
    by true f g = let z : ◌≡◌ {A = ℕ} 0 1 = cc in absurd (omega arith)
    by false f g = g f ∙ ap (λ (l : List ℕ). output_from t l (rest_in b ++ more)) (append_assoc s (c ∷ []) (line_in b))

-- ---- what is left at the start is the whole output

abbrev onto : List ℕ → List (List ℕ) × List ℕ → List (List ℕ) × List ℕ
onto s ([], rest) = ([], s ++ rest)
onto s (l ∷ ls, rest) = ((s ++ l) ∷ ls, rest)

abbrev output_to : Conversation → List (List ℕ) × List ℕ → Text
output_to t x = (answers_to t x.0).1 ++ unended (answers_to t x.0).0 x.1

onto_none : (x : List (List ℕ) × List ℕ) → onto [] x ≡ x
onto_none ([], rest) = refl
onto_none (l ∷ ls, rest) = refl

onto_first : (s : List ℕ) (c : ℕ) (x : List (List ℕ) × List ℕ) → onto (s ++ (c ∷ [])) x ≡ onto s (on_first c x)
onto_first s c ([], rest) = ap (λ (r : List ℕ). ([], r)) (append_assoc s (c ∷ []) rest)
onto_first s c (l ∷ ls, rest) = ap (λ (r : List ℕ). (r ∷ ls, rest)) (append_assoc s (c ∷ []) l)

by_lines : (t : Conversation) (s b : List ℕ) → output_from t s b ≡ output_to t (onto s (lines_of b))
by_lines t s [] = ap (unended t) (sym (append-nil s))
by_lines t s (c ∷ b) = by (eqb c 10) (by_lines (answer_to (next_line t) (form_of s)).0 [] b) (by_lines t (s ++ (c ∷ [])) b)
  where
    by : (v : Bool) → output_from (answer_to (next_line t) (form_of s)).0 [] b ≡ output_to (answer_to (next_line t) (form_of s)).0 (onto [] (lines_of b))
        → output_from t (s ++ (c ∷ [])) b ≡ output_to t (onto (s ++ (c ∷ [])) (lines_of b))
        → cond v (answering t s b) (output_from t (s ++ (c ∷ [])) b) ≡ output_to t (onto s (cond v ([] ∷ (lines_of b).0, (lines_of b).1) (on_first c (lines_of b))))
    by true g h =
        let a = answer_to (next_line t) (form_of s) in
        ap (λ (r : Text). text_of a ++ r) (g ∙ ap (output_to a.0) (onto_none (lines_of b)))
        ∙ sym (append_assoc (text_of a) (answers_to a.0 (lines_of b).0).1 (unended (answers_to a.0 (lines_of b).0).0 (lines_of b).1))
        ∙ ap (λ (l : List ℕ). output_to t (l ∷ (lines_of b).0, (lines_of b).1)) (sym (append-nil s))
    by false g h = h ∙ ap (output_to t) (onto_first s c (lines_of b))

pub whole_output : (table : Table) (b : List ℕ) → output_from (initial table) [] b ≡ output_of table b
unfolding output_of
whole_output table b = by_lines (initial table) [] b ∙ ap (output_to (initial table)) (onto_none (lines_of b))

-- ---- from a place on to the first line feed

pub record Scanning (bytes : List ℕ) (start : Reader) (at : ℕ) (r : Reader) (i : ℕ) : Type 0 where
  pub before : List ℕ
  pub split : before ++ line_in (drop i bytes) ≡ line_in (drop at bytes)
  pub reads : (s : List ℕ) → Reads start s → Reads r (s ++ before)
  pub ends : ends_in (drop i bytes) ≡ ends_in (drop at bytes)
  pub rest : rest_in (drop i bytes) ≡ rest_in (drop at bytes)
  pub on : at ≤ i
  pub within : at ≤ length bytes → i ≤ length bytes

pub scan_starts : (bytes : List ℕ) (r : Reader) (at : ℕ) → Scanning bytes r at r at
scan_starts bytes r at =
    record { before = []; split = refl; reads = λ s k. subst (Reads r) (sym (append-nil s)) k; ends = refl; rest = refl; on = omega arith; within = λ h. h }

module _ (bytes : List ℕ) (start : Reader) (at : ℕ) (r : Reader) (i : ℕ) (k : Scanning bytes start at r i) where
  module _ (h : i < length bytes) where
    here : drop i bytes ≡ get_or bytes i 0 ∷ drop (i + 1) bytes
    here = drop-cons bytes i 0 h ∙ ap (λ (n : ℕ). get_or bytes i 0 ∷ drop n bytes) (sym (add-one i))

    by_byte : {A : Type 0} (f : List ℕ → A) (g : Bool → A) → f (get_or bytes i 0 ∷ drop (i + 1) bytes) ≡ g (eqb (get_or bytes i 0) 10) → (b : Bool)
        → eqb (get_or bytes i 0) 10 ≡ b → f (drop i bytes) ≡ g b
    by_byte f g e b q = ap f here ∙ e ∙ ap g q

    pub scan_on :
        (q : Reader) → (get_or bytes i 0 ≡ 10 → ⊥) → ((s : List ℕ) → Reads r s → Reads q (s ++ (get_or bytes i 0 ∷ []))) → Scanning bytes start at q (i + 1)
    scan_on q ne next =
        let c = get_or bytes i 0 in
        let no : eqb (get_or bytes i 0) 10 ≡ false = ne_eqb (get_or bytes i 0) 10 ne in
        record {
          before = k.before ++ (get_or bytes i 0 ∷ []);
          split =
              append_assoc k.before (get_or bytes i 0 ∷ []) (line_in (drop (i + 1) bytes))
              ∙ ap (λ (l : List ℕ). k.before ++ l) (sym (by_byte line_in (λ b. cond b [] (get_or bytes i 0 ∷ line_in (drop (i + 1) bytes))) refl false no))
              ∙ k.split;
          reads = λ s m. subst (Reads q) (append_assoc s k.before (get_or bytes i 0 ∷ [])) (next (s ++ k.before) (k.reads s m));
          ends = sym (by_byte ends_in (λ b. cond b true (ends_in (drop (i + 1) bytes))) refl false no) ∙ k.ends;
          rest = sym (by_byte rest_in (λ b. cond b (drop (i + 1) bytes) (rest_in (drop (i + 1) bytes))) refl false no) ∙ k.rest;
          on = let o = k.on in omega arith;
          within = λ m. omega arith;
        }

    pub scan_ends : get_or bytes i 0 ≡ 10 → Scans start bytes at r (Some (i + 1))
    scan_ends e =
        let yes : eqb (get_or bytes i 0) 10 ≡ true = eq-eqb (get_or bytes i 0) 10 e in
        let all : k.before ≡ line_in (drop at bytes) =
        sym (append-nil k.before)
        ∙ ap (λ (l : List ℕ). k.before ++ l) (sym (by_byte line_in (λ b. cond b [] (get_or bytes i 0 ∷ line_in (drop (i + 1) bytes))) refl true yes))
        ∙ k.split in
        record {
          reads = λ s m. subst (λ (l : List ℕ). Reads r (s ++ l)) all (k.reads s m);
          ends = sym (by_byte ends_in (λ b. cond b true (ends_in (drop (i + 1) bytes))) refl true yes) ∙ k.ends;
          rest = sym (by_byte rest_in (λ b. cond b (drop (i + 1) bytes) (rest_in (drop (i + 1) bytes))) refl true yes) ∙ k.rest;
          on = λ m. let o = k.on in omega arith;
          within = λ m. omega arith;
        }

  pub scan_stops : length bytes ≤ i → Scans start bytes at r None
  scan_stops h =
      let none : drop i bytes ≡ [] = drop_of_length-le bytes h in
      let all : k.before ≡ line_in (drop at bytes) = sym (append-nil k.before) ∙ ap (λ (l : List ℕ). k.before ++ line_in l) (sym none) ∙ k.split in
      record {
        reads = λ s m. subst (λ (l : List ℕ). Reads r (s ++ l)) all (k.reads s m);
        ends = sym (ap ends_in none) ∙ k.ends;
        rest = drop_of_length-le bytes (omega arith) ∙ sym (ap rest_in none) ∙ k.rest;
        on = λ m. m;
        within = λ m. omega arith;
      }

-- ---- bytes are taken

module _ (h : State) (bytes : List ℕ) (at : ℕ) (q : Reader) where
  pub feed_line :
      (next : ℕ) (k : Scans h.reader bytes at q (Some next)) (out after : Text) (l : Option Line) (c : Held) (n : ℕ) (rd : Reader)
      → ((s : List ℕ) → Reads q s → form_if l ≡ short (form_of s)) → Answers h.conversation l out after c n → Reads rd []
      → Feeds h bytes at out after (record { reader = rd; conversation = c }) (record { at = next; len = n })
  feed_line next k out after l c n rd form d z = record {
    room = d.room;
    goes = λ t s m.
        let v = s ++ line_in (drop at bytes) in
        let f : answer_to (next_line t) (form_if l) ≡ answer_to (next_line t) (form_of v) =
        ap (answer_to (next_line t)) (form v (k.reads s m.reader))
        ∙ answer_short h.conversation.session (next_line t) m.conversation.session (form_of v) in
        let g : Tracks c (answer_to (next_line t) (form_of v)).0 × Fills out after n (text_of (answer_to (next_line t) (form_of v))) =
        subst (λ (x : Answered). Tracks c x.0 × Fills out after n (text_of x)) f (d.goes t m.conversation) in
        record {
          conversation = (answer_to (next_line t) (form_of v)).0;
          line = [];
          text = text_of (answer_to (next_line t) (form_of v));
          holds = record { conversation = g.0; reader = z };
          fills = g.1;
          same = λ more. to_line t s (drop at bytes) more (sym k.ends) ∙ ap (λ (x : List ℕ). answering t v (x ++ more)) (sym k.rest);
        };
    on = k.on;
    within = k.within;
  }

  pub feed_none : (k : Scans h.reader bytes at q None) (out : Text)
      → Feeds h bytes at out out (record { reader = q; conversation = h.conversation }) (record { at = length bytes; len = 0 })
  feed_none k out = record {
    room = refl;
    goes = λ t s m. record {
      conversation = t;
      line = s ++ line_in (drop at bytes);
      text = [];
      holds = record { conversation = m.conversation; reader = k.reads s m.reader };
      fills = record { stands = refl; counts = refl };
      same =
          λ more. no_line t s (drop at bytes) more (sym k.ends)
          ∙ ap (λ (x : List ℕ). output_from t (s ++ line_in (drop at bytes)) (x ++ more)) (sym k.rest);
    };
    on = k.on;
    within = k.within;
  }

-- ---- the input ends

pub unended_some : (t : Conversation) (s : List ℕ) → some s ≡ true → unended_text t ≡ unended t s
unended_some t [] e = let z : ◌≡◌ {A = ℕ} 0 1 = cc in absurd (omega arith)
unended_some t (c ∷ s) e = refl

pub unended_none : (t : Conversation) (s : List ℕ) → some s ≡ false → [] ≡ unended t s
unended_none t [] e = refl
unended_none t (c ∷ s) e = let z : ◌≡◌ {A = ℕ} 0 1 = cc in absurd (omega arith)
