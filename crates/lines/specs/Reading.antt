-- How the code reads a line word by word, in the code's own terms. What it comes to is `form_of`: `LineForm`, at the end.
use Rattle.std.specs.Prelude.{ℕ, ◌≡◌, Bool, true, false, cond, List, [], ◌∷◌, ◌++◌, ltb, eqb, length, take, Float, Option, None, Some}
use Rattle.std.specs.Option.{option_and_then, option_map}
use Rattle.fixed_list.specs.FixedList.{FixedList}
use Rattle.definition.specs.Request.{Requested}
use Rattle.definition.specs.Run.{Entry}
use Rattle.words.specs.Words.{place_in, place_by, found}
use Rattle.words.specs.declared.Word.{Word}
use Rattle.words.specs.declared.Word.TheVariants as word
use Rattle.numerals.specs.Numbers.{double_of, count_of}
use Rattle.lines.specs.declared.Form.{Form as Held}
use Rattle.lines.specs.declared.Form.TheVariants as form
use Rattle.lines.specs.declared.Reading.{Reading}
use Rattle.lines.specs.declared.Line.{Line}
use Rattle.lines.specs.Lines.{Form, malformed, entered, shot, prior_speed, prior_coefficient, distance, open_plain, drops, refused, put_in, take_out, exchange}
use Rattle.lines.specs.Lines.{asked, page, double_or, entered_of, shot_of, prior_of, distance_of, open_of, take_out_of, drops_of, with0, with1, with2, with3}
use Rattle.lines.specs.Lines.{after_open, before_close, words_of, form_of}

-- ---- what the code's values say

-- the form that an answer is
abbrev pub form_says : Option Held → Form
form_says None = malformed
form_says (Some (form.Entered p)) = entered p.mv p.bc
form_says (Some (form.Shot o)) = shot o.range_yd o.drop o.sigma
form_says (Some (form.PriorSpeed p)) = prior_speed p.mean p.sigma
form_says (Some (form.PriorCoefficient p)) = prior_coefficient p.mean p.sigma
form_says (Some (form.Distance d)) = distance d.range_yd d.future_observation_sigma
form_says (Some form.Open) = open_plain
form_says (Some (form.Drops es)) = drops es.now
form_says (Some form.Refused) = refused
form_says (Some (form.PutIn k d)) = put_in k d.range_yd d.future_observation_sigma
form_says (Some (form.TakeOut k)) = take_out k
form_says (Some (form.Exchange k d)) = exchange k d.range_yd d.future_observation_sigma
form_says (Some form.Asked) = asked
form_says (Some form.Page) = page

-- ---- a word read in each way

-- a word as a fixed word, as a double and as a count
unfoldable pub word_reading : List ℕ → Reading
word_reading s = record { word = found s; double = double_of s; count = count_of s }

abbrev pub is_word : Option Word → Word → Bool
is_word o w = eqb (place_by o) (place_in w)

-- a double, or nothing where the word is this one
abbrev pub reading_or : Reading → Word → Option (Option Float)
reading_or x w = double_or x.double (is_word x.word w)

-- ---- the words that are read so far

abbrev pub start_of : Line
start_of = record { words = record { items = [] }; entries = Some (record { items = [] }) }

-- one entry more, where all are entries: 65 are kept
abbrev pub entries_with : Option (FixedList Entry) → Option Entry → Option (FixedList Entry)
entries_with None e = None
entries_with (Some es) None = None
entries_with (Some es) (Some e) = Some (record { items = take 65 (es.items ++ (e ∷ [])) })

-- the first word is no entry
abbrev pub after_first : List Reading → Option (FixedList Entry) → Option Entry → Option (FixedList Entry)
after_first [] es e = es
after_first (w ∷ ws) es e = entries_with es e

-- one word more. No word of a form has more than 20 bytes.
unfoldable pub feed_of : Line → List ℕ → Option Line
feed_of l s =
    cond (ltb 20 (length s)) None
    (Some (record {
      words = record { items = take 5 (l.words.items ++ (word_reading s ∷ [])) };
      entries = after_first l.words.items l.entries (reading_or (word_reading s) word.Missing);
    }))

-- the line, where it may still be a form
abbrev pub fed_to : Bool → Line → Option Line
fed_to true l = Some l
fed_to false l = None

-- ---- the form of what was read

abbrev pub requested_of : Option Float → Option (Option Float) → Option Requested
requested_of None s = None
requested_of (Some x) s = option_map (λ t. record { range_yd = x; future_observation_sigma = t }) s

abbrev pub requested_in : Reading → Reading → Option Requested
requested_in x s = requested_of x.double (reading_or s word.None)

-- a place, and what stands there in an edit
abbrev pub placed : Option ℕ → Option Requested → Option (ℕ × Requested)
placed None d = None
placed (Some k) d = option_map (λ x. (k, x)) d

abbrev pub change_in : List Reading → Option (ℕ × Requested)
change_in (k ∷ x ∷ s ∷ []) = placed k.count (requested_in x s)
change_in ws = None

-- an edit of this kind
abbrev pub changes : (ℕ → Float → Option Float → Form) → Option (ℕ × Requested) → Form
changes f None = malformed
changes f (Some c) = f c.0 c.1.range_yd c.1.future_observation_sigma

abbrev pub items_in : Option (FixedList Entry) → Option (List Entry)
items_in es = option_map (λ v. v.items) es

-- a form by its first word
abbrev pub named_in : Option (FixedList Entry) → Option Word → List Reading → Form
named_in es (Some word.Entered) ws = with2 (λ a b. entered_of a.double b.double) ws
named_in es (Some word.Shot) ws = with3 (λ a b c. shot_of a.double b.double c.double) ws
named_in es (Some word.Prior) ws = with3 (λ a b c. prior_of (is_word a.word word.Speed) (is_word a.word word.Coefficient) b.double c.double) ws
named_in es (Some word.Distance) ws = with2 (λ a b. distance_of a.double (reading_or b word.None)) ws
named_in es (Some word.Open) ws = with1 (λ a. open_of (is_word a.word word.Plain)) ws
named_in es (Some word.Drops) ws = drops_of (items_in es)
named_in es (Some word.Refused) ws = with0 refused ws
named_in es (Some word.PutIn) ws = changes put_in (change_in ws)
named_in es (Some word.TakeOut) ws = with1 (λ a. take_out_of a.count) ws
named_in es (Some word.Exchange) ws = changes exchange (change_in ws)
named_in es (Some word.Asked) ws = with0 asked ws
named_in es (Some word.Page) ws = with0 page ws
named_in es o ws = malformed

abbrev pub words_in : Option (FixedList Entry) → List Reading → Form
words_in es [] = malformed
words_in es (w ∷ ws) = named_in es w.word ws

-- the form of the words that a line has read
unfoldable pub form_in : Line → Form
form_in l = words_in l.entries l.words.items

-- malformed where there is no line
abbrev pub form_if : Option Line → Form
form_if None = malformed
form_if (Some l) = form_in l

-- What the code keeps of a form: of a reply the first 65 entries. A question has at most 64, so a reply with more is declined whatever they are.
abbrev pub short : Form → Form
short malformed = malformed
short (entered x y) = entered x y
short (shot x y z) = shot x y z
short (prior_speed x y) = prior_speed x y
short (prior_coefficient x y) = prior_coefficient x y
short (distance x s) = distance x s
short open_plain = open_plain
short (drops es) = drops (take 65 es)
short refused = refused
short (put_in k x s) = put_in k x s
short (take_out k) = take_out k
short (exchange k x s) = exchange k x s
short asked = asked
short page = page

-- ---- words with their parentheses

-- a word that is to end with ) where it is the last
abbrev pub closed_if : Bool → List ℕ → Option (List ℕ)
closed_if true s = before_close s
closed_if false s = Some s

-- a word that is to begin with ( where it is the first
abbrev pub opened_if : Bool → List ℕ → Option (List ℕ)
opened_if true s = after_open s
opened_if false s = Some s

-- one word more, with what parentheses it has: the line's first word begins with (, its last ends with )
unfoldable pub take_of : Option Line → List ℕ → Bool → Bool → Option Line
take_of l s first last = option_and_then (λ x. option_and_then (feed_of x) (option_and_then (closed_if last) (opened_if first s))) l

-- the words that are left, read one by one
abbrev pub read_rest : Option Line → List (List ℕ) → Option Line
read_rest l [] = l
read_rest l (w ∷ []) = take_of l w false true
read_rest l (w ∷ v ∷ ws) = read_rest (take_of l w false false) (v ∷ ws)

-- all the words of a line, read one by one
abbrev pub read_all : List (List ℕ) → Option Line
read_all [] = Some start_of
read_all (w ∷ []) = take_of (Some start_of) w true true
read_all (w ∷ v ∷ ws) = read_rest (take_of (Some start_of) w true false) (v ∷ ws)

-- For every line, cutting it into words and reading these one by one gives the form that the line is, of a reply the first 65 entries. Theorem `line_form`.
abbrev pub LineForm : Type 0
LineForm = (s : List ℕ) → form_if (read_all (words_of s)) ≡ short (form_of s)
