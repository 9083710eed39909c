-- A line of the host, without its line feed: ( and then words with one blank between them and then ), which together are one of the forms.
use Rattle.std.specs.Prelude.{ℕ, Bool, true, false, cond, List, [], ◌∷◌, eqb, Float, Option, None, Some}
use Rattle.definition.specs.Run.{Entry}
use Rattle.words.specs.Words.{is}
use Rattle.numerals.specs.Numbers.{double_of, count_of}

-- what a line is. A sigma is an option: none is the word none.
pub data Form : Type 0 where
  malformed : Form
  entered : Float → Float → Form
  shot : Float → Float → Float → Form
  prior_speed : Float → Float → Form
  prior_coefficient : Float → Float → Form
  distance : Float → Option Float → Form
  open_plain : Form
  drops : List Entry → Form
  refused : Form
  put_in : ℕ → Float → Option Float → Form
  take_out : ℕ → Form
  exchange : ℕ → Float → Option Float → Form
  asked : Form
  page : Form

-- ---- fields

-- a field that is read, or else the line is malformed
abbrev pub if_read : {A : Type 0} → Option A → (A → Form) → Form
if_read None f = malformed
if_read (Some a) f = f a

-- a word that is read as a double, and that may be the one that stands for none
abbrev pub double_or : Option Float → Bool → Option (Option Float)
double_or (Some x) is_it = Some (Some x)
double_or None true = Some None
double_or None false = None

-- a sigma: a double or the word none, which says that there is no sigma
abbrev pub sigma_read : List ℕ → Option (Option Float)
sigma_read w = double_or (double_of w) (is "none" w)

-- an entry: a double or the word missing
abbrev pub entry_read : List ℕ → Option Entry
entry_read w = double_or (double_of w) (is "missing" w)

-- an entry before others, where all are read
abbrev pub in_front : Option Entry → Option (List Entry) → Option (List Entry)
in_front None es = None
in_front (Some e) None = None
in_front (Some e) (Some es) = Some (e ∷ es)

-- the entries that words are, where each of them is one
abbrev pub entries_read : List (List ℕ) → Option (List Entry)
entries_read [] = Some []
entries_read (w ∷ ws) = in_front (entry_read w) (entries_read ws)

-- ---- forms by their fields

-- (entered SPEED COEFFICIENT)
unfoldable pub entered_of : Option Float → Option Float → Form
entered_of x y = if_read x (λ a. if_read y (λ b. entered a b))

-- (shot DISTANCE DROP SIGMA)
unfoldable pub shot_of : Option Float → Option Float → Option Float → Form
shot_of x y z = if_read x (λ a. if_read y (λ b. if_read z (λ c. shot a b c)))

-- the second word says of what the prior is
abbrev pub prior_by : Bool → Bool → Float → Float → Form
prior_by isSpeed isCoefficient x y = cond isSpeed (prior_speed x y) (cond isCoefficient (prior_coefficient x y) malformed)

-- (prior speed MEAN SIGMA), (prior coefficient MEAN SIGMA)
unfoldable pub prior_of : Bool → Bool → Option Float → Option Float → Form
prior_of isSpeed isCoefficient x y = if_read x (λ a. if_read y (λ b. prior_by isSpeed isCoefficient a b))

-- (distance DISTANCE SIGMA)
unfoldable pub distance_of : Option Float → Option (Option Float) → Form
distance_of x s = if_read x (λ a. if_read s (λ t. distance a t))

-- (open plain), and no other
abbrev pub open_of : Bool → Form
open_of is_plain = cond is_plain open_plain malformed

-- (put-in PLACE DISTANCE SIGMA), (exchange PLACE DISTANCE SIGMA)
unfoldable pub change_of : (ℕ → Float → Option Float → Form) → Option ℕ → Option Float → Option (Option Float) → Form
change_of f k x s = if_read k (λ n. if_read x (λ a. if_read s (λ t. f n a t)))

-- (take-out PLACE)
unfoldable pub take_out_of : Option ℕ → Form
take_out_of k = if_read k (λ n. take_out n)

-- (drops D ..), with any number of entries
abbrev pub drops_of : Option (List Entry) → Form
drops_of None = malformed
drops_of (Some es) = drops es

-- ---- forms by their words

-- a form with no word after the first
abbrev pub with0 : {A : Type 0} → Form → List A → Form
with0 f [] = f
with0 f (a ∷ ws) = malformed

-- with one word after the first, and no more
abbrev pub with1 : {A : Type 0} → (A → Form) → List A → Form
with1 f [] = malformed
with1 f (a ∷ ws) = with0 (f a) ws

-- with two
abbrev pub with2 : {A : Type 0} → (A → A → Form) → List A → Form
with2 f [] = malformed
with2 f (a ∷ ws) = with1 (f a) ws

-- with three
abbrev pub with3 : {A : Type 0} → (A → A → A → Form) → List A → Form
with3 f [] = malformed
with3 f (a ∷ ws) = with2 (f a) ws

-- the form that words are, by the first of them
abbrev pub form_of_words : List (List ℕ) → Form
form_of_words [] = malformed
form_of_words (w ∷ ws) =
    cond (is "entered" w) (with2 (λ a b. entered_of (double_of a) (double_of b)) ws)
    (cond (is "shot" w) (with3 (λ a b c. shot_of (double_of a) (double_of b) (double_of c)) ws)
    (cond (is "prior" w) (with3 (λ a b c. prior_of (is "speed" a) (is "coefficient" a) (double_of b) (double_of c)) ws)
    (cond (is "distance" w) (with2 (λ a b. distance_of (double_of a) (sigma_read b)) ws)
    (cond (is "open" w) (with1 (λ a. open_of (is "plain" a)) ws)
    (cond (is "drops" w) (drops_of (entries_read ws))
    (cond (is "refused" w) (with0 refused ws)
    (cond (is "put-in" w) (with3 (λ a b c. change_of put_in (count_of a) (double_of b) (sigma_read c)) ws)
    (cond (is "take-out" w) (with1 (λ a. take_out_of (count_of a)) ws)
    (cond (is "exchange" w) (with3 (λ a b c. change_of exchange (count_of a) (double_of b) (sigma_read c)) ws)
    (cond (is "asked" w) (with0 asked ws)
    (cond (is "page" w) (with0 page ws) malformed)))))))))))

-- ---- lines

-- a byte in front of the first word
abbrev pub put_first : ℕ → List (List ℕ) → List (List ℕ)
put_first c [] = (c ∷ []) ∷ []
put_first c (w ∷ ws) = (c ∷ w) ∷ ws

-- the words between blanks: where two blanks meet, and at a blank at an end, there is a word of no bytes, which no form has
abbrev pub words_of : List ℕ → List (List ℕ)
words_of [] = [] ∷ []
words_of (c ∷ s) = cond (eqb c 32) ([] ∷ words_of s) (put_first c (words_of s))

-- what follows a first byte (
abbrev pub after_open : List ℕ → Option (List ℕ)
after_open [] = None
after_open (c ∷ s) = cond (eqb c 40) (Some s) None

-- one more in front, where there is a list
abbrev pub on_front : {A : Type 0} → A → Option (List A) → Option (List A)
on_front a None = None
on_front a (Some s) = Some (a ∷ s)

-- what stands before a last byte )
abbrev pub before_close : List ℕ → Option (List ℕ)
before_close [] = None
before_close (c ∷ []) = cond (eqb c 41) (Some []) None
before_close (c ∷ d ∷ s) = on_front c (before_close (d ∷ s))

-- what stands between the parentheses
abbrev pub of_inner : Option (List ℕ) → Form
of_inner None = malformed
of_inner (Some s) = form_of_words (words_of s)

-- what follows the first parenthesis
abbrev pub of_opened : Option (List ℕ) → Form
of_opened None = malformed
of_opened (Some s) = of_inner (before_close s)

-- the form that a line is
unfoldable pub form_of : List ℕ → Form
form_of s = of_opened (after_open s)
