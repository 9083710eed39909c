-- What the reader makes of the bytes to come, by where it stands: `resume`. One byte more does not change it. Assumes nothing.
use Rattle.std.proofs.Common.{◌≡◌, ℕ, ◌+◌, ◌<◌, ◌≤◌, Bool, true, false, cond, ◌&&◌, eqb, ltb, List, [], ◌∷◌, ◌++◌, length, get_or, drop, ⊎_elim, sym, refl, ap, ◌∙◌, subst, arith, lit<, lit≤, eqb-true, lt-ltb}
use Rattle.std.proofs.Common.{take, add-one, take_all, take-suc, ne_eqb}
use Rattle.std.proofs.Common.{Option, Some, None, Ok, Err, IfSome, codes}
use Rattle.std.proofs.Math.Path.{fun_ext}
use Rattle.std.proofs.lemmas.Bool.{cond_both, ltb-false, agree_below_at, cases_lt}
use Rattle.std.proofs.lemmas.List.{drop_more}
use Rattle.std.proofs.lemmas.Option.{slice_get-get_or}
use Rattle.std.proofs.lemmas.List.Sums.{fold-append}
use Rattle.std.specs.Prelude.{bytes_eq}
use Rattle.std.specs.Option.{option_map, option_and_then, unwrap_or}
use Rattle.std.specs.Char.{is_ascii_digit}
use lib.Ieee.{Float}
use Rattle.coverage.specs.declared.CoverageRow.{CoverageRow}
use Rattle.coverage.specs.declared.Digits.{Digits}
use Rattle.coverage.specs.declared.Digits.TheVariants.{Due}
use Rattle.coverage.specs.declared.Field.{Field}
use Rattle.coverage.specs.declared.Field.TheVariants.{Level, Factor}
use Rattle.coverage.specs.declared.Spot.{Spot}
use Rattle.coverage.specs.declared.Spot.TheVariants as spot
use Rattle.coverage.specs.File.{cut_at, after, both, at_end, factor_of, fields_of, row_of, Lines, cut, new_line, in_line, lines_of, Form, end_form, if_row, rows_from, head_form, form_of, outside_of, flat_of, risen, ranged, judged, load_of}
use Rattle.coverage.specs.Reading.{Standing, number_after, value_at, stop_of, behind_of, field_after, first_line, row_opening, text_after, next_at, rows_after, line_at, begun_of, fed_of, fed_all, form_at, form_in, FitsAt, Fits}
use Rattle.coverage.specs.Loading.{Loads, FedMore, LoadsFile, AcceptedRows}
use Rattle.coverage.proofs.Numbers.{number_from, number_on, number_end}
use Rattle.coverage.proofs.Fitting.{fits_fed}

-- ---- the rest of a row

-- by what the rest of a number makes
abbrev pub fields_from : Field → (List ℕ → Option Float) → List ℕ → Option CoverageRow
fields_from Level g w = option_and_then (λ p. both (g p.0) (factor_of p.1)) (cut_at 32 w)
fields_from (Factor x) g w = both (Some x) (option_and_then g (at_end (cut_at 41 w)))

abbrev closing : CoverageRow → List ℕ → Option CoverageRow
closing x [] = Some x
closing x (c ∷ w) = None

-- within a row
abbrev rest_of : Spot → List ℕ → Option CoverageRow
rest_of (spot.Opening k) w = option_and_then fields_of (after (drop k row_opening) w)
rest_of (spot.Number f s) w = fields_from f (number_from s) w
rest_of (spot.Closed x) w = closing x w
rest_of _ w = None

at_end_on : (g : List ℕ → Option Float) (c : ℕ) (o : Option (List ℕ × List ℕ))
    → option_and_then g (at_end (option_map (λ p. (c ∷ p.0, p.1)) o)) ≡ option_and_then (λ u. g (c ∷ u)) (at_end o)
at_end_on g c None = refl
at_end_on g c (Some (b, [])) = refl
at_end_on g c (Some (b, d ∷ s)) = refl

abbrev pub pair_from : (List ℕ → Option Float) → Option (List ℕ × List ℕ) → Option CoverageRow
pair_from g o = option_and_then (λ (p : List ℕ × List ℕ). both (g p.0) (factor_of p.1)) o

pair_on : (g : List ℕ → Option Float) (c : ℕ) (o : Option (List ℕ × List ℕ)) → pair_from g (option_map (λ p. (c ∷ p.0, p.1)) o) ≡ pair_from (λ u. g (c ∷ u)) o
pair_on g c None = refl
pair_on g c (Some p) = refl

-- a byte of the number
field_on : (f : Field) (g : List ℕ → Option Float) (c : ℕ) (w : List ℕ) → eqb c (stop_of f) ≡ false → fields_from f g (c ∷ w) ≡ fields_from f (λ u. g (c ∷ u)) w
field_on Level g c w e = rw e (pair_on g c (cut_at 32 w))
field_on (Factor x) g c w e = rw e (ap (both (Some x)) (at_end_on g c (cut_at 41 w)))

-- no number can come of it
no_pair : (o : Option (List ℕ × List ℕ)) → pair_from (λ u. None) o ≡ None
no_pair None = refl
no_pair (Some p) = refl

no_factor : (x : Float) (o : Option (List ℕ)) → both (Some x) (option_and_then (λ u. None) o) ≡ None
no_factor x None = refl
no_factor x (Some u) = refl

pub field_none : (f : Field) (g : List ℕ → Option Float) (w : List ℕ) → ((u : List ℕ) → g u ≡ None) → fields_from f g w ≡ None
field_none Level g w h = ap (λ (k : List ℕ → Option Float). fields_from Level k w) (fun_ext h) ∙ no_pair (cut_at 32 w)
field_none (Factor x) g w h = ap (λ (k : List ℕ → Option Float). fields_from (Factor x) k w) (fun_ext h) ∙ no_factor x (at_end (cut_at 41 w))

-- a digit is no stop
pub digit_stop : (f : Field) (c : ℕ) → is_ascii_digit c ≡ true → eqb c (stop_of f) ≡ false
digit_stop f c e = ne_eqb c (stop_of f) (λ (h : c ≡ stop_of f). apart f (sym (ap is_ascii_digit h) ∙ e))
  where
    apart : (f : Field) → is_ascii_digit (stop_of f) ≡ true → ⊥
    apart Level p = subst (λ (b : Bool). cond b ⊥ (Unit {0})) p tt
    apart (Factor x) p = subst (λ (b : Bool). cond b ⊥ (Unit {0})) p tt

-- the number has ended
behind_level : (o : Option Float) (w : List ℕ) → both o (factor_of w) ≡ option_and_then (λ t. rest_of t w) (option_map (behind_of Level) o)
behind_level None w = refl
behind_level (Some x) w = refl

behind_factor : (x : Float) (g : List ℕ → Option Float) (o : Option Float) (w : List ℕ) → g [] ≡ o
    → both (Some x) (option_and_then g (at_end (Some ([], w)))) ≡ option_and_then (λ t. rest_of t w) (option_map (behind_of (Factor x)) o)
behind_factor x g None [] e = ap (both (Some x)) e
behind_factor x g (Some y) [] e = ap (both (Some x)) e
behind_factor x g None (d ∷ w) e = refl
behind_factor x g (Some y) (d ∷ w) e = refl

field_stop : (f : Field) (g : List ℕ → Option Float) (c : ℕ) (w : List ℕ) → eqb c (stop_of f) ≡ true
    → fields_from f g (c ∷ w) ≡ option_and_then (λ t. rest_of t w) (option_map (behind_of f) (g []))
field_stop Level g c w e = rw e (behind_level (g []) w)
field_stop (Factor x) g c w e = rw e (behind_factor x g (g []) w refl)

-- ---- one byte more of a row

-- where the number goes on or not
more_rest : (f : Field) (o : Option Digits) (w : List ℕ)
    → fields_from f (λ u. option_and_then (λ t. number_from t u) o) w ≡ option_and_then (λ t. rest_of t w) (option_map (λ t. spot.Number f t) o)
more_rest f None w = field_none f (λ u. None) w (λ u. refl)
more_rest f (Some s) w = refl

number_rest : (f : Field) (s : Digits) (c : ℕ) (w : List ℕ) → FitsAt (spot.Number f s) []
    → rest_of (spot.Number f s) (c ∷ w) ≡ option_and_then (λ t. rest_of t w) (field_after f s c)
unfolding field_after
number_rest f s c w h =
    cond_both (eqb c (stop_of f)) (option_map (behind_of f) (value_at s)) (option_map (λ t. spot.Number f t) (number_after s c))
    (λ o. rest_of (spot.Number f s) (c ∷ w) ≡ option_and_then (λ t. rest_of t w) o)
    (λ e. field_stop f (number_from s) c w e ∙ ap (λ (o : Option Float). option_and_then (λ t. rest_of t w) (option_map (behind_of f) o)) (number_end s h))
    (λ e. field_on f (number_from s) c w e
    ∙ ap (λ (g : List ℕ → Option Float). fields_from f g w) (fun_ext (λ (u : List ℕ). number_on s c u))
    ∙ more_rest f (number_after s c) w)

text_is : (t : List ℕ) (k c : ℕ) → k < length t → text_after t k c ≡ cond (eqb c (get_or t k 0)) (Some (k + 1)) None
unfolding text_after
text_is t k c h = ap (λ (o : Option ℕ). option_and_then (λ d. cond (eqb c d) (Some (k + 1)) None) o) (slice_get-get_or t k 0 h)

abbrev in_opening : ℕ → Spot
in_opening j = cond (ltb j 7) (spot.Opening j) (spot.Number Level Due)

opening_more : (b : Bool) (k : ℕ) (w : List ℕ) → k < 7
    → option_and_then fields_of (cond b (after (drop (k + 1) row_opening) w) None)
    ≡ option_and_then (λ t. rest_of t w) (option_map in_opening (cond b (Some (k + 1)) None))
opening_more true k w h =
    cond_both (ltb (k + 1) 7) (spot.Opening (k + 1)) (spot.Number Level Due) (λ s. option_and_then fields_of (after (drop (k + 1) row_opening) w) ≡ rest_of s w)
    (λ e. refl) (λ e. ap (λ (j : ℕ). option_and_then fields_of (after (drop j row_opening) w)) (seven (ltb-false (k + 1) 7 e)))
  where
    seven : 7 ≤ k + 1 → k + 1 ≡ 7
    seven g = omega arith
opening_more false k w h = refl

opening_rest : (k c : ℕ) (w : List ℕ) → k < 7 → rest_of (spot.Opening k) (c ∷ w) ≡ option_and_then (λ t. rest_of t w) (next_at (spot.Opening k) 0 c)
opening_rest k c w h = rw (drop_more row_opening k 0 h, text_is row_opening k c h) (opening_more (eqb c (get_or row_opening k 0)) k w h)

-- ---- the rest of the file

-- the rest of a row, and the lines after it
abbrev row_rest : List CoverageRow → (List ℕ → Option CoverageRow) → Lines → Form
row_rest rs o (cut [] r) = Err (length rs + 2)
row_rest rs o (cut (w ∷ ls) r) = if_row (length rs + 2) (ltb (length rs) 8) (o w) (λ x. rows_from (rs ++ (x ∷ [])) ls r)

abbrev head_rest : List ℕ → Lines → Form
head_rest t (cut [] r) = Err 1
head_rest t (cut (w ∷ ls) r) = cond (bytes_eq w t) (rows_from [] ls r) (Err 1)

abbrev end_rest : List CoverageRow → Lines → Form
end_rest rs (cut [] r) = Err (length rs + 2)
end_rest rs (cut ([] ∷ ls) r) = end_form rs (cut ls r)
end_rest rs (cut ((c ∷ w) ∷ ls) r) = Err (length rs + 2)

abbrev lines_rest : List CoverageRow → Lines → Form
lines_rest rs (cut ls r) = rows_from rs ls r

abbrev resume_at : Spot → List CoverageRow → Lines → Form
resume_at (spot.Head k) rs q = head_rest (drop k (codes "(coverage")) q
resume_at (spot.Opening k) rs q = row_rest rs (rest_of (spot.Opening k)) q
resume_at (spot.Number f s) rs q = row_rest rs (rest_of (spot.Number f s)) q
resume_at (spot.Closed x) rs q = row_rest rs (rest_of (spot.Closed x)) q
resume_at spot.Start rs q = lines_rest rs q
resume_at spot.End rs q = end_rest rs q
resume_at spot.Done rs q = end_form rs q
resume_at (spot.Wrong k) rs q = Err k

abbrev resume : Standing → Lines → Form
resume l q = resume_at l.spot l.rows q

-- ---- a byte within a line

abbrev InRow : Spot → Type 0
InRow (spot.Opening k) = Unit {0}
InRow (spot.Number f s) = Unit {0}
InRow (spot.Closed x) = Unit {0}
InRow _ = ⊥

row_is : (s : Spot) (rs : List CoverageRow) (q : Lines) → InRow s → row_rest rs (rest_of s) q ≡ resume_at s rs q
row_is (spot.Opening k) rs q h = refl
row_is (spot.Number f s) rs q h = refl
row_is (spot.Closed x) rs q h = refl
row_is (spot.Head k) rs q h = absurd h
row_is spot.Start rs q h = absurd h
row_is spot.End rs q h = absurd h
row_is spot.Done rs q h = absurd h
row_is (spot.Wrong k) rs q h = absurd h

row_none : (rs : List CoverageRow) (q : Lines) → row_rest rs (λ w. None) q ≡ Err (length rs + 2)
row_none rs (cut [] r) = refl
row_none rs (cut (w ∷ ls) r) = refl

row_in : (rs : List CoverageRow) (o : List ℕ → Option CoverageRow) (c : ℕ) (q : Lines) → row_rest rs o (in_line c q) ≡ row_rest rs (λ w. o (c ∷ w)) q
row_in rs o c (cut [] r) = refl
row_in rs o c (cut (w ∷ ls) r) = refl

-- m is where the reader stands then
row_to : (rs : List CoverageRow) (m : Option Spot) (q : Lines) → IfSome m InRow
    → row_rest rs (λ w. option_and_then (λ t. rest_of t w) m) q ≡ resume_at (unwrap_or m (spot.Wrong (length rs + 2))) rs q
row_to rs None q h = row_none rs q
row_to rs (Some s) q h = row_is s rs q h

row_byte : (rs : List CoverageRow) (o : List ℕ → Option CoverageRow) (c : ℕ) (m : Option Spot) (q : Lines)
    → ((w : List ℕ) → o (c ∷ w) ≡ option_and_then (λ t. rest_of t w) m) → IfSome m InRow
    → row_rest rs o (in_line c q) ≡ resume_at (unwrap_or m (spot.Wrong (length rs + 2))) rs q
row_byte rs o c m q e h = row_in rs o c q ∙ ap (λ (p : List ℕ → Option CoverageRow). row_rest rs p q) (fun_ext e) ∙ row_to rs m q h

in_row_opening : (o : Option ℕ) → IfSome (option_map in_opening o) InRow
in_row_opening None = tt
in_row_opening (Some j) = cond_both (ltb j 7) (spot.Opening j) (spot.Number Level Due) InRow (λ e. tt) (λ e. tt)

in_row_behind : (f : Field) (o : Option Float) → IfSome (option_map (behind_of f) o) InRow
in_row_behind f None = tt
in_row_behind Level (Some x) = tt
in_row_behind (Factor x) (Some y) = tt

in_row_more : (f : Field) (o : Option Digits) → IfSome (option_map (λ t. spot.Number f t) o) InRow
in_row_more f None = tt
in_row_more f (Some s) = tt

in_row_field : (f : Field) (s : Digits) (c : ℕ) → IfSome (field_after f s c) InRow
unfolding field_after
in_row_field f s c =
    cond_both (eqb c (stop_of f)) (option_map (behind_of f) (value_at s)) (option_map (λ t. spot.Number f t) (number_after s c)) (λ o. IfSome o InRow)
    (λ e. in_row_behind f (value_at s)) (λ e. in_row_more f (number_after s c))

-- ---- the first line

abbrev title : List ℕ
title = codes "(coverage"

abbrev in_head : ℕ → Spot
in_head j = cond (ltb j 10) (spot.Head j) (spot.Opening 0)

if_same : (b : Bool) (f : Form) → f ≡ cond b f f
if_same true f = refl
if_same false f = refl

if_both : (b e : Bool) (f g : Form) → cond (b && e) f g ≡ cond b (cond e f g) g
if_both true e f g = refl
if_both false e f g = refl

head_in : (d c : ℕ) (t : List ℕ) (q : Lines) → head_rest (d ∷ t) (in_line c q) ≡ cond (eqb c d) (head_rest t q) (Err 1)
head_in d c t (cut [] r) = if_same (eqb c d) (Err 1)
head_in d c t (cut (w ∷ ls) r) = if_both (eqb c d) (bytes_eq w t) (rows_from [] ls r) (Err 1)

head_over : (c : ℕ) (q : Lines) → head_rest [] (in_line c q) ≡ Err 1
head_over c (cut [] r) = refl
head_over c (cut (w ∷ ls) r) = refl

head_empty : (d : ℕ) (t : List ℕ) (q : Lines) → head_rest (d ∷ t) (new_line q) ≡ Err 1
head_empty d t (cut ls r) = refl

first_row : (b : Bool) (w : List ℕ) (ls : List (List ℕ)) (r : List ℕ)
    → cond (b && false) (end_form [] (cut ls r)) (if_row 2 true (row_of w) (λ x. rows_from (x ∷ []) ls r))
    ≡ if_row 2 true (rest_of (spot.Opening 0) w) (λ x. rows_from (x ∷ []) ls r)
unfolding row_of
first_row true w ls r = refl
first_row false w ls r = refl

head_row : (q : Lines) → head_rest [] (new_line q) ≡ resume_at (spot.Opening 0) [] q
head_row (cut [] r) = refl
head_row (cut (w ∷ ls) r) = first_row (bytes_eq w (codes ")")) w ls r

-- its bytes in front of the line feed
title_is : (k : ℕ) → k < 9 → get_or first_line k 0 ≡ get_or title k 0
title_is k h = eqb-true _ _ (agree_below_at (λ j. eqb (get_or first_line j 0) (get_or title j 0)) (λ j. true) 9 k refl h)

title_line : (k : ℕ) → k < 9 → eqb 10 (get_or title k 0) ≡ false
title_line k h = agree_below_at (λ j. eqb 10 (get_or title j 0)) (λ j. false) 9 k refl h

title_next : (k n c : ℕ) → k < 9 → next_at (spot.Head k) n c ≡ option_map in_head (cond (eqb c (get_or title k 0)) (Some (k + 1)) None)
title_next k n c h = rw (text_is first_line k c (omega arith), title_is k h)

title_more : (b : Bool) (k : ℕ) (rs : List CoverageRow) (q : Lines) → k < 9
    → cond b (head_rest (drop (k + 1) title) q) (Err 1) ≡ resume_at (unwrap_or (option_map in_head (cond b (Some (k + 1)) None)) (spot.Wrong 1)) rs q
title_more true k rs q h = rw (lt-ltb (k + 1) 10 (omega arith))
title_more false k rs q h = refl

head_byte : (k c : ℕ) (rs : List CoverageRow) (q : Lines) → k < 10 → eqb c 10 ≡ false
    → resume_at (spot.Head k) rs (in_line c q) ≡ resume_at (unwrap_or (next_at (spot.Head k) (length rs) c) (spot.Wrong 1)) rs q
head_byte k c rs q h e = ⊎_elim within at_end (cases_lt k 9)
  where
    within : k < 9 → resume_at (spot.Head k) rs (in_line c q) ≡ resume_at (unwrap_or (next_at (spot.Head k) (length rs) c) (spot.Wrong 1)) rs q
    within g = rw (title_next k (length rs) c g, drop_more title k 0 g, head_in) (title_more (eqb c (get_or title k 0)) k rs q g)

    at_end : 9 ≤ k → resume_at (spot.Head k) rs (in_line c q) ≡ resume_at (unwrap_or (next_at (spot.Head k) (length rs) c) (spot.Wrong 1)) rs q
    at_end g = let z : k ≡ 9 = omega arith in rw (z, text_is first_line 9 c (lit< tt), e) (head_over c q)

-- ---- a line behind a row

row_of_on : (c : ℕ) (w : List ℕ) → row_of (c ∷ w) ≡ option_and_then (λ t. rest_of t w) (cond (eqb c 40) (Some (spot.Opening 1)) None)
unfolding row_of
row_of_on c w = by (eqb c 40)
  where
    by : (b : Bool) → option_and_then fields_of (cond b (after (drop 1 row_opening) w) None)
        ≡ option_and_then (λ t. rest_of t w) (cond b (Some (spot.Opening 1)) None)
    by true = refl
    by false = refl

row_of_none : row_of [] ≡ None
unfolding row_of
row_of_none = refl

-- a line that is not ) is a row or wrong
not_close : (rs : List CoverageRow) (w : List ℕ) (ls : List (List ℕ)) (r : List ℕ) → bytes_eq w (codes ")") ≡ false
    → rows_from rs (w ∷ ls) r ≡ row_rest rs row_of (cut (w ∷ ls) r)
not_close rs w ls r e = simp e

lines_not : (rs : List CoverageRow) (c : ℕ) (q : Lines) → eqb c 41 ≡ false → lines_rest rs (in_line c q) ≡ row_rest rs (λ w. row_of (c ∷ w)) q
lines_not rs c (cut [] r) e = refl
lines_not rs c (cut (w ∷ ls) r) e = not_close rs (c ∷ w) ls r (rw e)

start_close : (rs : List CoverageRow) (q : Lines) → 0 < length rs → lines_rest rs (in_line 41 q) ≡ end_rest rs q
start_close rs (cut [] r) h = refl
start_close rs (cut ([] ∷ ls) r) h = rw (lt-ltb 0 (length rs) h)
start_close rs (cut ((d ∷ w) ∷ ls) r) h = rw (row_of_on 41 (d ∷ w))

in_row_if : (b : Bool) → IfSome (cond b (Some (spot.Opening 1)) None) InRow
in_row_if true = tt
in_row_if false = tt

start_byte : (rs : List CoverageRow) (c : ℕ) (q : Lines) → 0 < length rs
    → lines_rest rs (in_line c q) ≡ resume_at (unwrap_or (next_at spot.Start (length rs) c) (spot.Wrong (length rs + 2))) rs q
start_byte rs c q h = by (eqb c 41) refl
  where
    by : (b : Bool) → eqb c 41 ≡ b → lines_rest rs (in_line c q) ≡ resume_at (unwrap_or (next_at spot.Start (length rs) c) (spot.Wrong (length rs + 2))) rs q
    by true e = rw (eqb-true c 41 e) (start_close rs q h)
    by false e =
        lines_not rs c q e ∙ rw (e, fun_ext (row_of_on c)) (row_to rs (cond (eqb c 40) (Some (spot.Opening 1)) None) q (in_row_if (eqb c 40)))

end_byte : (rs : List CoverageRow) (c : ℕ) (q : Lines) → end_rest rs (in_line c q) ≡ Err (length rs + 2)
end_byte rs c (cut [] r) = refl
end_byte rs c (cut (w ∷ ls) r) = refl

over_byte : (rs : List CoverageRow) (c : ℕ) (q : Lines) → end_form rs (in_line c q) ≡ Err (length rs + 3)
over_byte rs c (cut [] r) = refl
over_byte rs c (cut (w ∷ ls) r) = refl

byte : (s : Spot) (rs : List CoverageRow) (c : ℕ) (q : Lines) → FitsAt s rs → eqb c 10 ≡ false
    → resume_at s rs (in_line c q) ≡ resume_at (unwrap_or (next_at s (length rs) c) (spot.Wrong (line_at s (length rs)))) (rows_after s rs c) q
byte (spot.Head k) rs c q h e = head_byte k c rs q h.0 e
byte (spot.Opening k) rs c q h e =
    row_byte rs (rest_of (spot.Opening k)) c (next_at (spot.Opening k) (length rs) c) q (λ w. opening_rest k c w h) (in_row_opening (text_after row_opening k c))
byte (spot.Number f s) rs c q h e = row_byte rs (rest_of (spot.Number f s)) c (field_after f s c) q (λ w. number_rest f s c w h) (in_row_field f s c)
byte (spot.Closed x) rs c q h e = rw e (row_byte rs (closing x) c None q (λ w. refl) tt)
byte spot.Start rs c q h e = start_byte rs c q h
byte spot.End rs c q h e = rw e (end_byte rs c q)
byte spot.Done rs c q h e = over_byte rs c q
byte (spot.Wrong k) rs c q h e = refl

-- ---- a line feed

opening_line : (k : ℕ) → k < 7 → eqb 10 (get_or row_opening k 0) ≡ false
opening_line k h = agree_below_at (λ j. eqb 10 (get_or row_opening j 0)) (λ j. false) 7 k refl h

row_line : (rs : List CoverageRow) (o : List ℕ → Option CoverageRow) (q : Lines) → o [] ≡ None → row_rest rs o (new_line q) ≡ Err (length rs + 2)
row_line rs o (cut ls r) h = rw h

field_line : (f : Field) (s : Digits) → field_after f s 10 ≡ None
unfolding field_after number_after
field_line Level s = refl
field_line (Factor x) s = refl

-- the end of a line within a number
pub field_end : (f : Field) (g : List ℕ → Option Float) → fields_from f g [] ≡ None
field_end Level g = refl
field_end (Factor x) g = refl

head_line : (k : ℕ) (rs : List CoverageRow) (q : Lines) → k < 10 → rs ≡ []
    → resume_at (spot.Head k) rs (new_line q) ≡ resume_at (unwrap_or (next_at (spot.Head k) (length rs) 10) (spot.Wrong 1)) rs q
head_line k rs q h z = ⊎_elim within at_end (cases_lt k 9)
  where
    within : k < 9 → resume_at (spot.Head k) rs (new_line q) ≡ resume_at (unwrap_or (next_at (spot.Head k) (length rs) 10) (spot.Wrong 1)) rs q
    within g = rw (title_next k (length rs) 10 g, drop_more title k 0 g, head_empty, title_line k g)

    at_end : 9 ≤ k → resume_at (spot.Head k) rs (new_line q) ≡ resume_at (unwrap_or (next_at (spot.Head k) (length rs) 10) (spot.Wrong 1)) rs q
    at_end g = let n : k ≡ 9 = omega arith in rw (n, text_is first_line 9 10 (lit< tt), z) (head_row q)

closed_line : (x : CoverageRow) (rs : List CoverageRow) (b : Bool) (q : Lines) → ltb (length rs) 8 ≡ b
    → row_rest rs (closing x) (new_line q)
    ≡ resume_at (unwrap_or (cond b (Some spot.Start) None) (spot.Wrong (length rs + 2))) (cond b (rs ++ (x ∷ [])) rs) q
closed_line x rs true (cut ls r) e = rw e
closed_line x rs false (cut ls r) e = rw e

start_line : (rs : List CoverageRow) (q : Lines) → lines_rest rs (new_line q) ≡ Err (length rs + 2)
start_line rs (cut ls r) = not_close rs [] ls r refl ∙ row_line rs row_of (cut ls r) row_of_none

end_line : (rs : List CoverageRow) (q : Lines) → end_rest rs (new_line q) ≡ end_form rs q
end_line rs (cut ls r) = refl

over_line : (rs : List CoverageRow) (q : Lines) → end_form rs (new_line q) ≡ Err (length rs + 3)
over_line rs (cut ls r) = refl

line : (s : Spot) (rs : List CoverageRow) (q : Lines) → FitsAt s rs
    → resume_at s rs (new_line q) ≡ resume_at (unwrap_or (next_at s (length rs) 10) (spot.Wrong (line_at s (length rs)))) (rows_after s rs 10) q
line (spot.Head k) rs q h = head_line k rs q h.0 h.1
line (spot.Opening k) rs q h =
    rw (text_is row_opening k 10 h, opening_line k h) (row_line rs (rest_of (spot.Opening k)) q (rw (drop_more row_opening k 0 h)))
line (spot.Number f s) rs q h = rw (field_line f s) (row_line rs (rest_of (spot.Number f s)) q (field_end f (number_from s)))
line (spot.Closed x) rs q h = closed_line x rs (ltb (length rs) 8) q refl
line spot.Start rs q h = start_line rs q
line spot.End rs q h = end_line rs q
line spot.Done rs q h = over_line rs q
line (spot.Wrong k) rs q h = refl

-- ---- all bytes

step : (l : Standing) (c : ℕ) (s : List ℕ) → Fits l → resume l (lines_of (c ∷ s)) ≡ resume (fed_of l c) (lines_of s)
unfolding fed_of
step l c s h = by (eqb c 10) refl
  where
    by : (b : Bool) → eqb c 10 ≡ b → resume l (cond b (new_line (lines_of s)) (in_line c (lines_of s)))
        ≡ resume_at (unwrap_or (next_at l.spot (length l.rows) c) (spot.Wrong (line_at l.spot (length l.rows)))) (rows_after l.spot l.rows c) (lines_of s)
    by true e = rw (eqb-true c 10 e) (line l.spot l.rows (lines_of s) h.0)
    by false e = byte l.spot l.rows c (lines_of s) h.0 e

final_at : (s : Spot) (rs : List CoverageRow) → resume_at s rs (cut [] []) ≡ form_at s rs
final_at (spot.Head k) rs = refl
final_at (spot.Opening k) rs = refl
final_at (spot.Number f s) rs = refl
final_at (spot.Closed x) rs = refl
final_at spot.Start rs = refl
final_at spot.End rs = refl
final_at spot.Done rs = refl
final_at (spot.Wrong k) rs = refl

read : (s : List ℕ) (l : Standing) → Fits l → resume l (lines_of s) ≡ form_in (fed_all l s)
unfolding form_in
read [] l h = final_at l.spot l.rows
read (c ∷ s) l h = step l c s h ∙ read s (fed_of l c) (fits_fed l c h)

fits_all : (s : List ℕ) (l : Standing) → Fits l → Fits (fed_all l s)
fits_all [] l h = h
fits_all (c ∷ s) l h = fits_all s (fed_of l c) (fits_fed l c h)

begun_fits : Fits begun_of
unfolding begun_of
begun_fits = ((lit< tt, refl), lit≤ tt)

head_whole : (q : Lines) → head_rest title q ≡ head_form q
head_whole (cut [] r) = refl
head_whole (cut (w ∷ ls) r) = refl

begun_rest : (s : List ℕ) → resume begun_of (lines_of s) ≡ form_of s
unfolding begun_of form_of
begun_rest s = head_whole (lines_of s)

-- After any list of bytes the reader holds their form.
pub reader_form : (s : List ℕ) → form_in (fed_all begun_of s) ≡ form_of s
reader_form s = sym (read s begun_of begun_fits) ∙ begun_rest s

pub loads : Loads
unfolding load_of
loads s = ap judged (reader_form s)

pub fed_more : FedMore
fed_more l a b = sym (fold-append fed_of l a b)

-- the bytes up to an index, and one more; up to the end they are all
pub fed_next : (l m : Standing) (s : List ℕ) (i : ℕ) → i < length s → m ≡ fed_all l (take i s) → fed_of m (get_or s i 0) ≡ fed_all l (take (i + 1) s)
fed_next l m s i h e =
    ap (λ (k : Standing). fed_of k (get_or s i 0)) e
    ∙ fed_more l (take i s) (get_or s i 0 ∷ [])
    ∙ ap (fed_all l) (sym (take-suc s i 0 h))
    ∙ ap (λ (k : ℕ). fed_all l (take k s)) (sym (add-one i))

pub fed_whole : (l : Standing) (s : List ℕ) (i : ℕ) → length s ≤ i → fed_all l (take i s) ≡ fed_all l s
fed_whole l s i h = ap (fed_all l) (take_all i s h)

pub loads_file : LoadsFile
loads_file s r h = h ∙ loads s

-- ---- an accepted table

if_risen : (us rs : List CoverageRow) (o : Option ℕ) → risen us o ≡ Ok rs → us ≡ rs
if_risen us rs None e = cc
if_risen us rs (Some i) e = cc

if_ranged : (us rs : List CoverageRow) (o : Option ℕ) → ranged us o ≡ Ok rs → us ≡ rs
if_ranged us rs None e = if_risen us rs (flat_of us) e
if_ranged us rs (Some i) e = cc

-- an accepted file's table is the reader's own
if_judged : (f : Form) (rs : List CoverageRow) → judged f ≡ Ok rs → f ≡ Ok rs
unfolding judged
if_judged (Err k) rs e = cc
if_judged (Ok us) rs e = ap (λ (vs : List CoverageRow). Ok vs) (if_ranged us rs (outside_of us) e)

formed_rows : (s : Spot) (rs us : List CoverageRow) → FitsAt s rs → form_at s rs ≡ Ok us → (rs ≡ us) × (1 ≤ length rs)
formed_rows spot.Done rs us h e = (cc, h)
formed_rows (spot.Head k) rs us h e = cc
formed_rows (spot.Opening k) rs us h e = cc
formed_rows (spot.Number f s) rs us h e = cc
formed_rows (spot.Closed x) rs us h e = cc
formed_rows spot.Start rs us h e = cc
formed_rows spot.End rs us h e = cc
formed_rows (spot.Wrong k) rs us h e = cc

-- an accepted table is of the rows that the reader holds
rows_held : (s : Spot) (rs us : List CoverageRow) → form_at s rs ≡ Ok us → us ≡ rs
rows_held spot.Done rs us e = cc
rows_held (spot.Head k) rs us e = cc
rows_held (spot.Opening k) rs us e = cc
rows_held (spot.Number f s) rs us e = cc
rows_held (spot.Closed x) rs us e = cc
rows_held spot.Start rs us e = cc
rows_held spot.End rs us e = cc
rows_held (spot.Wrong k) rs us e = cc

pub accepted : (l : Standing) (us : List CoverageRow) → judged (form_in l) ≡ Ok us → us ≡ l.rows
unfolding form_in
accepted l us e = rows_held l.spot l.rows us (if_judged (form_in l) us e)

few_rows : (l : Standing) (us : List CoverageRow) → Fits l → form_in l ≡ Ok us → (1 ≤ length us) × (length us ≤ 8)
unfolding form_in
few_rows l us h e =
    let p : (l.rows ≡ us) × (1 ≤ length l.rows) = formed_rows l.spot l.rows us h.0 e in
    subst (λ (rs : List CoverageRow). (1 ≤ length rs) × (length rs ≤ 8)) p.0 (p.1, h.1)

pub accepted_rows : AcceptedRows
accepted_rows s us e =
    few_rows (fed_all begun_of s) us (fits_all s begun_of begun_fits) (if_judged (form_in (fed_all begun_of s)) us (loads s ∙ e))
