-- Laws of lists by their places: a list's first items, the rows of an interval, the warnings that stand. Assumes nothing.
use Rattle.std.specs.Prelude.{Option, None, Some, slice_get, option_map}
use Prim.Native.Nat.{ℕ, zero, suc, ◌+◌}
use mathlib.Core.Path.{◌≡◌, refl, sym, ap, ◌∙◌}
use mathlib.Core.Bool.{Bool, true, false, cond}
use mathlib.Core.List.{List, [], ◌∷◌, ◌++◌, map, map-append, append-nil, append_assoc}
use native.Mathlib.Numerals.{add-one}
use native.Mathlib.Omega.{arith}
use lib.ListN.{take, length}
use lib.Seq.{take-length}
use Rattle.interval.specs.declared.GaussianIntervalV1.{GaussianIntervalV1}
use Rattle.definition.specs.Summary.{warn}
use Rattle.definition.specs.declared.TruingUncertaintyWarningCodeV1.{TruingUncertaintyWarningCodeV1}
use Rattle.coverage.specs.declared.CoverageRow.{CoverageRow}
use Rattle.coverage.specs.Rows.{Table, at_row, rows_under}
use Rattle.warnings.specs.Warnings.{codes, codes_of}
use Rattle.warnings.specs.declared.Warnings.{Warnings}
use Rattle.words.specs.Words.{bytes}
use Rattle.report_text.specs.Writing.{Text}
use Rattle.report_text.specs.Texts.{led, joined, opened, bracketed, gaussian_text, rows_text}
use Rattle.report_text.specs.Writer.{Held, put}
use Rattle.report_text.specs.Lists.{one_of, present, after_each, separated, warning_at}
use Rattle.report_text.proofs.Putting.{put_put}

-- fields are texts with a blank between two
after_blank : (ts : List Text) → after_each (bytes " ") ts ≡ led ts
unfolding led
after_blank [] = refl
after_blank (t ∷ ts) = ap (λ (s : Text). bytes " " ++ (t ++ s)) (after_blank ts)

pub by_blanks : (ts : List Text) → separated (bytes " ") ts ≡ joined ts
unfolding joined
by_blanks [] = refl
by_blanks (t ∷ ts) = ap (λ (s : Text). t ++ s) (after_blank ts)

-- ---- what stands at one place more

abbrev pub is_nil : {A : Type 0} → List A → Bool
is_nil [] = true
is_nil (a ∷ l) = false

after_more : (between : Text) (ts : List Text) (t : Text) → after_each between (ts ++ (t ∷ [])) ≡ after_each between ts ++ (between ++ t)
after_more between [] t = ap (λ (s : Text). between ++ s) (append-nil t)
after_more between (s ∷ ts) t =
    rw (after_more between ts t, append_assoc, append_assoc)

-- after those before it, and the first
pub separated_more : (between : Text) (ts : List Text) (t : Text) → is_nil ts ≡ false
    → separated between (ts ++ (t ∷ [])) ≡ separated between ts ++ (between ++ t)
separated_more between [] t e = cc
separated_more between (s ∷ ts) t e = rw (after_more between ts t, append_assoc)

pub separated_first : (between : Text) (ts : List Text) (t : Text) → is_nil ts ≡ true → separated between (ts ++ (t ∷ [])) ≡ separated between ts ++ t
separated_first between [] t e = append-nil t
separated_first between (s ∷ ts) t e = cc

pub nil_more : {A : Type 0} (l : List A) (a : A) → is_nil (l ++ (a ∷ [])) ≡ false
nil_more [] a = refl
nil_more (b ∷ l) a = refl

module _ (f : ℕ → Option Text) (i : ℕ) where
  -- one place more, where nothing stands, and where a text does
  pub none_there : f i ≡ None → present (i + 1) f ≡ present i f
  none_there e = rw (add-one, e, append-nil)

  there : (t : Text) → f i ≡ Some t → present (i + 1) f ≡ present i f ++ (t ∷ [])
  there t e = rw (add-one, e)

  pub nil_no_more : (t : Text) → f i ≡ Some t → is_nil (present (i + 1) f) ≡ false
  nil_no_more t e = ap is_nil (there t e) ∙ nil_more (present i f) t

-- with its text put behind the others
module _ (h k : Held) (between : Text) (f : ℕ → Option Text) (i : ℕ) (t : Text) (e : f i ≡ Some t) (l : k ≡ put (separated between (present i f)) h) where
  pub put_first : is_nil (present i f) ≡ true → put t k ≡ put (separated between (present (i + 1) f)) h
  put_first n = rw (l, put_put _ _ h, there f i t e, separated_first between (present i f) t n)

  pub put_later : is_nil (present i f) ≡ false → put t (put between k) ≡ put (separated between (present (i + 1) f)) h
  put_later n = rw (l, put_put _ _ h, put_put _ _ h, there f i t e, separated_more between (present i f) t n, append_assoc)

-- ---- a list in its brackets

pub in_brackets : (ts : List Text) (h : Held) → put (bytes ")") (put (separated (bytes " ") ts) (put (bytes "(") h)) ≡ put (bracketed ts) h
unfolding opened bracketed
in_brackets ts h = rw (put_put _ _ h, put_put _ _ h, by_blanks ts)

-- ---- the first items of a list

take_more : {A : Type 0} (l : List A) (n : ℕ) → take n l ++ one_of (slice_get l n) ≡ take (suc n) l
take_more [] zero = refl
take_more [] (suc n) = refl
take_more (a ∷ l) zero = refl
take_more (a ∷ l) (suc n) = ap (λ (m : List _). a ∷ m) (take_more l n)

one_map : {A : Type 0} (text : A → Text) (o : Option A) → one_of (option_map text o) ≡ map text (one_of o)
one_map text None = refl
one_map text (Some a) = refl

-- by their places
pub taken : {A : Type 0} (text : A → Text) (l : List A) (n : ℕ) → present n (λ i. option_map text (slice_get l i)) ≡ map text (take n l)
taken text l zero = refl
taken text l (suc n) =
    rw (taken text l n, one_map text (slice_get l n), sym (map-append text (take n l) (one_of (slice_get l n))), take_more l n)

-- ---- the rows of an interval

-- one is its record
pub one_row : (t : Table) (g : GaussianIntervalV1) (r : CoverageRow) → length t ≡ 1 → slice_get t 0 ≡ Some r
    → gaussian_text (at_row g r) ≡ rows_text (rows_under t g)
unfolding rows_text rows_under
one_row [] g r e f = cc
one_row (s ∷ []) g r e f = cc
one_row (s ∷ q ∷ t) g r e f = absurd (omega arith)

map_rows : (t : Table) (g : GaussianIntervalV1) → map gaussian_text (rows_under t g) ≡ map (λ r. gaussian_text (at_row g r)) t
unfolding rows_under
map_rows [] g = refl
map_rows (r ∷ t) g = ap (λ (l : List Text). gaussian_text (at_row g r) ∷ l) (map_rows t g)

listed : (t : Table) (g : GaussianIntervalV1) → (length t ≡ 1 → ⊥) → rows_text (rows_under t g) ≡ bracketed (map gaussian_text (rows_under t g))
unfolding rows_text rows_under
listed [] g h = refl
listed (r ∷ []) g h = absurd (h refl)
listed (r ∷ q ∷ t) g h = refl

-- several are a list, by the table's places
pub several_rows : (t : Table) (g : GaussianIntervalV1) → (length t ≡ 1 → ⊥)
    → rows_text (rows_under t g) ≡ bracketed (present (length t) (λ i. option_map (λ r. gaussian_text (at_row g r)) (slice_get t i)))
several_rows t g h =
    let text = λ (r : CoverageRow). gaussian_text (at_row g r) in
    listed t g h ∙ ap bracketed (map_rows t g ∙ ap (map text) (sym (take-length t)) ∙ sym (taken text t (length t)))

-- ---- the warnings that stand

warn_one : {A : Type 0} (text : TruingUncertaintyWarningCodeV1 → A) (on : Bool) (code : TruingUncertaintyWarningCodeV1) (l : List TruingUncertaintyWarningCodeV1)
    → map text (warn on code l) ≡ one_of (cond on (Some (text code)) None) ++ map text l
warn_one text true code l = refl
warn_one text false code l = refl

pub standing : (text : TruingUncertaintyWarningCodeV1 → Text) (w : Warnings) → present 10 (λ i. warning_at text w i) ≡ map text (codes_of w)
unfolding codes
standing text w = sym (simp (warn_one, append_assoc, append-nil))
