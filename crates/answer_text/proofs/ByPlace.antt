-- The lists of the report that stands, as a caller reads them place by place: where one goes on, where it has ended, and that its first places are
-- the report's.
use Rattle.std.proofs.Common.{◌≡◌, ℕ, zero, suc, ◌+◌, ◌≤◌, List, [], ◌∷◌, ◌++◌, length, map, take, slice_get, refl, sym, ap, ◌∙◌, add-one, arith}
use Rattle.std.proofs.Common.{Option, None, Some}
use lib.Seq.{take_all}
use Rattle.definition.specs.Summary.{Report}
use Rattle.report.specs.declared.UncertaintyTruingReportV1.{UncertaintyTruingReportV1}
use Rattle.report.specs.Reading.{place_in, HeadOf, report_in}
use Rattle.editing.specs.Meaning.{state}
use Rattle.editing.specs.declared.Session.{Session}
use Rattle.report_text.specs.Writing.{Text}
use Rattle.report_text.specs.Texts.{joined}
use Rattle.report_text.proofs.Fields.{before, one_more}

-- a list of the report, none of whose places has anything where no report stands
abbrev pub list_in : {A : Type 0} → (Report → List A) → Option Report → List A
list_in f None = []
list_in f (Some p) = f p

pub place_list : {A : Type 0} (f : Report → List A) (i : ℕ) (p : Option Report) → place_in f i p ≡ slice_get (list_in f p) i
place_list f i None = refl
place_list f i (Some p) = refl

module _ {A : Type 0} where
  -- a list up to a place that is there
  pub taken : (l : List A) (i : ℕ) (a : A) → slice_get l i ≡ Some a → (take (suc i) l ≡ take i l ++ (a ∷ [])) × (length (take i l) ≡ i)
  taken [] i a e = let z : ◌≡◌ {A = ℕ} 0 1 = cc in absurd (omega arith)
  taken (x ∷ l) zero a e = let s : x ≡ a = cc in (ap (λ (y : A). y ∷ []) s, refl)
  taken (x ∷ l) (suc i) a e = let r = taken l i a e in (ap (λ (m : List A). x ∷ m) r.0, ap suc r.1)

  past : (l : List A) (i : ℕ) → slice_get l i ≡ None → length l ≤ i
  past [] i e = omega arith
  past (x ∷ l) zero e = let z : ◌≡◌ {A = ℕ} 0 1 = cc in absurd (omega arith)
  past (x ∷ l) (suc i) e = let h = past l i e in omega arith

  mapped : (f : A → Text) (l : List A) (a : A) → map f (l ++ (a ∷ [])) ≡ map f l ++ (f a ∷ [])
  mapped f [] a = refl
  mapped f (x ∷ l) a = ap (λ (m : List Text). f x ∷ m) (mapped f l a)

  as_many : (f : A → Text) (l : List A) → length (map f l) ≡ length l
  as_many f [] = refl
  as_many f (x ∷ l) = ap suc (as_many f l)

  -- one item more
  pub item : (f : A → Text) (l : List A) (i : ℕ) (a : A) → slice_get l i ≡ Some a
      → joined (map f (take i l)) ++ (before i ++ f a) ≡ joined (map f (take (i + 1) l))
  item f l i a e =
      let r = taken l i a e in
      ap (λ (n : ℕ). joined (map f (take i l)) ++ (before n ++ f a)) (sym (as_many f (take i l) ∙ r.1))
      ∙ one_more (map f (take i l)) (f a)
      ∙ ap joined (sym (mapped f (take i l) a))
      ∙ ap (λ (m : List A). joined (map f m)) (sym r.0)
      ∙ ap (λ (n : ℕ). joined (map f (take n l))) (sym (add-one i))

  -- no item is left
  pub all_taken : (l : List A) (i n : ℕ) → slice_get l i ≡ None → i ≤ n → take i l ≡ take n l
  all_taken l i n e h = let k = past l i e in take_all i l k ∙ sym (take_all n l (omega arith))

module _ (s : Session) (h : UncertaintyTruingReportV1) (p : Report) (e : report_in (state s) ≡ Some p) (d : HeadOf h p) where
  pub results_are : take h.observations (list_in (λ q. q.observations) (report_in (state s))) ≡ p.observations
  results_are =
      ap (λ (x : Option Report). take h.observations (list_in (λ q. q.observations) x)) e
      ∙ take_all h.observations p.observations (let k = d.results in omega arith)

  pub bands_are : take h.predictive_bands (list_in (λ q. q.bands) (report_in (state s))) ≡ p.bands
  bands_are =
      ap (λ (x : Option Report). take h.predictive_bands (list_in (λ q. q.bands) x)) e
      ∙ take_all h.predictive_bands p.bands (let k = d.bands in omega arith)
