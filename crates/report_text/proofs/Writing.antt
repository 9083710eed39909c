-- Laws of writing: nothing, a byte, a text after another, a text that fits. Assumes nothing.
use Prim.Native.Nat.{ℕ, zero, suc, ◌+◌, ◌-◌, ◌≤◌, ◌<◌, min}
use mathlib.Core.Path.{◌≡◌, refl, sym, ap, ◌∙◌, subst, subst⁻¹}
use mathlib.Core.List.{[], ◌∷◌, ◌++◌, append-nil, append_assoc}
use mathlib.Core.Bool.{Bool, true, false}
use native.Mathlib.Numerals.{add-one}
use native.Mathlib.Omega.{arith}
use borrow.Author.Tests.{leb-true, leb-false}
use lib.Dec.{leb}
use lib.ListN.{length, take, drop, set, get_or, length-append, length-take, length-drop, take-append-drop}
use lib.Seq.{take_all, take-length, drop-drop, take-append-le, take-suc, take-suc-set, drop-set-lt, length-take-le}
use Rattle.report_text.specs.Writing.{Text, written, Writes}

written_fits : (out : Text) (at : ℕ) (text : Text) → length (written out at text) ≤ length out
unfolding written
written_fits out at text = rw (length-take (length out) (take at out ++ text)) (omega arith)

-- cut at n, a text goes on as it does whole and is cut then
cut_again : (n : ℕ) (s t : Text) → take n (take n s ++ t) ≡ take n (s ++ t)
cut_again zero s t = refl
cut_again (suc n) [] t = refl
cut_again (suc n) (a ∷ s) t = ap (λ (l : Text). a ∷ l) (cut_again n s t)

module _ {out : Text} {at : ℕ} {after : Text} {next : ℕ} {text : Text} (w : Writes out at after next text) where
  -- the position stays within the buffer, whose length stays
  pub within : next ≤ length out
  within = omega (arith, w.reaches, written_fits out at text)

  pub same_room : length after ≡ length out
  same_room =
      let e : length (take next after) ≡ next = ap length w.begins ∙ sym w.reaches in
      let f : length (drop next after) ≡ length out - next = ap length w.keeps ∙ length-drop next out in
      let g : length (take next after) + length (drop next after) ≡ length after =
      sym (length-append (take next after) (drop next after)) ∙ ap length (take-append-drop next after) in
      omega (arith, within)

  -- another name of the text
  pub as_text : {other : Text} → text ≡ other → Writes out at after next other
  as_text e = subst (λ (t : Text). Writes out at after next t) e w

-- one text after another
pub then : {a : Text} {at : ℕ} {b : Text} {r : ℕ} {s : Text} → Writes a at b r s → {c : Text} {q : ℕ} {t : Text} → Writes b r c q t → Writes a at c q (s ++ t)
unfolding written
then {a} {at} {b} {r} {s} v {c} {q} {t} w =
    let e : take (length b) (take r b ++ t) ≡ take (length a) (take at a ++ (s ++ t)) =
    rw (same_room v, v.begins, cut_again (length a) (take at a ++ s) t, append_assoc (take at a) s t) in
    let p : q ≡ length (take (length a) (take at a ++ (s ++ t))) = w.reaches ∙ ap length e in
    let m : r ≤ q =
    omega (
      arith,
      v.reaches,
      p,
      length-take (length a) (take at a ++ s),
      length-take (length a) (take at a ++ (s ++ t)),
      length-append (take at a) s,
      length-append (take at a) (s ++ t),
      length-append s t,
    ) in
    let k : r + (q - r) ≡ q = omega arith in
    record {
      begins = w.begins ∙ e;
      reaches = p;
      keeps =
          w.keeps
          ∙ ap (λ (n : ℕ). drop n b) (sym k)
          ∙ sym (drop-drop (q - r) r b)
          ∙ ap (drop (q - r)) v.keeps
          ∙ drop-drop (q - r) r a
          ∙ ap (λ (n : ℕ). drop n a) k;
    }

-- nothing written
nothing_at : (out : Text) (at r : ℕ) → r ≤ length out → take r out ≡ take at out → Writes out at out r []
unfolding written
nothing_at out at r h f =
    let e : take r out ≡ take (length out) (take at out ++ []) =
    sym (ap (take (length out)) (append-nil (take at out)) ∙ take_all (length out) (take at out) (omega (arith, length-take at out)) ∙ sym f) in
    record { begins = e; reaches = sym (length-take-le r out h) ∙ ap length e; keeps = refl }

nothing_by : (out : Text) (at : ℕ) (v : Bool) → leb at (length out) ≡ v → Writes out at out (min at (length out)) []
nothing_by out at true e =
    let m : min at (length out) ≡ at = omega (arith, leb-true at (length out) e) in
    nothing_at out at (min at (length out)) (omega arith) (rw m)
nothing_by out at false e =
    let l : length out ≤ at = omega (arith, leb-false at (length out) e) in
    let m : min at (length out) ≡ length out = omega arith in
    nothing_at out at (min at (length out)) (omega arith) (rw m (take-length out ∙ sym (take_all at out l)))

pub nothing : {out : Text} {at r : ℕ} → r ≡ min at (length out) → Writes out at out r []
nothing {out} {at} {r} e = subst⁻¹ (λ (n : ℕ). Writes out at out n []) e (nothing_by out at (leb at (length out)) refl)

-- a text that fits is written whole
written_whole : (out : Text) (at : ℕ) (text : Text) → at + length text ≤ length out → written out at text ≡ take at out ++ text
unfolding written
written_whole out at text h =
    take_all (length out) (take at out ++ text) (omega (arith, length-append (take at out) text, length-take-le at out (omega arith)))

whole_length : (out : Text) (at : ℕ) (text : Text) → at + length text ≤ length out → at + length text ≡ length (written out at text)
whole_length out at text h =
    rw (written_whole out at text h) (omega (arith, length-append (take at out) text, length-take-le at out (omega arith)))

pub whole : {out : Text} {at : ℕ} {after : Text} {next : ℕ} {text : Text} → Writes out at after next text → at + length text ≤ length out
    → (take next after ≡ take at out ++ text) × (next ≡ at + length text)
whole {out} {at} {after} {next} {text} w h = (w.begins ∙ written_whole out at text h, w.reaches ∙ sym (whole_length out at text h))

-- one byte, where there is room for it, and where there is none
pub byte_in : (out : Text) (at b : ℕ) → at < length out → Writes out at (set out at b) (at + 1) (b ∷ [])
byte_in out at b h =
    let f : at + 1 ≤ length out = omega arith in
    record {
      begins = ap (λ (n : ℕ). take n (set out at b)) (add-one at) ∙ take-suc-set out at b h ∙ sym (written_whole out at (b ∷ []) f);
      reaches = whole_length out at (b ∷ []) f;
      keeps = drop-set-lt (at + 1) out at b (omega arith);
    }

pub byte_out : (out : Text) (at b : ℕ) → length out ≤ at → Writes out at out (length out) (b ∷ [])
unfolding written
byte_out out at b h =
    let e : out ≡ take (length out) (take at out ++ (b ∷ [])) =
    sym (ap (λ (s : Text). take (length out) (s ++ (b ∷ []))) (take_all at out h) ∙ take-append-le (length out) out (b ∷ []) (omega arith) ∙ take-length out) in
    record { begins = take-length out ∙ e; reaches = ap length e; keeps = refl }

-- a byte more of a text
pub byte_more :
    (s : Text) (i : ℕ) → i < length s → {out : Text} {at : ℕ} {before : Text} {r : ℕ} → Writes out at before r (take i s) → {after : Text} {next : ℕ}
    → Writes before r after next (get_or s i 0 ∷ []) → Writes out at after next (take (i + 1) s)
byte_more s i h v w = as_text (then v w) (sym (ap (λ (n : ℕ). take n s) (add-one i) ∙ take-suc s i 0 h))
