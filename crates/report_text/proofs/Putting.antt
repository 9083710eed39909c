-- Laws of a writer: one text after another, a byte, a part of a text, a record's fields; and what the lent buffer holds in the end. Assumes nothing.
use Prim.Native.Nat.{ℕ, ◌+◌, ◌-◌, ◌≤◌, min}
use mathlib.Core.Path.{◌≡◌, refl, sym, ap, ◌∙◌, subst, subst⁻¹}
use mathlib.Core.List.{List, [], ◌∷◌, ◌++◌, append-nil, append_assoc}
use mathlib.Core.Bool.{Bool, true, false}
use native.Mathlib.Omega.{arith}
use base.Fml.{GName}
use borrow.Rule.Slice.PartMut.{put_mid}
use borrow.Author.Tests.{leb-true, leb-false}
use lib.Dec.{leb}
use lib.ListN.{length, take, drop, length-append, length-take, take-append-drop}
use lib.Seq.{take_all, take-append-add, take_at, drop_at, take-length, drop-drop, length-take-le}
use Rattle.report_text.specs.Writing.{Text, written, Writes}
use Rattle.words.specs.Words.{bytes}
use Rattle.report_text.specs.Texts.{led, joined, opened, bracketed}
use Rattle.report_text.specs.Writer.{Held, held, put, Wrote}
use Rattle.report_text.specs.declared.writer.Writer.{Writer}
use Rattle.report_text.proofs.Writing.{then, nothing, byte_out}

same_held : {b c : GName} {s t : Text} {m n : ℕ} → b ≡ c → s ≡ t → m ≡ n
    → ◌≡◌ {A = Held} (record { buffer = b; bytes = s; at = m }) (record { buffer = c; bytes = t; at = n })
same_held e f g = cc

-- what stands after a putting is what `Writes` says
pub writes : (text : Text) (h : Held) → Writes h.bytes h.at (put text h).bytes (put text h).at text
unfolding put
writes text h =
    let t = written h.bytes h.at text in
    record { begins = take_at t (drop (length t) h.bytes) (length t) refl; reaches = refl; keeps = drop_at t (drop (length t) h.bytes) (length t) refl }

pub by_record : (h k : Held) (text : Text) → k.buffer ≡ h.buffer → Writes h.bytes h.at k.bytes k.at text → k ≡ put text h
unfolding put
by_record h k text e w =
    same_held e (sym (take-append-drop k.at k.bytes) ∙ ap (λ (s : Text). s ++ drop k.at k.bytes) w.begins
    ∙ ap (λ (s : Text). written h.bytes h.at text ++ s) (w.keeps ∙ ap (λ (n : ℕ). drop n h.bytes) w.reaches)) w.reaches

put_buffer : (text : Text) (h : Held) → (put text h).buffer ≡ h.buffer
unfolding put
put_buffer text h = refl

-- one text after another
pub put_put : (a b : Text) (h : Held) → put b (put a h) ≡ put (a ++ b) h
put_put a b h = by_record h (put b (put a h)) (a ++ b) (put_buffer b (put a h) ∙ put_buffer a h) (then (writes a h) (writes b (put a h)))

-- nothing
pub put_nothing : (h : Held) → h.at ≤ length h.bytes → put [] h ≡ h
put_nothing h l = sym (by_record h h [] refl (nothing (omega arith)))

pub byte_full : (out : Text) (at b : ℕ) → length out ≤ at → at ≤ length out → Writes out at out at (b ∷ [])
byte_full out at b h l =
    let e : length out ≡ at = omega arith in
    subst (λ (n : ℕ). Writes out at out n (b ∷ [])) e (byte_out out at b h)

enough : (room n : ℕ) (s : Text) → n ≡ min (length s) room → take n s ≡ take room s
enough room n s e = by (leb (length s) room) refl
  where
    by : (t : Bool) → leb (length s) room ≡ t → take n s ≡ take room s
    by true f =
        let h : length s ≤ room = leb-true (length s) room f in
        let m : n ≡ length s = omega arith in
        ap (λ (k : ℕ). take k s) m ∙ take-length s ∙ sym (take_all room s h)
    by false f =
        let h : room ≤ length s = let l = leb-false (length s) room f in omega arith in
        let m : n ≡ room = omega arith in
        ap (λ (k : ℕ). take k s) m

-- as much of a text as there is room for
cut : (at n : ℕ) (out s : Text) → n ≡ min (length s) (length out - at) → at ≤ length out → take at out ++ take n s ≡ written out at s
unfolding written
cut at n out s e l =
    let f : length (take at out) ≡ at = length-take-le at out l in
    let g : take n s ≡ take (length out - at) s = enough (length out - at) n s e in
    ap (λ (t : Text). take at out ++ t) g ∙ sym (take-append-add (take at out) s (length out - at))
    ∙ ap (λ (m : ℕ). take m (take at out ++ s)) (omega arith)

pub part_in : (out s part : Text) (at n : ℕ) → n ≡ min (length s) (length out - at) → at ≤ length out → part ≡ take n s
    → Writes out at (put_mid at (at + n - at) out part) (at + n) s
part_in out s part at n e l f =
    let w = take at out ++ part in
    let d = drop (at + n - at) (drop at out) in
    let whole : put_mid at (at + n - at) out part ≡ w ++ d = sym (append_assoc (take at out) part d) in
    let long : length w ≡ at + n =
    omega (arith, length-append (take at out) part, length-take-le at out l, ap length f, length-take n s) in
    let is : w ≡ written out at s = ap (λ (p : Text). take at out ++ p) f ∙ cut at n out s e l in
    let k : at + (at + n - at) ≡ at + n = omega arith in
    record {
      begins = ap (take (at + n)) whole ∙ take_at w d (at + n) long ∙ is;
      reaches = sym long ∙ ap length is;
      keeps = ap (drop (at + n)) whole ∙ drop_at w d (at + n) long ∙ drop-drop (at + n - at) at out ∙ ap (λ (m : ℕ). drop m out) k;
    }

by_parts : {a b c d : Text} {i j k l : ℕ} {text : Text} → a ≡ b → i ≡ j → d ≡ c → l ≡ k → Writes a i c k text → Writes b j d l text
by_parts {a} {b} {c} {d} {i} {j} {k} {l} {text} e f g h w =
    subst⁻¹ (λ (s : Text). Writes b j s l text) g (subst⁻¹ (λ (n : ℕ). Writes b j c n text) h
    (subst (λ (n : ℕ). Writes b n c k text) f (subst (λ (s : Text). Writes s i c k text) e w)))

-- a position past the end counts as the end
from_at : {out : Text} {at : ℕ} {after : Text} {next : ℕ} {text : Text} → Writes out (min at (length out)) after next text → Writes out at after next text
from_at {out} {at} w = then {a = out} {at = at} (nothing refl) w

-- what the caller's buffer holds in the end
pub lent : (w v : Writer) {text : Text} → Wrote w v text → {out x : Text} {at n : ℕ} {name : GName} → w.out.ghost_name ≡ name → w.out.now ≡ out
    → w.at ≡ min at (length out) → (name ≡ v.out.ghost_name → x ≡ v.out.now) → n ≡ v.at → Writes out at x n text
unfolding held
lent w v {text} e {out} {x} {at} {n} {name} a b d f g =
    let k = writes text (held w) in
    let o : v.out.ghost_name ≡ w.out.ghost_name = ap (λ (h : Held). h.buffer) e ∙ put_buffer text (held w) in
    let q : Writes w.out.now w.at v.out.now v.at text =
    subst (λ (h : Held). Writes w.out.now w.at h.bytes h.at text) (sym e) k in
    let y : x ≡ v.out.now = f (sym (o ∙ a)) in
    let r : Writes out (min at (length out)) x n text = by_parts b d y g q in
    from_at r

led_more : (gs : List Text) (f : Text) → led gs ++ led (f ∷ []) ≡ led (gs ++ (f ∷ []))
unfolding led
led_more [] f = refl
led_more (g ∷ gs) f = ap (λ (t : Text). bytes " " ++ t) (append_assoc g (led gs) (led (f ∷ [])) ∙ ap (λ (t : Text). g ++ t) (led_more gs f))

opened_more : (g : Text) (gs : List Text) (f : Text) → opened (g ∷ gs) ++ led (f ∷ []) ≡ opened (g ∷ (gs ++ (f ∷ [])))
unfolding opened joined
opened_more g gs f = ap (λ (t : Text). bytes "(" ++ t) (append_assoc g (led gs) (led (f ∷ [])) ∙ ap (λ (t : Text). g ++ t) (led_more gs f))

pub next_field : (g : Text) (gs : List Text) (f : Text) (h : Held) → put (led (f ∷ [])) (put (opened (g ∷ gs)) h) ≡ put (opened (g ∷ (gs ++ (f ∷ [])))) h
next_field g gs f h = put_put _ _ h ∙ ap (λ (t : Text). put t h) (opened_more g gs f)

pub closing : (fs : List Text) (h : Held) → put (bytes ")") (put (opened fs) h) ≡ put (bracketed fs) h
unfolding bracketed
closing fs h = put_put _ _ h

pub first_field : (f : Text) (h : Held) → put f (put (bytes "(") h) ≡ put (opened (f ∷ [])) h
unfolding opened joined led
first_field f h = put_put _ _ h ∙ ap (λ (t : Text). put (bytes "(" ++ t) h) (sym (append-nil f))

pub led_field : (f : Text) (h : Held) → put f (put (bytes " ") h) ≡ put (led (f ∷ [])) h
unfolding led
led_field f h = put_put _ _ h ∙ ap (λ (t : Text). put (bytes " " ++ t) h) (sym (append-nil f))

pub wrote_nothing : (w : Writer) {text : Text} → text ≡ [] → Wrote w w text
unfolding held
wrote_nothing w e = sym (ap (λ (t : Text). put t (held w)) e ∙ put_nothing (held w) w.within)
