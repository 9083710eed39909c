-- A change of the requested distances over plain values: the places of an array, and whether a place is one of the list. Assumes nothing.
use Rattle.std.proofs.Common.{◌≡◌, ℕ, suc, ◌+◌, ◌-◌, ◌≤◌, List, length, take, set, refl, add-one, arith}
use Rattle.std.specs.Prelude.{◌&&◌, T, leb, ltb, unwrap_or}
use Rattle.std.proofs.lemmas.Bool.Decides.{nat_tests}
use lib.Dec.{leb→le, ltb→lt}
use lib.Ieee.Fits.{and_l, and_r}
use lib.Seq.{take-set-lt}
use Rattle.definition.specs.Lists.{insert_at, remove_at}
use Rattle.definition.specs.Request.{Requested}
use Rattle.definition.specs.Whole.{Edit, put_in, take_out, exchange, edited, edited_numbers}
use Rattle.lists.specs.Changing.{entry_in}
use Rattle.array_edits.specs.Places.{inserted_of, removed_of}
use Rattle.array_edits.proofs.Laws.{inserted_places, removed_places}

-- ---- the first places of an array

within : (i m : ℕ) → T (leb 1 i && leb i m) → (1 ≤ i) × (i ≤ m)
within i m p = (leb→le 1 i (and_l (leb 1 i) (leb i m) p), leb→le i m (and_r (leb 1 i) (leb i m) p))

module _ {A : Type 0} (old r : List A) (n i j : ℕ) (x : A) (at : j ≡ i - 1) where
  pub put_places : length old ≡ 64 → r ≡ inserted_of n j x old → T (leb 1 i && leb i (n + 1)) → T (ltb n 64) → take (suc n) r ≡ insert_at (i - 1) x (take n old)
  put_places l e p h = let w = within i (n + 1) p in rw (e, at, ← add-one n) (inserted_places n (i - 1) old x l (omega arith) (ltb→lt n 64 h))

  pub took_places : length old ≡ 64 → r ≡ removed_of n j old → n ≤ 64 → T (leb 1 i && leb i n) → take (n - 1) r ≡ remove_at (i - 1) (take n old)
  took_places l e h p = let w = within i n p in rw (e, at) (removed_places n (i - 1) old l (omega arith) h)

  pub set_places : r ≡ set old j x → T (leb 1 i && leb i n) → take n r ≡ set (take n old) (i - 1) x
  set_places e p = let w = within i n p in rw (e, at) (take-set-lt n old (i - 1) x (omega arith))

-- a place is the one after the last, or before it, where the index is within the list
pub before_end : (i n : ℕ) → (leb 1 i && leb (i - 1) n) ≡ (leb 1 i && leb i (n + 1))
before_end i n = grind (arith, nat_tests)

-- the change of a list of distances is that of a list of anything, with the new distance for what goes in
pub edited_as : (e : Edit) (d : Requested) (ds : List Requested) → edited_numbers e (unwrap_or (entry_in e) d) ds ≡ edited e ds
edited_as (put_in i x) d ds = refl
edited_as (take_out i) d ds = refl
edited_as (exchange i x) d ds = refl
