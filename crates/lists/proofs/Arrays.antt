-- Lists in the first places of arrays, over plain values: what the arrays of a request hold. Assumes nothing.
use Rattle.std.proofs.Common.{◌≡◌, ℕ, zero, suc, ◌+◌, ◌<◌, ◌≤◌, min, List, [], ◌∷◌, ◌++◌, length, take, drop, set, get_or, replicate, map, refl, ap, ◌∙◌, add-one, arith}
use Rattle.std.specs.Prelude.{Float}
use Rattle.std.specs.Float.{nan}
use Rattle.std.proofs.Math.ListN.{length-map, length-take, get_or-map}
use Rattle.numeric.specs.Numeric.{zero64}
use Rattle.definition.specs.Request.{Observation, Requested}
use Rattle.definition.specs.Meaning.{observations_of}
use Rattle.slices.specs.Slices.{laid_over}
use Rattle.likelihood.proofs.Laws.{over_take, over_suc, over_all}
use Rattle.lists.specs.Lists.{observations_at, requested_in, places_of, no_request, shots_from, wanted_from}
use Rattle.lists.specs.declared.Wanted.{Wanted}

-- ---- the measured part

columns_whole : (obs : List Observation)
    → observations_of (map (λ (o : Observation). o.range_yd) obs) (map (λ (o : Observation). o.drop) obs) (map (λ (o : Observation). o.sigma) obs) ≡ obs
columns_whole [] = refl
columns_whole (o ∷ obs) = ap (λ (r : List Observation). o ∷ r) (columns_whole obs)

column_whole : (obs : List Observation) (f : Observation → Float) → length obs ≤ 64 → take (length obs) (places_of (map f obs)) ≡ map f obs
column_whole obs f h = over_take (map f obs) (replicate 64 zero64) (length obs) (length-map obs f) h

pub shots_measured : (obs : List Observation) → length obs ≤ 64 → observations_at (shots_from obs) ≡ obs
shots_measured obs h =
    rw (column_whole obs (λ (o : Observation). o.range_yd) h, column_whole obs (λ (o : Observation). o.drop) h, column_whole obs (λ (o : Observation). o.sigma) h)
    (columns_whole obs)

-- the first i entries of a field, laid over zeros
abbrev pub column : (Observation → Float) → ℕ → List Observation → List Float
column f i xs = laid_over (take i (map f xs)) (replicate 64 zero64)

-- what is read past the end, where the code does not read
abbrev blank : Observation
blank = record { range_yd = nan; drop = nan; sigma = nan }

pub column_suc : (f : Observation → Float) (xs : List Observation) (a : List Float) (i : ℕ) (x : Float) → i < length xs → i < 64 → a ≡ column f i xs
    → x ≡ f (get_or xs i blank) → set a i x ≡ column f (i + 1) xs
column_suc f xs a i x g h e r =
    let l = length-map xs f in
    rw (e, r, add-one, ← get_or-map f xs i blank) (over_suc (map f xs) (replicate 64 zero64) i (f blank) (omega arith) h)

pub column_all : (f : Observation → Float) (xs : List Observation) (a : List Float) (i : ℕ) → min (length xs) 64 ≤ i → a ≡ column f i xs → a ≡ places_of (map f xs)
column_all f xs a i h e = let l = length-map xs f in e ∙ over_all (map f xs) (replicate 64 zero64) i (omega (arith, l, h))

-- ---- the requested distances

pub wanted_requested : (ds : List Requested) → length ds ≤ 64 → requested_in (wanted_from ds) ≡ ds
wanted_requested ds h = over_take ds (replicate 64 no_request) (length ds) refl h

pub wanted_some : (w : Wanted) → length w.entries ≡ 64 → w.n ≤ 64 → length (requested_in w) ≡ 0 → w.n ≡ 0
wanted_some w l h e = let x = length-take w.n w.entries in omega arith

-- a list over another, so far as both go
pub laid_first : {A : Type 0} (xs ys : List A) (n : ℕ) → n ≡ min (length xs) (length ys) → take n xs ++ drop n ys ≡ laid_over xs ys
laid_first [] ys n e = let z : n ≡ 0 = omega arith in rw z refl
laid_first (x ∷ xs) [] n e = let z : n ≡ 0 = omega arith in rw z refl
laid_first (x ∷ xs) (y ∷ ys) zero e = absurd (omega arith)
laid_first {A} (x ∷ xs) (y ∷ ys) (suc n) e = ap (λ (r : List A). x ∷ r) (laid_first xs ys n (omega arith))
