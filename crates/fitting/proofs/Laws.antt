-- Laws of runs that the steps of a fit stand on.
use Rattle.std.proofs.Common.{ℕ, suc, ◌-◌, ◌<◌, ◌≡◌, refl, ap, arith}
use mathlib.Core.Path.{fun_ext}
use Rattle.std.proofs.lemmas.Bool.Decides.{nat_tests}
use Rattle.std.specs.Prelude.{Float}
use Rattle.definition.specs.Request.{Measured}
use Rattle.definition.specs.Run.{Run, done, refuse, ask, bind, Reply}
use Rattle.definition.specs.Likelihood.{evaluate}
use Rattle.definition.specs.Mesh as mesh
use Rattle.definition.specs.Fit.{iterate, evaluated}
use Rattle.definition.specs.declared.Point.{Point}
use Rattle.objective_mesh.specs.Meaning.{seen_within}

-- a run after a run after a run, bracketed either way
pub bind_assoc : {A B C : Type 0} (t : Run A) (f : A → Run B) (g : B → Run C) → bind (bind t f) g ≡ bind t (λ a. bind (f a) g)
bind_assoc (done a) f g = refl
bind_assoc (refuse n i) f g = refl
bind_assoc (ask p w k) f g = ap (λ (h : Reply → Run _). ask p w h) (fun_ext (λ r. bind_assoc (k r) f g))

module _ (m : Measured) where
  -- one more iteration, with l left after it and j begun by it
  pub some_left : (left l n j : ℕ) (p : Point) (v d : Float) → left ≡ suc l → j ≡ suc n
      → iterate m left p v d n ≡ bind (evaluate p) (evaluated m (λ q v d. iterate m l q v d j) p v d j)
  unfolding iterate
  some_left left l n j p v d e f = rw (e, f)

  pub poll_turn : (n : ℕ) (s : mesh.Pass) → n < 1024 → mesh.poll m (1024 - n) s ≡ mesh.on_poll_step m (mesh.poll m (1023 - n)) (mesh.poll_step s)
  unfolding mesh.poll
  poll_turn n s h = let e : 1024 - n ≡ suc (1023 - n) = omega arith in rw e

-- after a look the poll has as many evaluations left, whether the look counted or none was left before it
pub look_left : (c : Point) (v : Float) (s : mesh.Pass) (k : ℕ) → k ≡ (seen_within c v s).evaluations → 1024 - k ≡ 1023 - s.evaluations
unfolding mesh.seen
look_left c v s k e = grind (arith, nat_tests)
