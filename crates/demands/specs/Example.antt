-- An example of demand 3: an opening, a solver, and a host's calls, whose replies come from that solver. One of its edits is refused, and two are taken.
-- `Example` has its proof, by computation, in proofs/Example.antt, and so has `ExampleMet`.
use Rattle.std.specs.Prelude.{ℕ, ◌≡◌, true, false, cond, List, [], ◌∷◌, ◌++◌, map, Float, None, Some}
use Rattle.std.specs.Float.Ieee.{le}
use Rattle.definition.specs.Request.{Requested, Opening}
use Rattle.definition.specs.Run.{Entry}
use Rattle.definition.specs.Host as Host
use Rattle.definition.specs.Whole.{whole, put_in, take_out, exchange, edited}
use Rattle.definition.specs.Figures.{number, requested}
use Rattle.definition.specs.RunFigures.{by_mv, by_bc, all_three, entered}
use Rattle.definition.specs.declared.Point.{Point}
use Rattle.fresh_outcome.specs.Solver.{Solver, fresh}
use Rattle.definition.specs.Session.{Said, says_of, head}
use Rattle.definition.specs.declared.Distances.{Distances}
use Rattle.demands.specs.Calls.{Call, reply, refuse_point, change, At, first, after_call, due_to}
use Rattle.editing.specs.Meaning.{seen}
use Rattle.definition.specs.Session.{Opened}
use Rattle.editing.specs.Meaning.{Answer}
use Rattle.demands.specs.Book.{Book, idle, is_report, Trail, begun, followed, FromSolver}
use Rattle.demands.specs.Demands.{Made, Chained, AllFrom}

-- ---- along a list of calls, to each of which is said what is due to it

module _ (σ : Solver) (o : Opening) where
  -- each reply that is taken comes from the solver
  abbrev pub AllDue : At → Trail → List Call → Type 0
  AllDue t u [] = Unit {0}
  AllDue t u (x ∷ xs) = FromSolver σ o u x × AllDue (after_call o t x) (followed σ o u x (due_to o t x)) xs

  abbrev pub book_after : At → Trail → List Call → Book
  book_after t u [] = u.book
  book_after t u (x ∷ xs) = book_after (after_call o t x) (followed σ o u x (due_to o t x)) xs

-- what is said, without the point of a question
pub data Brief : Type 0 where
  asks : Distances → Brief
  reports : Brief
  refuses : ℕ → ℕ → Brief

abbrev pub brief : Said → Brief
brief (Said.question mv bc list) = asks list
brief Said.report = reports
brief (Said.refusal n i) = refuses n i

abbrev pub told : Opening → At → List Call → List Brief
told o t [] = []
told o t (x ∷ xs) = brief (due_to o t x) ∷ told o (after_call o t x) xs

-- ---- the solver and the opening

-- up to 100 yards the drop follows the speed, up to 200 the coefficient, up to 300 neither; farther off there is none
abbrev pub drop_at : Point → Float → Entry
drop_at p d = cond (le d (number 100)) (by_mv p) (cond (le d (number 200)) (by_bc p) (cond (le d (number 300)) (Some (number 32)) None))

abbrev pub solver : Solver
solver = record { refuses = λ p. false; drops = drop_at }

-- observations at 100, 200 and 300 yards; 100 and 300 are requested
abbrev pub opening : Opening
opening = entered all_three (requested 100 ∷ requested 300 ∷ [])

-- ---- the calls, each with what is to be said to it

infix 70 ◌gets◌
pub data Line : Type 0 where
  ◌gets◌ : Call → Brief → Line

abbrev pub call_of : Line → Call
call_of (x gets said) = x

abbrev pub brief_of : Line → Brief
brief_of (x gets said) = said

abbrev pub one : ℕ → Call
one a = reply (Some (number a) ∷ [])

abbrev pub two : ℕ → ℕ → Call
two a b = reply (Some (number a) ∷ Some (number b) ∷ [])

abbrev pub three : ℕ → ℕ → ℕ → Call
three a b c = reply (Some (number a) ∷ Some (number b) ∷ Some (number c) ∷ [])

abbrev pub gap : Call
gap = reply (None ∷ [])

-- The run: one objective, five questions of the fit, five at the fit, five about the requested distances, and the baseline. In it an edit and a reply of one
-- entry are declined, and after it two replies and an edit beyond the list.
abbrev pub run : List Line
run =
    three 10 20 32 gets asks Distances.Shots
    ∷ change (take_out 1) gets refuses 14 0
    ∷ three 10 20 32 gets asks Distances.Shots
    ∷ three 12 20 32 gets asks Distances.Shots
    ∷ one 8 gets refuses 9 0
    ∷ three 8 20 32 gets asks Distances.Shots
    ∷ three 10 23 32 gets asks Distances.Shots
    ∷ three 10 17 32 gets asks Distances.Shots
    ∷ three 10 20 32 gets asks Distances.Shots
    ∷ three 12 20 32 gets asks Distances.Shots
    ∷ three 8 20 32 gets asks Distances.Shots
    ∷ three 10 23 32 gets asks Distances.Shots
    ∷ three 10 17 32 gets asks Distances.Requested
    ∷ two 10 32 gets asks Distances.Requested
    ∷ two 12 32 gets asks Distances.Requested
    ∷ two 8 32 gets asks Distances.Requested
    ∷ two 10 32 gets asks Distances.Requested
    ∷ two 10 32 gets asks Distances.Shots
    ∷ three 10 20 32 gets reports
    ∷ three 10 20 32 gets refuses 8 0
    ∷ refuse_point gets refuses 8 0
    ∷ change (take_out 3) gets refuses 15 0
    ∷ []

-- no drop is there so far off
abbrev pub refused_edit : List Line
refused_edit =
    change (exchange 2 (requested 350)) gets asks Distances.New
    ∷ gap gets asks Distances.New
    ∷ gap gets asks Distances.New
    ∷ gap gets asks Distances.New
    ∷ gap gets asks Distances.New
    ∷ gap gets refuses 13 2
    ∷ []

abbrev pub taken_edit : List Line
taken_edit =
    change (put_in 2 (requested 200)) gets asks Distances.New
    ∷ one 20 gets asks Distances.New
    ∷ change (take_out 1) gets refuses 14 0
    ∷ one 20 gets asks Distances.New
    ∷ one 20 gets asks Distances.New
    ∷ one 23 gets asks Distances.New
    ∷ one 17 gets reports
    ∷ []

-- taking out asks nothing
abbrev pub taken_out : List Line
taken_out = change (take_out 1) gets reports ∷ []

abbrev pub all : List Line
all = run ++ refused_edit ++ taken_edit ++ taken_out

abbrev pub book : List Line → Book
book lines = book_after solver opening first (begun opening (head (whole opening))) (map call_of lines)

abbrev pub resting : List Requested → Book
resting list = record { list = list; at = idle }

pub record Example : Type 0 where
  -- what is due to each call
  pub answers : told opening first (map call_of all) ≡ map brief_of all
  -- the hypothesis of demand 3
  pub from_solver : AllDue solver opening first (begun opening (head (whole opening))) (map call_of all)
  -- the refused edit leaves the book's list, and the taken ones change it
  pub after_run : book run ≡ resting (requested 100 ∷ requested 300 ∷ [])
  pub after_refused : book (run ++ refused_edit) ≡ resting (requested 100 ∷ requested 300 ∷ [])
  pub after_taken_lem : book (run ++ refused_edit ++ taken_edit) ≡ resting (requested 100 ∷ requested 200 ∷ requested 300 ∷ [])
  pub after_all : book all ≡ resting (requested 200 ∷ requested 300 ∷ [])
  -- the fresh outcomes of the edited lists
  pub fresh_refused : fresh solver opening (edited (exchange 2 (requested 350)) (requested 100 ∷ requested 300 ∷ [])) ≡ Host.refuses 13 2
  pub fresh_taken : is_report (fresh solver opening (requested 100 ∷ requested 200 ∷ requested 300 ∷ [])) ≡ true
  pub fresh_all : is_report (fresh solver opening (requested 200 ∷ requested 300 ∷ [])) ≡ true

-- Theorem `example_met`: whatever meets the contracts says that to these calls, and then the hypothesis of demand 3 holds of them.
abbrev pub ExampleMet : Type 0
ExampleMet =
    (a : Answer) → Opened seen opening (says_of a.step) a.session → (cs : List Made) → Chained a cs → map (λ c. c.call) cs ≡ map call_of all
    → (map (λ c. brief (says_of c.answer.step)) cs ≡ map brief_of all) × AllFrom solver opening (begun opening (says_of a.step)) cs
