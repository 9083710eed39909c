-- What a host sees of a session: what an answer says, where the session stands, and what each call does to it. The contracts of the calls are one family over
-- what a session shows.
use Rattle.std.specs.Prelude.{ℕ, suc, ◌≡◌, Bool, true, false, cond, List, ltb, eqb, length, Float, Option, None, Some}
use Rattle.definition.specs.Request.{Opening}
use Rattle.definition.specs.Run.{Run, done, refuse, ask, refused, entries, Entry, Which, shots, distances, new}
use Rattle.definition.specs.Summary.{Finished}
use Rattle.definition.specs.Whole.{whole, Edit, placed, edit}
use Rattle.definition.specs.declared.Distances.{Distances}
use Rattle.definition.specs.declared.Distances.TheVariants.{Shots, Requested, New}
use Rattle.definition.specs.Refusals.{number_of}
use Rattle.definition.specs.declared.Step.{Step}
use Rattle.definition.specs.declared.Step.TheVariants.{Question, Report, Refused}

-- ---- what is said

-- which list of distances a question is about, without the distance of an edit
abbrev pub list_of : Which → Distances
list_of shots = Shots
list_of distances = Requested
list_of (new d) = New

-- S4's answers: a question, a report, or a refusal by its number and position
pub data Said : Type 0 where
  question : Float → Float → Distances → Said
  report : Said
  refusal : ℕ → ℕ → Said

-- what each case of a step says
abbrev pub says_of : Step → Said
says_of (Question mv bc list) = question mv bc list
says_of Report = report
says_of (Refused r) = refusal (number_of r.code) r.position

abbrev pub head : Run Finished → Said
head (done c) = report
head (refuse n i) = refusal n i
head (ask p w k) = question p.mv p.bc (list_of w)

-- ---- where a session stands

-- it asks, with a finished run kept from before or none, and goes on with the reply; a finished run stands; or it is over
pub data State : Type 0 where
  asking : Option Finished → Run Finished → State
  standing : Finished → State
  over : State

-- the finished run that stands: none while a question is open, and none where the run was refused
abbrev pub finished_in : State → Option Finished
finished_in (asking kept t) = None
finished_in (standing c) = Some c
finished_in over = None

-- where a run leads that starts with this finished run kept: a refusal restores it
abbrev pub after : Option Finished → Run Finished → State
after kept (done c) = standing c
after None (refuse n i) = over
after (Some c) (refuse n i) = standing c
after kept (ask p w k) = asking kept (ask p w k)

-- how many observations and requested distances there are
pub record Sizes : Type 0 where
  pub of_shots : ℕ
  pub of_distances : ℕ

abbrev pub sizes_for : Opening → Sizes
sizes_for o = record { of_shots = length o.measured.observations; of_distances = length o.requested }

-- how many entries a question wants
abbrev pub wants : Sizes → Which → ℕ
wants z shots = z.of_shots
wants z distances = z.of_distances
wants z (new d) = 1

-- the count of questions with one more; it stays at the largest number that it can hold
unfoldable pub more_of : ℕ → ℕ
more_of n = cond (ltb n 0xffff_ffff_ffff_ffff) (suc n) n

-- the count after an answer: one more exactly where the run puts a question; an edit's questions are outside it
abbrev pub counted : Option Finished → ℕ → Run Finished → ℕ
counted None n (ask p w k) = more_of n
counted None n (done c) = n
counted None n (refuse m i) = n
counted (Some c) n t = n

-- ---- the calls

abbrev pub either : Bool → Type 0 → Type 0 → Type 0
either true A B = A
either false A B = B

-- the numbers of observations and of distances stay while the run goes on
abbrev pub Sized : Option Finished → Sizes → Sizes → Type 0
Sized None z w = w ≡ z
Sized (Some c) z w = Unit {0}

-- what a session shows of itself
pub record Seen : Type 0 where
  pub state : State
  pub sizes : Sizes
  pub asked : ℕ

-- an answer is a step that is said, and the session afterwards
module _ {S : Type 0} (seen : S → Seen) where
  -- the answer stands for the run or the edit, over so many observations and distances, which started with this finished run kept and this count
  pub record Stands (said : Said) (r : S) (z : Sizes) (kept : Option Finished) (n : ℕ) (t : Run Finished) : Type 0 where
    pub leads : (seen r).state ≡ after kept t
    pub says : said ≡ head t
    pub counts : (seen r).asked ≡ counted kept n t
    pub sized : Sized kept z (seen r).sizes

  -- a declined call: its number, and the session as it was
  pub record Declines (said : Said) (r : S) (s : S) (n : ℕ) : Type 0 where
    pub says : said ≡ refusal n 0
    pub same : r ≡ s

  -- what was taken goes on from the session before it
  abbrev pub goes_on : S → Option Finished → Run Finished → Said → S → Type 0
  goes_on s kept t said r = Stands said r (seen s).sizes kept (seen s).asked t

  -- a reply of entries: 8 where no question is open, 9 where their number is wrong, and else the run or the edit goes on with them
  abbrev pub entries_taken : State → S → List Entry → Said → S → Type 0
  entries_taken over s es said r = Declines said r s 8
  entries_taken (standing c) s es said r = Declines said r s 8
  entries_taken (asking kept (done c)) s es said r = Declines said r s 8
  entries_taken (asking kept (refuse n i)) s es said r = Declines said r s 8
  entries_taken (asking kept (ask p w k)) s es said r =
      either (eqb (length es) (wants (seen s).sizes w)) (goes_on s kept (k (entries es)) said r) (Declines said r s 9)

  -- a refusal of the point: 8 where no question is open, and else the run or the edit goes on with it
  abbrev pub refusal_taken : State → S → Said → S → Type 0
  refusal_taken over s said r = Declines said r s 8
  refusal_taken (standing c) s said r = Declines said r s 8
  refusal_taken (asking kept (done c)) s said r = Declines said r s 8
  refusal_taken (asking kept (refuse n i)) s said r = Declines said r s 8
  refusal_taken (asking kept (ask p w k)) s said r = goes_on s kept (k refused) said r

  -- an edit: 14 where no report stands, 15 where its place is not one of the list, and else it runs with the finished run kept
  abbrev pub edit_taken : State → S → Edit → Said → S → Type 0
  edit_taken over s e said r = Declines said r s 14
  edit_taken (asking kept t) s e said r = Declines said r s 14
  edit_taken (standing c) s e said r = either (placed e (length c.requested)) (goes_on s (Some c) (edit c e) said r) (Declines said r s 15)

  -- the contracts of the calls
  pub record Opened (o : Opening) (said : Said) (r : S) : Type 0 where
    pub is : Stands said r (sizes_for o) None 0 (whole o)

  pub record Replied (s : S) (es : List Entry) (said : Said) (r : S) : Type 0 where
    pub is : entries_taken (seen s).state s es said r

  pub record PointRefused (s : S) (said : Said) (r : S) : Type 0 where
    pub is : refusal_taken (seen s).state s said r

  pub record Edited (s : S) (e : Edit) (said : Said) (r : S) : Type 0 where
    pub is : edit_taken (seen s).state s e said r
