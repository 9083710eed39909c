-- The calls of a host on a session just opened, and what the definition says to each: where the run and its edits stand after the calls before it.
use Rattle.std.specs.Prelude.{ℕ, cond, List, [], ◌∷◌, ◌++◌, length, Option, None, Some, eqb}
use Rattle.definition.specs.Request.{Opening}
use Rattle.definition.specs.Run.{Run, done, refuse, ask, Entry, Reply, refused, entries}
use Rattle.definition.specs.Summary.{Finished}
use Rattle.definition.specs.Whole.{whole, Edit, placed, edit}
use Rattle.definition.specs.Session.{Said, head, Sizes, sizes_for, wants}

-- ---- the calls

-- a reply of entries; a refusal of the point; or an edit of the requested distances
pub data Call : Type 0 where
  reply : List Entry → Call
  refuse_point : Call
  change : Edit → Call

-- ---- where a session stands, by the definition

-- what is left of a run after these replies
abbrev pub resume : Run Finished → List Reply → Run Finished
resume t [] = t
resume (done c) (r ∷ rs) = done c
resume (refuse n i) (r ∷ rs) = refuse n i
resume (ask p w k) (r ∷ rs) = resume (k r) rs

-- an edit that was let through: the finished run that it is of, and the replies that it has taken
pub record Editing : Type 0 where
  pub of : Finished
  pub made : Edit
  pub replies : List Reply

-- the replies that the run has taken, and the last edit, if one was let through
pub record At : Type 0 where
  pub run : List Reply
  pub last : Option Editing

abbrev pub first : At
first = record { run = []; last = None }

abbrev pub rest_by : Opening → List Reply → Option Editing → Run Finished
rest_by o rs None = resume (whole o) rs
rest_by o rs (Some x) = resume (edit x.of x.made) x.replies

-- what is left: of the last edit, or of the run
abbrev pub rest_at : Opening → At → Run Finished
rest_at o t = rest_by o t.run t.last

abbrev pub kept_by : Option Editing → Option Finished
kept_by None = None
kept_by (Some x) = Some x.of

-- the finished run whose report stands: none while a question is open, and the one before where an edit was refused
abbrev pub finished_by : Option Finished → Run Finished → Option Finished
finished_by kept (done c) = Some c
finished_by kept (refuse n i) = kept
finished_by kept (ask p w k) = None

abbrev pub finished_at : Opening → At → Option Finished
finished_at o t = finished_by (kept_by t.last) (rest_at o t)

-- ---- a call

-- a call is declined by its number, or taken
pub data Taking : Type 0 where
  declines : ℕ → Taking
  takes : Taking

-- a reply: 8 where no question is open, 9 where the number of its entries is wrong
abbrev pub taking_reply : Sizes → Run Finished → List Entry → Taking
taking_reply z (done c) es = declines 8
taking_reply z (refuse n i) es = declines 8
taking_reply z (ask p w k) es = cond (eqb (length es) (wants z w)) takes (declines 9)

abbrev pub taking_refusal : Run Finished → Taking
taking_refusal (done c) = declines 8
taking_refusal (refuse n i) = declines 8
taking_refusal (ask p w k) = takes

-- an edit: 14 where no report stands, 15 where its place is not one of the list
abbrev pub taking_edit : Option Finished → Edit → Taking
taking_edit None e = declines 14
taking_edit (Some c) e = cond (placed e (length c.requested)) takes (declines 15)

abbrev pub stance : Opening → At → Call → Taking
stance o t (reply es) = taking_reply (sizes_for o) (rest_at o t) es
stance o t refuse_point = taking_refusal (rest_at o t)
stance o t (change e) = taking_edit (finished_at o t) e

-- one reply more, to the last edit or to the run
abbrev pub with_reply : List Reply → Option Editing → Reply → At
with_reply rs None r = record { run = rs ++ (r ∷ []); last = None }
with_reply rs (Some x) r = record { run = rs; last = Some (record { of = x.of; made = x.made; replies = x.replies ++ (r ∷ []) }) }

abbrev pub with_edit : At → Option Finished → Edit → At
with_edit t None e = t
with_edit t (Some c) e = record { run = t.run; last = Some (record { of = c; made = e; replies = [] }) }

abbrev pub after_taken : Opening → At → Call → At
after_taken o t (reply es) = with_reply t.run t.last (entries es)
after_taken o t refuse_point = with_reply t.run t.last refused
after_taken o t (change e) = with_edit t (finished_at o t) e

-- a declined call changes nothing
abbrev pub unless_declined : {A : Type 0} → Taking → A → A → A
unless_declined (declines n) old new = old
unless_declined takes old new = new

abbrev pub after_call : Opening → At → Call → At
after_call o t x = unless_declined (stance o t x) t (after_taken o t x)

-- what is to be said: the number of a declined call, or what the run or the edit comes to next
abbrev pub due : Taking → Run Finished → Said
due (declines n) t = Said.refusal n 0
due takes t = head t

abbrev pub due_to : Opening → At → Call → Said
due_to o t x = due (stance o t x) (rest_at o (after_call o t x))
