-- What holds between any two calls of a worker's log, and what each call changes.
use Rattle.std.specs.Prelude.{◌≡◌, ◌≢◌, ◌⊎◌, ℕ, ◌+◌, ◌-◌, ◌<◌, List, [], ◌∷◌, ◌++◌, length, slice_get, All, Contains, Some}
use Rattle.dg_base.specs.declared.Lit.{Lit}
use Rattle.cnf_problem.specs.declared.problem.Lemma.{Lemma}
use Rattle.cnf_problem.specs.declared.problem.Problem.{Problem}
use Rattle.cnf_problem.specs.Literals.{IsOver}
use Rattle.cnf_problem.specs.Laws.{IsWithin}
use Rattle.cnf_problem.specs.Chains.{IsNew, ReachesConflict}
use Rattle.cnf_problem.specs.Problems.{Follows}
use Rattle.search_core.specs.declared.Entry.{Entry}
use Rattle.clause_exchange.specs.declared.rule.RowView.{RowView}
use Rattle.clause_exchange.specs.declared.rule.Part.{Part}
use Rattle.clause_exchange.specs.declared.rule.View.{View}
use Rattle.clause_exchange.specs.Spelling.{spelled}
use Rattle.clause_exchange.specs.Seats.{IsWhole}
use Rattle.clause_exchange.specs.Steps.{mine}
use Rattle.clause_exchange.specs.Calls.{IsAllRead, IsNumbered}
use Rattle.worker_log.specs.Newness.{knows, WereNew}
use Rattle.worker_log.specs.Logs.{LogView, IsBooked}

-- the log and the seat's view agree, each entry was new, and what was read of each row ends with an entry
pub record IsLogging (w : LogView) (v : View) : Type 0 where
  pub booked : IsBooked w v
  pub numbered : IsNumbered v.workers (mine v)
  pub whole : (j : ℕ) (r : RowView) → slice_get (mine v).rows j ≡ Some r → IsWhole r
  pub new : WereNew v.problem (mine v)

-- each of the first n rows but the own one was looked at when the log had so many entries, and all that was seen there is read
abbrev pub HasHeeded : Part → ℕ → ℕ → Type 0
HasHeeded part since n = (j : ℕ) (r : RowView) → j < n → slice_get part.rows j ≡ Some r → IsAllRead r × (j ≢ part.number → r.log_then ≡ since)

-- each row was
abbrev pub IsHeeding : Part → ℕ → Type 0
IsHeeding part since = HasHeeded part since (length part.rows)

-- the number may append the lemma: all rows were heeded within the last 1024 entries, and the log has room; the lemma follows from what the number knows, and is new or empty
pub record MayNote (v : View) (lemma : Lemma) : Type 0 where
  pub since : ℕ
  pub heeding : IsHeeding (mine v) since
  pub recent : length (mine v).log < since + 1024
  pub room : length (mine v).log < 1000001
  pub follows : Follows v.problem (knows (mine v)) lemma
  pub new : lemma.lits ≢ [] → IsNew (v.problem.clauses ++ knows (mine v)) lemma.lits

-- the lemma stands behind the log; beside the log only what is shared is another
pub record Notes (lemma : Lemma) (before after : Part) : Type 0 where
  pub entry : Entry
  pub log : after.log ≡ before.log ++ entry ∷ []
  pub lemma_is : entry.lemma ≡ lemma
  pub number : after.number ≡ before.number
  pub rows : after.rows ≡ before.rows
  pub seen : after.seen ≡ before.seen
  pub offers : after.offers ≡ before.offers
  pub loads : after.loads ≡ before.loads

-- only the rows are others
pub record OnlyReads (before after : Part) : Type 0 where
  pub number : after.number ≡ before.number
  pub log : after.log ≡ before.log
  pub shared : after.shared ≡ before.shared
  pub seen : after.seen ≡ before.seen
  pub offers : after.offers ≡ before.offers
  pub loads : after.loads ≡ before.loads

-- of the rows only this one is another
pub record OnlyRow (row : ℕ) (before after : Part) : Type 0 where
  pub only : OnlyReads before after
  pub others : (j : ℕ) → j ≢ row → slice_get after.rows j ≡ slice_get before.rows j

-- how many words that were seen of a row are not read
abbrev pub unread : RowView → ℕ
unread r = length (spelled r.known) - r.loaded

-- these clauses, over so many variables, came to what is known
pub record AreHeard (vars : ℕ) (heard before after : List (List Lit)) : Type 0 where
  pub over : All (All (IsOver vars)) heard
  pub kept : IsWithin before after
  pub added : IsWithin heard after
  pub only : (clause : List Lit) → Contains after clause → Contains before clause ⊎ Contains heard clause

-- the number used up a budget: its log has as many entries, none empty, each new when it was appended; all rows were heeded since; and what it knows makes no clause false
pub record HasSpent (p : Problem) (budget : ℕ) (part : Part) : Type 0 where
  pub full : length part.log ≡ budget
  pub nonempty : All (λ (e : Entry). e.lemma.lits ≢ []) part.log
  pub new : WereNew p part
  pub heeding : IsHeeding part (length part.log)
  pub no_conflict : ¬ ReachesConflict (p.clauses ++ knows part) []
