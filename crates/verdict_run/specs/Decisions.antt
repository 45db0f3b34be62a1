-- What each answer of a search says.
use Rattle.std.specs.Prelude.{◌≡◌, ◌≢◌, ℕ, ◌+◌, ◌<◌, List, [], map, length, slice_get, Some, None}
use Rattle.cnf_problem.specs.declared.problem.Problem.{Problem}
use Rattle.cnf_problem.specs.Problems.{IsConsistent, FollowInTurn}
use Rattle.lemma_log.specs.declared.Entry.{Entry}
use Rattle.search_core.specs.declared.Entry as Kept
use Rattle.search_core.specs.Core.{State, worker, IsReached}
use Rattle.search_core.specs.CoreLaws.{IsEntry}
use Rattle.search_core.specs.Spent.{IsSpent}
use Rattle.verdict_run.specs.declared.decision.Report.{Report}
use Rattle.verdict_run.specs.declared.decision.Decision.{Decision}
use Rattle.verdict_run.specs.declared.decision.Decision.TheVariants.{Safe, Unsafe, Unknown}

-- each entry in turn follows from the problem and those before it
abbrev pub IsGood : Problem → List Entry → Type 0
IsGood p log = FollowInTurn p [] (map (λ (e : Entry). e.lemma) log)

-- the log ends at its first empty clause
pub record EndsEmpty (log : List Entry) : Type 0 where
  pub last : ℕ
  pub length_is : length log ≡ last + 1
  pub empty : (e : Entry) → slice_get log last ≡ Some e → e.lemma.lits ≡ []
  pub first : (k : ℕ) (e : Entry) → k < last → slice_get log k ≡ Some e → e.lemma.lits ≢ []

-- the workers that appended are among so many
abbrev pub AreOf : ℕ → List Entry → Type 0
AreOf workers log = (k : ℕ) (e : Entry) → slice_get log k ≡ Some e → e.worker < workers

-- the entry of worker i with the ticket and the lemma of this one
pub record IsOf (i : ℕ) (kept : Kept.Entry) (e : Entry) : Type 0 where
  pub ticket : e.ticket ≡ kept.ticket
  pub worker : e.worker ≡ i
  pub kind : e.lemma.kind ≡ kept.lemma.kind
  pub lits : e.lemma.lits ≡ kept.lemma.lits

-- the log has the entries of all logs of the state, each at its ticket, and no others
pub record IsLogOfState (s : State) (log : List Entry) : Type 0 where
  pub all : length log ≡ s.next
  pub each : (i k : ℕ) (kept : Kept.Entry) → IsEntry s i k kept → (e : Entry) × (slice_get log kept.ticket ≡ Some e) × IsOf i kept e

-- the report is of worker i of the state: how many entries it has, and how many it may read of each other's
pub record IsReport (s : State) (i : ℕ) (r : Report) : Type 0 where
  pub worker_is : r.worker ≡ i
  pub entries : r.entries ≡ length (worker s i).log
  pub reads : r.reads ≡ (worker s i).may_read

-- some events lead to a state of the core in which no verdict stands and every worker has used up its budget; the log is of that state, and so is the report of each worker
pub record IsUnknown (p : Problem) (workers budget : ℕ) (log : List Entry) (reports : List Report) : Type 0 where
  pub state : State
  pub reached : IsReached p workers state
  pub undecided : state.verdict ≡ None
  pub spent : (i : ℕ) → i < workers → IsSpent p state budget i
  pub log_is : IsLogOfState state log
  pub count : length reports ≡ workers
  pub each : (i : ℕ) (r : Report) → slice_get reports i ≡ Some r → IsReport state i r

-- a good log of these workers that ends at its first empty clause; or a consistent assignment; or a good log of workers that are all spent
abbrev pub IsDecision : Problem → ℕ → ℕ → Decision → Type 0
IsDecision p workers budget (Safe log) = IsGood p log.entries × EndsEmpty log.entries × AreOf workers log.entries
IsDecision p workers budget (Unsafe assignment) = IsConsistent p assignment
IsDecision p workers budget (Unknown log reports) = IsGood p log.entries × IsUnknown p workers budget log.entries reports × AreOf workers log.entries
