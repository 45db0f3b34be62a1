-- What holds between any two steps of a search.
use Rattle.std.specs.Prelude.{◌≡◌, ◌≢◌, ◌⊎◌, ℕ, ◌-◌, ◌<◌, ◌≤◌, List, [], ◌++◌, length, take, slice_get, All, Contains, Some}
use Rattle.dg_base.specs.declared.Lit.{Lit}
use Rattle.cnf_problem.specs.declared.problem.Problem.{Problem}
use Rattle.cnf_problem.specs.Literals.{var, IsOver}
use Rattle.cnf_problem.specs.Laws.{IsWithin}
use Rattle.search_core.specs.declared.Entry.{Entry}
use Rattle.lemma_log.specs.declared.Entry as Logged
use Rattle.cnf_problem.specs.Chains.{IsFixpoint, ReachesConflict}
use Rattle.trail_state.specs.Trails.{Assigned, true_lits, level, level_of, IsAssigned}
use Rattle.trail_state.specs.Forcing.{AreForced, FixpointBelow, IsConflict}
use Rattle.conflict_learn.specs.Learning.{IsLearnt}
use Rattle.clause_store.specs.Stores.{IsWatching, WatchesBelow, clauses_of}
use Rattle.order_solver.specs.declared.solver.Step.TheVariants as Step
use Rattle.order_solver.specs.Ordering.{IsOrdering, IsStep, IsAcyclic}
use Rattle.clause_exchange.specs.declared.rule.Part.{Part}
use Rattle.clause_exchange.specs.declared.rule.View.{View}
use Rattle.clause_exchange.specs.Steps.{mine}
use Rattle.worker_log.specs.Newness.{knows}
use Rattle.worker_log.specs.Logs.{empty_log, IsUnused}
use Rattle.worker_log.specs.Keeping.{IsLogging, IsHeeding}
use Rattle.cdcl_worker.specs.declared.search.Found.{Found}
use Rattle.cdcl_worker.specs.declared.search.Found.TheVariants.{Refuted, Clause, Conflict, Implied, Model}
use Rattle.cdcl_worker.specs.Outcomes.{WorkerView}

-- the clauses that the store added are what the number knows, no more and no less; each literal that has a reason is forced by it; the solver of orders has a beginning of the trail; and the literals to decide are the problem's
pub record IsThinking (p : Problem) (w : WorkerView) (part : Part) : Type 0 where
  pub vars : w.trail.vars ≡ p.vars
  pub forced : AreForced (clauses_of p w.store) w.trail.entries
  pub holds : IsWithin (knows part) w.store.added
  pub only : IsWithin w.store.added (knows part)
  pub ordering : IsOrdering p w.order
  pub asserted : w.order.asserted ≡ take (length w.order.asserted) (true_lits w.trail.entries)
  pub choice : All (IsOver p.vars) w.choice

-- two different literals of the clause were assigned at this level
pub record HasTwoAt (entries : List Assigned) (clause : List Lit) (n : ℕ) : Type 0 where
  pub first : Lit
  pub second : Lit
  pub apart : first ≢ second
  pub first_listed : Contains clause first
  pub second_listed : Contains clause second
  pub first_level : level_of (var first) entries ≡ n
  pub second_level : level_of (var second) entries ≡ n

-- the literals are those of the last entry
abbrev pub IsLast : List Logged.Entry → List Lit → Type 0
IsLast entries lits = (e : Logged.Entry) × (slice_get entries (length entries - 1) ≡ Some e) × (lits ≡ e.lemma.lits)

-- a search with a budget of lemmas, whatever the watches: the log agrees with the seat's view; all rows were heeded when the log was so long; no lemma is empty; nothing was offered
pub record IsUnderWay (p : Problem) (budget : ℕ) (w : WorkerView) (v : View) : Type 0 where
  pub logging : IsLogging w.log v
  pub problem : v.problem ≡ p
  pub heeding : IsHeeding (mine v) w.since
  pub within : length (mine v).log ≤ budget
  pub few : budget ≤ 1000000
  pub nonempty : All (λ (e : Entry). e.lemma.lits ≢ []) (mine v).log
  pub silent : (mine v).offers ≡ []
  pub thinking : IsThinking p w (mine v)

-- the watches fit the trail
pub record IsSearching (p : Problem) (budget : ℕ) (w : WorkerView) (v : View) : Type 0 where
  pub going : IsUnderWay p budget w v
  pub watching : IsWatching p w.store w.trail

-- a clause of the store is false: the watches fit once the trail is undone, and each lower level is a fixpoint
pub record IsAtConflict (p : Problem) (budget : ℕ) (w : WorkerView) (v : View) : Type 0 where
  pub going : IsUnderWay p budget w v
  pub below : WatchesBelow p w.store w.trail
  pub fixpoint : FixpointBelow (clauses_of p w.store) w.trail.entries

-- what was learnt from a conflict that is known may be noted, and kept at a lower level
pub record MayLearn (p : Problem) (budget : ℕ) (w : WorkerView) (v : View) (conflict lits : List Lit) (back : ℕ) : Type 0 where
  pub going : IsUnderWay p budget w v
  pub below : WatchesBelow p w.store w.trail
  pub fixpoint : FixpointBelow (clauses_of p w.store) w.trail.entries
  pub room : length (mine v).log < budget
  pub known : Contains (clauses_of p w.store) conflict
  pub learnt : IsLearnt (clauses_of p w.store) w.trail.entries conflict lits back

-- a search that may look at the others: it goes on, or begins with a seat that is not used yet
pub record MayRestart (p : Problem) (budget : ℕ) (w : WorkerView) (v : View) : Type 0 where
  pub logging : IsLogging w.log v ⊎ IsUnused w.log v
  pub problem : v.problem ≡ p
  pub within : length (mine v).log ≤ budget
  pub few : budget ≤ 1000000
  pub nonempty : All (λ (e : Entry). e.lemma.lits ≢ []) (mine v).log
  pub silent : (mine v).offers ≡ []
  pub thinking : IsThinking p w (mine v)
  pub watching : IsWatching p w.store w.trail

-- what each return leaves: the log and the view agree, of the same number, which loaded the verdict no fewer times
pub record IsLeft (before : Part) (w : WorkerView) (v : View) : Type 0 where
  pub logging : IsLogging w.log v
  pub number : (mine v).number ≡ before.number
  pub loads : before.loads ≤ (mine v).loads

-- and where no verdict was offered
pub record IsSilent (before : Part) (w : WorkerView) (v : View) : Type 0 where
  pub left : IsLeft before w v
  pub offers : (mine v).offers ≡ []

-- the search has come on: its log is as it was, the watches fit the trail, and what is known goes on to hold
pub record HasCome (p : Problem) (before after : WorkerView) : Type 0 where
  pub log : after.log ≡ before.log
  pub since : after.since ≡ before.since
  pub watching : IsWatching p after.store after.trail
  pub thinking : (part : Part) → IsThinking p before part → IsThinking p after part

-- where the search has come to, by what it found: the empty clause follows from what is known; a clause is false, above level 0; a cycle clause that is false, or unit, at a fixpoint; or a model
abbrev pub HasFound : Problem → ℕ → WorkerView → View → Found → Type 0
HasFound p budget w v Refuted = ReachesConflict (p.clauses ++ knows (mine v)) []
HasFound p budget w v (Clause id) = IsAtConflict p budget w v × (0 < level w.trail.entries) × IsConflict (clauses_of p w.store) id.0 (true_lits w.trail.entries)
HasFound p budget w v (Conflict clause) = IsSearching p budget w v × IsFixpoint (clauses_of p w.store) (true_lits w.trail.entries) × IsStep p (true_lits w.trail.entries) (Step.Conflict clause)
HasFound p budget w v (Implied clause) = IsSearching p budget w v × IsFixpoint (clauses_of p w.store) (true_lits w.trail.entries) × IsStep p (true_lits w.trail.entries) (Step.Implied clause)
HasFound p budget w v Model =
    IsSearching p budget w v × IsFixpoint (clauses_of p w.store) (true_lits w.trail.entries) × IsAcyclic p (true_lits w.trail.entries) × ((n : ℕ) → 1 ≤ n → n ≤ p.vars → IsAssigned w.trail.entries n)

-- a worker that was made for the problem, as a number among so many, and has not yet worked
pub record IsFresh (p : Problem) (number workers : ℕ) (w : WorkerView) : Type 0 where
  pub trail : w.trail ≡ record { vars = p.vars; entries = []; taken = 0 }
  pub watching : IsWatching p w.store w.trail
  pub added : w.store.added ≡ []
  pub ordering : IsOrdering p w.order
  pub asserted : w.order.asserted ≡ []
  pub choice : All (IsOver p.vars) w.choice
  pub log : w.log ≡ empty_log number workers
