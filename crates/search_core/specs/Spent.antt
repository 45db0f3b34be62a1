use Rattle.std.specs.Prelude.{◌≡◌, ◌≢◌, ℕ, ◌<◌, [], ◌++◌, length, take, slice_index, slice_index_or, slice_get, Some, All}
use Rattle.cnf_problem.specs.declared.problem.Problem.{Problem}
use Rattle.cnf_problem.specs.Chains.{IsNew, ReachesConflict}
use Rattle.search_core.specs.declared.Entry.{Entry}
use Rattle.search_core.specs.Core.{State, worker, readable, known, lits_of}

-- worker i has used up a budget: it appended as many lemmas, none empty, each new over those before it and those that it might read; it has read all others since; and what it knows makes no clause false
pub record IsSpent (p : Problem) (s : State) (budget i : ℕ) : Type 0 where
  pub full : length (worker s i).log ≡ budget
  pub nonempty : All (λ (e : Entry). e.lemma.lits ≢ []) (worker s i).log
  pub new : (k : ℕ) (d : Entry) → k < length (worker s i).log
      → IsNew (p.clauses ++ lits_of (take k (worker s i).log ++ readable (slice_index_or (worker s i).log k d).seen s.workers)) (slice_index_or (worker s i).log k d).lemma.lits
  pub looked : (j : ℕ) → j < length s.workers → j ≢ i → slice_index (worker s i).looked j ≡ length (worker s i).log
  pub no_conflict : ¬ ReachesConflict (p.clauses ++ lits_of (known s i)) []

-- no two lemmas of a spent worker have the same literals
abbrev pub SpentLemmasDiffer : Type 0
SpentLemmasDiffer =
    (p : Problem) (s : State) (budget i k m : ℕ) (d e : Entry) → IsSpent p s budget i → k < m → m < length (worker s i).log
    → slice_get (worker s i).log k ≡ Some d → slice_get (worker s i).log m ≡ Some e → d.lemma.lits ≢ e.lemma.lits
