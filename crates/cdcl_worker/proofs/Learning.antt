-- When a search may learn from a clause.
use Rattle.std.proofs.Common.{◌≡◌, ℕ, ◌-◌, ◌<◌, ◌≤◌, true, List, [], ◌∷◌, length, refl, ap, sym, ◌∙◌, subst, arith, Some, slice_get}
use Rattle.std.specs.Prelude.{Contains, ◌==◌}
use Rattle.std.proofs.lemmas.Bool.Decides.{nat_tests}
use Rattle.dg_base.proofs.Lists.{one_answer, contains_place}
use Rattle.dg_base.specs.declared.Lit.{Lit}
use Rattle.lemma_log.specs.declared.Entry as Logged
use Rattle.cnf_problem.specs.declared.problem.Problem.{Problem}
use Rattle.cnf_problem.specs.Chains.{AllFalse}
use Rattle.trail_state.specs.Trails.{TrailView, true_lits, level, IsWell}
use Rattle.trail_state.specs.Forcing.{FixpointBelow, IsConflict}
use Rattle.clause_store.specs.Stores.{StoreView, IsWatching, WatchesBelow, clauses_of}
use Rattle.clause_store.proofs.TrailLaws.{undone, fixpoint_below}
use Rattle.conflict_learn.specs.Learning.{IsLearnt}
use Rattle.clause_exchange.specs.declared.rule.View.{View}
use Rattle.clause_exchange.specs.Steps.{mine}
use Rattle.cdcl_worker.specs.Outcomes.{WorkerView}
use Rattle.cdcl_worker.specs.Searching.{IsLast, IsUnderWay, IsSearching, IsAtConflict, MayLearn}

-- the last entry has one list of literals
pub last_same : (entries : List Logged.Entry) (xs ys : List Lit) → IsLast entries xs → IsLast entries ys → xs ≡ ys
last_same entries xs ys a b = a.2 ∙ ap (λ (e : Logged.Entry). e.lemma.lits) (one_answer (slice_get entries (length entries - 1)) a.0 b.0 a.1 b.1) ∙ sym b.2

-- the clause that a number names is the one that is false
pub conflict_is : (clauses : List (List Lit)) (id : ℕ) (lits clause : List Lit) → IsConflict clauses id lits → slice_get clauses id ≡ Some clause → Contains clauses clause × AllFalse lits clause
conflict_is clauses id lits clause conflict named = (
  contains_place clauses id clause named,
  subst (λ c. AllFalse lits c) (one_answer (slice_get clauses id) conflict.clause clause conflict.named named) conflict.conflict,
)

-- where the watches fit a trail they fit below
pub watches_below : (p : Problem) (s : StoreView) (t : TrailView) → IsWatching p s t → IsWell t → WatchesBelow p s t
watches_below p s t watching well = λ n u lt un. undone (clauses_of p s) p.vars s.links s.examined t u n watching well.taken un

-- so a search is at a conflict with each clause that is false
pub at_conflict : (p : Problem) (budget : ℕ) (w : WorkerView) (v : View) → IsWell w.trail → IsSearching p budget w v → IsAtConflict p budget w v
at_conflict p budget w v well s = record {
  going = s.going;
  below = watches_below p w.store w.trail s.watching well;
  fixpoint = fixpoint_below (clauses_of p w.store) p.vars w.store.links w.store.examined w.trail s.watching well;
}

pub may_learn : (p : Problem) (budget : ℕ) (w : WorkerView) (v : View) (clause lits : List Lit) (back : ℕ) → length (mine v).log < budget → Contains (clauses_of p w.store) clause → IsLearnt (clauses_of p w.store) w.trail.entries clause lits back → IsAtConflict p budget w v
    → MayLearn p budget w v clause lits back
may_learn p budget w v clause lits back room listed learnt at = record {
  going = at.going;
  below = at.below;
  fixpoint = at.fixpoint;
  room = room;
  known = listed;
  learnt = learnt;
}

-- a list without elements
pub empty_by : (xs : List Lit) → true ≡ (length xs == 0) → xs ≡ []
empty_by [] e = refl
empty_by (x ∷ xs) e = absurd (grind (arith, nat_tests))
