-- Refuting a clause by unit propagation: what a trail shows.
use Rattle.std.specs.Prelude.{◌≡◌, ◌⊎◌, ℕ, List, [], ◌∷◌, ◌++◌, map, take, Contains, Option, Some, None, slice_get, All}
use Rattle.std.specs.List.Sorted.{IsStrictlyIncreasing}
use Rattle.dg_base.specs.declared.Lit.{Lit}
use Rattle.cnf_problem.specs.declared.problem.Problem.{Problem}
use Rattle.cnf_problem.specs.Literals.{IsOver, negated, var}
use Rattle.cnf_problem.specs.Chains.{IsFixpoint, ReachesConflict}
use Rattle.trail_state.specs.Forcing.{AreForced, Forces, IsConflict}
use Rattle.trail_state.specs.Trails.{Assigned, Decided, Forced, TrailView, level, lit_of, true_lits}
use Rattle.clause_store.specs.Stores.{IsSettled, IsUndone, IsWatching, StoreView, clauses_of}
use Rattle.unit_refuter.specs.declared.refuter.Denied.{Denied}
use Rattle.unit_refuter.specs.declared.refuter.Denied.TheVariants.{Satisfied, Conflict, Rest}

-- a refuter as contracts see it: the clauses that were added, what follows from them and the problem's, and a clause that is false by them alone, where one was found
pub record RefuterView : Type 0 where
  pub store : StoreView
  pub trail : TrailView
  pub conflict : Option ℕ

-- the refuter knows these clauses behind the problem's, and assumes nothing. Once a clause is false by those that it has, further ones are not looked at
pub record IsReady (p : Problem) (clauses : List (List Lit)) (r : RefuterView) : Type 0 where
  pub ground : level r.trail.entries ≡ 0
  pub forced : AreForced (clauses_of p r.store) r.trail.entries
  pub further : List (List Lit)
  pub known : clauses ≡ r.store.added ++ further
  pub live : r.conflict ≡ None → (further ≡ []) × IsWatching p r.store r.trail
  pub closed : (id : ℕ) → r.conflict ≡ Some id → IsConflict (clauses_of p r.store) id (true_lits r.trail.entries)

-- all that follows from the clauses alone is on the trail
pub record IsSettledToo (p : Problem) (clauses : List (List Lit)) (r : RefuterView) : Type 0 where
  pub ready : IsReady p clauses r
  pub settled : r.conflict ≡ None → IsSettled p r.store r.trail
  pub fixpoint : r.conflict ≡ None → IsFixpoint (p.clauses ++ clauses) (true_lits r.trail.entries)

-- once what it assumes is undone, the refuter is ready
abbrev pub IsRaised : Problem → List (List Lit) → RefuterView → Type 0
IsRaised p clauses r = (u : TrailView) → IsUndone 0 r.trail u → IsReady p clauses (record r { trail = u })

-- a trail of level 0 on which negations of these literals are made true: the first begins a level
pub data Denies (lits : List Lit) (ground : List Assigned) : List Assigned → Type 0 where
  nothing : Denies lits ground ground
  first : (m : Lit) → Contains lits m → level ground ≡ 0 → Denies lits ground (ground ++ Decided (negated m) ∷ [])
  next : {entries : List Assigned} (m : Lit) → Contains lits m → level entries ≡ 1 → Denies lits ground entries → Denies lits ground (entries ++ Forced (negated m) 0 ∷ [])

-- each literal of the trail is the negation of one of these, or is forced by those before it
abbrev pub AreDerived : List (List Lit) → List Lit → List Assigned → Type 0
AreDerived clauses lits entries =
    (i : ℕ) (a : Assigned) → slice_get entries i ≡ Some a → Contains lits (negated (lit_of a)) ⊎ ((id : ℕ) × (a ≡ Forced (lit_of a) id) × Forces clauses id (true_lits (take i entries)) (lit_of a))

-- where unit propagation came to rest: the negations of the literals are true, and under these no clause is false or unit
pub record IsRest (clauses : List (List Lit)) (lits reached : List Lit) : Type 0 where
  pub negations : (l : Lit) → Contains lits l → Contains reached (negated l)
  pub fixpoint : IsFixpoint clauses reached

-- what an answer says of a clause that was denied: from the negations of its literals a unit chain makes a clause false, or propagation came to rest at the trail
abbrev pub HasOutcome : Problem → List (List Lit) → List Lit → RefuterView → Denied → Type 0
HasOutcome p clauses lits r Satisfied = ((l : Lit) × Contains lits l × Contains (true_lits r.trail.entries) l) × ReachesConflict (p.clauses ++ clauses) (map negated lits)
HasOutcome p clauses lits r (Conflict id) = IsConflict (clauses_of p r.store) id.0 (true_lits r.trail.entries) × ReachesConflict (p.clauses ++ clauses) (map negated lits)
HasOutcome p clauses lits r Rest = IsRest (p.clauses ++ clauses) lits (true_lits r.trail.entries)

-- a clause that can be denied: each variable is the problem's, and stands once
pub record CanBeRefuted (p : Problem) (lits : List Lit) : Type 0 where
  pub over : All (IsOver p.vars) lits
  pub rising : IsStrictlyIncreasing (map var lits)
