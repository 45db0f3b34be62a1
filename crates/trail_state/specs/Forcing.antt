use Rattle.std.specs.Prelude.{◌≡◌, ℕ, ◌<◌, List, [], ◌∷◌, ◌++◌, take, filter_map, option_and_then, slice_get, Contains, Some}
use Rattle.dg_base.specs.declared.Lit.{Lit}
use Rattle.cnf_problem.specs.Chains.{AllFalse, OthersFalse, IsFixpoint}
use Rattle.trail_state.specs.Trails.{Assigned, Forced, reason, true_lits, level, up_to}

-- the clause with this number forces the literal: it has the literal, and its others are false
pub record Forces (clauses : List (List Lit)) (id : ℕ) (lits : List Lit) (l : Lit) : Type 0 where
  pub clause : List Lit
  pub named : slice_get clauses id ≡ Some clause
  pub has : Contains clause l
  pub others_false : OthersFalse lits clause l

-- the reason of each literal that has one forces it, where the literals before it are true
abbrev pub AreForced : List (List Lit) → List Assigned → Type 0
AreForced clauses entries =
    (i id : ℕ) (l : Lit) → slice_get entries i ≡ Some (Forced l id) → Forces clauses id (true_lits (take i entries)) l

-- literals that are added at the end, each with a reason that forces it
pub data AddsForced (clauses : List (List Lit)) : List Assigned → List Assigned → Type 0 where
  none : {entries : List Assigned} → AddsForced clauses entries entries
  one : {entries after : List Assigned} (l : Lit) (id : ℕ) → Forces clauses id (true_lits entries) l → AddsForced clauses (entries ++ Forced l id ∷ []) after → AddsForced clauses entries after

-- at each lower level no clause is false and none is unit
abbrev pub FixpointBelow : List (List Lit) → List Assigned → Type 0
FixpointBelow clauses entries = (k : ℕ) → k < level entries → IsFixpoint clauses (true_lits (up_to k entries))

-- the clause with this number is false
pub record IsConflict (clauses : List (List Lit)) (id : ℕ) (lits : List Lit) : Type 0 where
  pub clause : List Lit
  pub named : slice_get clauses id ≡ Some clause
  pub conflict : AllFalse lits clause

-- the clauses that are reasons on the trail
abbrev pub reasons : List (List Lit) → List Assigned → List (List Lit)
reasons clauses entries = filter_map (λ a. option_and_then (λ id. slice_get clauses id) (reason a)) entries
