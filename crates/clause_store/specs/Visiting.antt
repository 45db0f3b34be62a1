use Rattle.std.specs.Prelude.{Option, Some, None, ⊤, ◌≡◌, ◌≢◌, ℕ, ◌<◌, ◌≤◌, ◌/◌, slice_get, Bool, true, false, List, [], ◌∷◌, ◌++◌, length, slice_index, Contains}
use Rattle.dg_base.specs.declared.Lit.{Lit}
use Rattle.cnf_problem.specs.Literals.{negated}
use Rattle.cnf_problem.specs.Chains.{IsFalse, AllFalse, OthersFalse, IsUnassigned}
use Rattle.trail_state.specs.Trails.{Assigned, Forced, true_lits, level, up_to}
use Rattle.trail_state.specs.Forcing.{IsConflict}
use Rattle.clause_store.specs.NewWatch.{AreOver}
use Rattle.clause_store.specs.Linked.{IsLinked, end_of_list}
use Rattle.clause_store.specs.Watching.{GuardsHere, IsLink, IsTrueForEver, Watches, clause_of, watched, twin}

-- no literal of the trail is there with its negation
abbrev pub IsFree : List Assigned → Type 0
IsFree entries = (l : Lit) → Contains (true_lits entries) l → ¬ Contains (true_lits entries) (negated l)

-- the literal was made true on the last level, and is the last one taken
pub record IsAt (entries : List Assigned) (taken : ℕ) (p : Lit) : Type 0 where
  pub free : IsFree entries
  pub there : Contains (true_lits entries) p
  pub late : (n : ℕ) → n < level entries → ¬ Contains (true_lits (up_to n entries)) p
  pub within : taken ≤ length entries
  pub real : (negated p).0 ≢ 0

-- where a link lies that watches a literal: it is one of the links, its clause one of the clauses, and its twin watches another literal of that clause
pub record IsPlaced (clauses : List (List Lit)) (vars : ℕ) (next heads owner_of : List ℕ) (k : ℕ) : Type 0 where
  pub within : k < length next
  pub own : k < length owner_of
  pub long : length owner_of ≡ length next
  pub half : k / 2 < length clauses
  pub twin_own : twin k < length owner_of
  pub small : k < 4294967294
  pub listed : Contains (clause_of clauses k) (watched owner_of k)
  pub twin_listed : Contains (clause_of clauses k) (watched owner_of (twin k))
  pub over : AreOver vars (clause_of clauses k)
  pub named : slice_get clauses (k / 2) ≡ Some (clause_of clauses k)
  pub owner : slice_index owner_of k < length heads

-- the visit of the clauses that watch a literal which became false, with so many links left at most
pub record IsVisiting (clauses : List (List Lit)) (entries : List Assigned) (taken : ℕ) (p : Lit) (next heads owner_of : List ℕ) (at left : ℕ) (stopped : Bool) : Type 0 where
  pub out : List ℕ
  pub lists : List (List ℕ)
  pub linked : IsLinked next heads owner_of at out lists
  pub few : length out ≤ left
  pub mine : (k : ℕ) → Contains out k → watched owner_of k ≡ negated p
  pub each : (k : ℕ) → k < length owner_of → Watches owner_of k → IsLink clauses entries owner_of k
  pub short : (k : ℕ) → k < length owner_of → slice_index owner_of k ≡ 0 → IsTrueForEver entries (clause_of clauses k)
  pub here : stopped ≡ false → (k : ℕ) → k < length owner_of → Watches owner_of k → ¬ Contains out k → GuardsHere entries taken (watched owner_of k) (watched owner_of (twin k))

-- what was done at a link: the trail after it, the literal that it watches now, and whether its clause is false
pub data IsDone (clause : List Lit) (entries : List Assigned) (id : ℕ) (here other : Lit) : List Assigned → Lit → Bool → Type 0 where
  satisfied : Contains (true_lits entries) other → IsDone clause entries id here other entries here false
  moved : (l : Lit) → Contains clause l → l ≢ other → ¬ IsFalse (true_lits entries) l → IsDone clause entries id here other entries l false
  forced : OthersFalse (true_lits entries) clause other → IsUnassigned (true_lits entries) other → IsDone clause entries id here other (entries ++ Forced other id ∷ []) here false
  refuted : AllFalse (true_lits entries) clause → IsDone clause entries id here other entries here true

-- each link guards its literal on the lower levels, and here if it isn't the one that became false last
pub record IsOwing (clauses : List (List Lit)) (entries : List Assigned) (taken : ℕ) (p : Lit) (next heads owner_of : List ℕ) : Type 0 where
  pub lists : List (List ℕ)
  pub linked : IsLinked next heads owner_of end_of_list [] lists
  pub each : (k : ℕ) → k < length owner_of → Watches owner_of k → IsLink clauses entries owner_of k
  pub short : (k : ℕ) → k < length owner_of → slice_index owner_of k ≡ 0 → IsTrueForEver entries (clause_of clauses k)
  pub here : (k : ℕ) → k < length owner_of → Watches owner_of k → watched owner_of k ≢ negated p → GuardsHere entries taken (watched owner_of k) (watched owner_of (twin k))

-- the clause that was named is false
abbrev pub IsRefuted : List (List Lit) → List Assigned → Option ℕ → Type 0
IsRefuted clauses entries None = ⊤
IsRefuted clauses entries (Some id) = IsConflict clauses id (true_lits entries)

-- what a look at a whole clause did: it was done for the literal that the clause's first link watches, or, where it watches none, for some literal of the clause
pub record IsLookedAt (clause : List Lit) (entries : List Assigned) (id : ℕ) (watch : Lit) (after : List Assigned) (refuted : Bool) : Type 0 where
  pub other : Lit
  pub to : Lit
  pub done : IsDone clause entries id other other after to refuted
  pub listed : refuted ≡ false → Contains clause other
  pub watching : watch.0 ≢ 0 → other ≡ watch
