use Rattle.std.specs.Prelude.{◌≡◌, ◌≢◌, ◌⊎◌, ℕ, ◌*◌, ◌/◌, ◌<◌, ◌≤◌, List, [], ◌++◌, length, min, slice_index, Contains}
use Rattle.dg_base.specs.declared.Lit.{Lit}
use Rattle.cnf_problem.specs.declared.problem.Problem.{Problem}
use Rattle.cnf_problem.specs.Chains.{IsFalse, OthersFalse}
use Rattle.trail_state.specs.Trails.{Assigned, TrailView, true_lits, level, up_to}
use Rattle.clause_store.specs.Linked.{IsLinked, LinksView, end_of_list}
use Rattle.clause_store.specs.Watching.{GuardsHere, IsLink, IsRoomy, IsTrueForEver, LowerTaken, Watches, clause_of, watched, twin}

-- a store as contracts see it: the clauses that were added, the watch lists, and how many clauses propagation has looked at whole
pub record StoreView : Type 0 where
  pub added : List (List Lit)
  pub links : LinksView
  pub examined : ℕ

-- all clauses: the problem's, and behind them those that were added
abbrev pub clauses_of : Problem → StoreView → List (List Lit)
clauses_of p s = p.clauses ++ s.added

-- any two literals of the clause are the same
abbrev pub IsShort : List Lit → Type 0
IsShort clause = (a b : Lit) → Contains clause a → Contains clause b → a ≡ b

-- a link whose clause was looked at whole guards its literal; without one the clause is true for ever
pub record IsExamined (clauses : List (List Lit)) (t : TrailView) (owner_of : List ℕ) (k : ℕ) : Type 0 where
  pub here : Watches owner_of k → GuardsHere t.entries t.taken (watched owner_of k) (watched owner_of (twin k))
  pub short : slice_index owner_of k ≡ 0 → IsTrueForEver t.entries (clause_of clauses k)

-- a link whose clause was not yet looked at guards its literal, or the clause is unit or false; without one it is short, and the level is 0
pub record IsFresh (clauses : List (List Lit)) (t : TrailView) (owner_of : List ℕ) (k : ℕ) : Type 0 where
  pub here : Watches owner_of k → GuardsHere t.entries t.taken (watched owner_of k) (watched owner_of (twin k)) ⊎ OthersFalse (true_lits t.entries) (clause_of clauses k) (watched owner_of (2 * (k / 2)))
  pub short : slice_index owner_of k ≡ 0 → (level t.entries ≡ 0) × IsShort (clause_of clauses k)

-- the watch lists fit these clauses and the trail, where so many clauses were looked at whole
pub record AreWatched (clauses : List (List Lit)) (vars : ℕ) (l : LinksView) (examined : ℕ) (t : TrailView) : Type 0 where
  pub same_vars : t.vars ≡ vars
  pub room : IsRoomy clauses vars l.next l.heads
  pub lists : List (List ℕ)
  pub linked : IsLinked l.next l.heads l.owner_of end_of_list [] lists
  pub within : examined ≤ length clauses
  pub lower : LowerTaken t.entries t.taken
  pub each : (k : ℕ) → k < length l.owner_of → Watches l.owner_of k → IsLink clauses t.entries l.owner_of k
  pub known : (k : ℕ) → k < length l.owner_of → k / 2 < examined → IsExamined clauses t l.owner_of k
  pub fresh : (k : ℕ) → k < length l.owner_of → examined ≤ k / 2 → IsFresh clauses t l.owner_of k

-- the store's watches of the problem's clauses and of those that were added fit the trail
abbrev pub IsWatching : Problem → StoreView → TrailView → Type 0
IsWatching p s t = AreWatched (clauses_of p s) p.vars s.links s.examined t

-- each clause was looked at since it came, and each literal of the trail was taken
pub record IsSettled (p : Problem) (s : StoreView) (t : TrailView) : Type 0 where
  pub examined : s.examined ≡ length (clauses_of p s)
  pub taken : t.taken ≡ length t.entries

-- the trail was undone to this level
pub record IsUndone (n : ℕ) (before after : TrailView) : Type 0 where
  pub entries : after.entries ≡ up_to n before.entries
  pub taken : after.taken ≡ min before.taken (length after.entries)
  pub vars : after.vars ≡ before.vars

-- the watches fit the trail once it is undone to any lower level
abbrev pub WatchesBelow : Problem → StoreView → TrailView → Type 0
WatchesBelow p s t = (n : ℕ) (u : TrailView) → n < level t.entries → IsUndone n t u → IsWatching p s u

-- the literal is false on no lower level
abbrev pub IsNotFalseBelow : List Assigned → Lit → Type 0
IsNotFalseBelow entries l = (n : ℕ) → n < level entries → ¬ IsFalse (true_lits (up_to n entries)) l

-- the clause has two different literals that are false on no lower level
pub record CanBeWatched (entries : List Assigned) (clause : List Lit) : Type 0 where
  pub first : Lit
  pub second : Lit
  pub apart : first ≢ second
  pub first_listed : Contains clause first
  pub second_listed : Contains clause second
  pub first_below : IsNotFalseBelow entries first
  pub second_below : IsNotFalseBelow entries second
