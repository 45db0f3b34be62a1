use Rattle.std.specs.Prelude.{◌≡◌, ◌≢◌, ℕ, ◌+◌, ◌-◌, ◌*◌, ◌/◌, ◌%◌, ◌==◌, if◌then◌else◌, ◌<◌, ◌≤◌, List, [], length, take, slice_index, slice_index_or, Contains}
use Rattle.dg_base.specs.declared.Lit.{Lit}
use Rattle.cnf_problem.specs.Literals.{negated, IsOver}
use Rattle.trail_state.specs.Trails.{Assigned, true_lits, level, up_to}
use Rattle.clause_store.specs.Linked.{end_of_list}

-- on each lower level, where the first literal is false the other one is true
abbrev pub GuardsBelow : List Assigned → Lit → Lit → Type 0
GuardsBelow entries watched other = (n : ℕ) → n < level entries → Contains (true_lits (up_to n entries)) (negated watched) → Contains (true_lits (up_to n entries)) other

-- where the first literal is false among those taken, the other one is true
abbrev pub GuardsHere : List Assigned → ℕ → Lit → Lit → Type 0
GuardsHere entries taken watched other = Contains (take taken (true_lits entries)) (negated watched) → Contains (true_lits entries) other

-- the literals of the lower levels were all taken
abbrev pub LowerTaken : List Assigned → ℕ → Type 0
LowerTaken entries taken = (n : ℕ) → n < level entries → length (up_to n entries) ≤ taken

-- clause c has the links 2 c and 2 c + 1, one for each of its watched literals
unfoldable pub twin : ℕ → ℕ
twin k = if k % 2 == 0 then k + 1 else k - 1

-- the clause of a link
abbrev pub clause_of : List (List Lit) → ℕ → List Lit
clause_of clauses k = slice_index_or clauses (k / 2) []

-- the literal that a link watches
abbrev pub watched : List ℕ → ℕ → Lit
watched owner_of k = record { 0 = slice_index owner_of k }

-- the link watches a literal. Those of a clause without two different literals do not: their owner is 0, the code of no literal
abbrev pub Watches : List ℕ → ℕ → Type 0
Watches owner_of k = slice_index owner_of k ≢ 0

-- a link watches a literal of its clause, another one than its twin does, and guards it on the lower levels
pub record IsLink (clauses : List (List Lit)) (entries : List Assigned) (owner_of : List ℕ) (k : ℕ) : Type 0 where
  pub listed : Contains (clause_of clauses k) (watched owner_of k)
  pub apart : watched owner_of k ≢ watched owner_of (twin k)
  pub paired : Watches owner_of (twin k)
  pub below : GuardsBelow entries (watched owner_of k) (watched owner_of (twin k))

-- the clause is true on level 0, and so for ever
abbrev pub IsTrueForEver : List Assigned → List Lit → Type 0
IsTrueForEver entries clause = (l : Lit) × Contains clause l × Contains (true_lits (up_to 0 entries)) l

-- the links and the heads are enough for the clauses
pub record IsRoomy (clauses : List (List Lit)) (vars : ℕ) (next heads : List ℕ) : Type 0 where
  pub links : length next ≡ 2 * length clauses
  pub small : length next ≤ end_of_list
  pub codes : length heads ≡ 2 * vars + 2
  pub range : (k : ℕ) (l : Lit) → Contains (clause_of clauses k) l → IsOver vars l
