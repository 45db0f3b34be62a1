-- The way back along a trail, from the clause at the end of a chain.
use Rattle.std.specs.Prelude.{◌≡◌, ◌≤◌, ◌⊎◌, ℕ, Bool, true, false, List, take, length, Contains, Some, slice_get, slice_index_or}
use Rattle.dg_base.specs.declared.Lit.{Lit}
use Rattle.cnf_problem.specs.declared.problem.Problem.{Problem}
use Rattle.cnf_problem.specs.Literals.{negated, var}
use Rattle.trail_state.specs.Forcing.{IsConflict}
use Rattle.trail_state.specs.Trails.{Assigned, true_lits}
use Rattle.unit_refuter.specs.declared.refuter.Denied.{Denied}
use Rattle.unit_refuter.specs.declared.refuter.Denied.TheVariants.{Satisfied, Conflict, Rest}
use Rattle.lemma_log.specs.declared.hints.Hint.{Hint}
use Rattle.hint_maker.specs.declared.ends.End.{End}
use Rattle.hint_maker.specs.Lean.{AreLean, IsNeeded}

-- whether the variable is marked
abbrev pub is_marked : List Bool → ℕ → Bool
is_marked marks v = slice_index_or marks v false

abbrev pub NoneIsMarked : List Bool → Type 0
NoneIsMarked marks = (v : ℕ) → is_marked marks v ≡ false

-- the variables of the clause are marked, but for those of the lemma's literals
pub record AddsMarks (lits clause : List Lit) (old new : List Bool) : Type 0 where
  pub sized : length new ≡ length old
  pub kept : (v : ℕ) → is_marked old v ≡ true → is_marked new v ≡ true
  pub each : (m : Lit) → Contains clause m → ¬ Contains lits m → is_marked new (var m) ≡ true
  pub only : (v : ℕ) → is_marked new v ≡ true → (is_marked old v ≡ true) ⊎ ((m : Lit) × Contains clause m × (¬ Contains lits m) × (var m ≡ v))

-- the clause ends a chain: it is false by the first so many literals of the trail, of which none is one of the lemma's, and by the negations of these
pub record IsEnd (clauses : List (List Lit)) (lits : List Lit) (entries : List Assigned) (end : End) : Type 0 where
  pub within : end.before ≤ length entries
  pub clause : List Lit
  pub named : slice_get clauses end.clause.0 ≡ Some clause
  pub apart : (l : Lit) → Contains (true_lits (take end.before entries)) l → ¬ Contains lits l
  pub false : (m : Lit) → Contains clause m → Contains lits m ⊎ Contains (true_lits (take end.before entries)) (negated m)

-- what a denial came to, where the lemma follows
abbrev pub IsRefuted : List (List Lit) → List Lit → List Assigned → Denied → Type 0
IsRefuted clauses lits entries Satisfied = (l : Lit) × Contains lits l × Contains (true_lits entries) l
IsRefuted clauses lits entries (Conflict id) = IsConflict clauses id.0 (true_lits entries)
IsRefuted clauses lits entries Rest = ⊥

-- the first place of the trail at which a literal of the lemma is true
pub record IsFirstTrue (lits : List Lit) (entries : List Assigned) (i : ℕ) : Type 0 where
  pub literal : Lit
  pub there : slice_get (true_lits entries) i ≡ Some literal
  pub listed : Contains lits literal
  pub apart : (l : Lit) → Contains (true_lits (take i entries)) l → ¬ Contains lits l

-- each marked variable is that of one of the first so many literals of the trail, which is no negation of the lemma's
pub record AreMarked (lits : List Lit) (entries : List Assigned) (marks : List Bool) (i : ℕ) : Type 0 where
  pub within : (v : ℕ) → is_marked marks v ≡ true → (l : Lit) × Contains (true_lits (take i entries)) l × (var l ≡ v)
  pub other : (l : Lit) → Contains (true_lits (take i entries)) l → is_marked marks (var l) ≡ true → ¬ Contains lits (negated l)

-- the set has the negations of the lemma's literals and each marked one of the first so many literals of the trail; and beside these negations it has only such
pub record IsBetween (lits : List Lit) (entries : List Assigned) (marks : List Bool) (i : ℕ) (set : List Lit) : Type 0 where
  pub start : (l : Lit) → Contains lits l → Contains set (negated l)
  pub marked : (l : Lit) → Contains (true_lits (take i entries)) l → is_marked marks (var l) ≡ true → Contains set l
  pub only : (l : Lit) → Contains set l → Contains lits (negated l) ⊎ Contains (true_lits (take i entries)) l

-- the hints are right from each such set, and need each marked literal
pub record IsTail (p : Problem) (before : List (List Lit)) (lits : List Lit) (entries : List Assigned) (marks : List Bool) (i : ℕ) (hints : List Hint) : Type 0 where
  pub lean : (set : List Lit) → IsBetween lits entries marks i set → AreLean p before set hints
  pub needed : (l : Lit) → Contains (true_lits (take i entries)) l → is_marked marks (var l) ≡ true → IsNeeded p before hints l
