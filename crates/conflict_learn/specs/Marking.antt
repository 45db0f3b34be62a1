-- A resolvent of the conflict and of reasons, each literal of which is false, kept as marks on variables.
use Rattle.std.specs.Prelude.{◌≡◌, ℕ, suc, ◌<◌, ◌≤◌, ◌^◌, ◌⊎◌, ◌==◌, Bool, true, false, ◌&&◌, List, ◌∷◌, ◌++◌, length, filter, Contains, slice_get, slice_index_or, Some}
use Rattle.dg_base.specs.declared.Lit.{Lit}
use Rattle.cnf_problem.specs.Literals.{var, negated, IsWithoutRepeats}
use Rattle.cnf_problem.specs.Chains.{ReachesConflict}
use Rattle.trail_state.specs.Trails.{TrailView, Assigned, true_lits, level, level_of, up_to}
use Rattle.trail_state.specs.Forcing.{reasons}

-- the literal's variable is marked
abbrev pub is_marked : List Bool → Lit → Bool
is_marked marks l = slice_index_or marks (var l) false

-- the true literals of marked variables, which are the negations of the resolvent's
abbrev pub marked_lits : List Bool → List Assigned → List Lit
marked_lits marks entries = filter (is_marked marks) (true_lits entries)

-- the literal is marked, and of the last level
abbrev pub is_last : List Bool → List Assigned → Lit → Bool
is_last marks entries l = is_marked marks l && (level_of (var l) entries == level entries)

-- how many true literals are marked and of the last level
abbrev pub last_count : List Bool → List Assigned → ℕ
last_count marks entries = length (filter (is_last marks entries) (true_lits entries))

-- there is a mark for each variable, none on a variable of level 0, and so many on variables of the last level
pub record AreMarks (t : TrailView) (marks : List Bool) (count : ℕ) : Type 0 where
  pub sized : length marks ≡ suc t.vars
  pub above : (l : Lit) → is_marked marks l ≡ true → 0 < level_of (var l) t.entries
  pub counted : count ≡ last_count marks t.entries
  pub few : length t.entries < 2 ^ 32

-- the marks stay, those of the clause's literals above level 0 are there with them, and no others
pub record AddsMarks (entries : List Assigned) (before after : List Bool) (clause : List Lit) : Type 0 where
  pub stay : (l : Lit) → is_marked before l ≡ true → is_marked after l ≡ true
  pub all : (l : Lit) → Contains clause l → (is_marked after l ≡ true) ⊎ (level_of (var l) entries ≡ 0)
  pub only : (l : Lit) → is_marked after l ≡ true → (is_marked before l ≡ true) ⊎ ((m : Lit) × Contains clause m × (var m ≡ var l))

-- the resolvent follows from a conflict and the reasons, where the literals of level 0 are true
abbrev pub MarksFollow : List (List Lit) → List Assigned → List Lit → List Bool → Type 0
MarksFollow clauses entries conflict marks = ReachesConflict (conflict ∷ reasons clauses entries) (marked_lits marks entries ++ true_lits (up_to 0 entries))

-- where the resolvent before follows, so does the one after
abbrev pub StillFollow : List (List Lit) → List Assigned → List Bool → List Bool → Type 0
StillFollow clauses entries before after = (conflict : List Lit) → MarksFollow clauses entries conflict before → MarksFollow clauses entries conflict after

-- the marked literals of the last level stand below this place
abbrev pub LastBelow : List Assigned → List Bool → ℕ → Type 0
LastBelow entries marks n = (k : ℕ) (l : Lit) → slice_get (true_lits entries) k ≡ Some l → is_last marks entries l ≡ true → k < n

-- the negations of the marked literals, and the greatest of their levels but the last one, or 0
pub record IsCollected (entries : List Assigned) (marks : List Bool) (lits : List Lit) (back : ℕ) : Type 0 where
  pub marked : (l : Lit) → Contains lits l → Contains (true_lits entries) (negated l) × (is_marked marks l ≡ true)
  pub all : (l : Lit) → Contains (true_lits entries) l → is_marked marks l ≡ true → Contains lits (negated l)
  pub lower : back < level entries
  pub bound : (l : Lit) → Contains lits l → (level_of (var l) entries ≤ back) ⊎ (level_of (var l) entries ≡ level entries)
  pub reached : (back ≡ 0) ⊎ ((l : Lit) × Contains lits l × (level_of (var l) entries ≡ back))
  pub no_repeats : IsWithoutRepeats lits
