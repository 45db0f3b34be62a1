use Rattle.std.specs.Prelude.{◌≡◌, ℕ, ◌<◌, ◌⊎◌, List, ◌∷◌, map, Contains}
use Rattle.dg_base.specs.declared.Lit.{Lit}
use Rattle.cnf_problem.specs.Literals.{var, negated, IsWithoutRepeats}
use Rattle.cnf_problem.specs.Chains.{AllFalse, OthersFalse, IsUnassigned, ReachesConflict}
use Rattle.trail_state.specs.Trails.{Assigned, true_lits, level, level_of, up_to}
use Rattle.trail_state.specs.Forcing.{reasons}

-- up to this level one literal of the clause is unassigned, and the others are false
abbrev pub IsAsserting : List Assigned → List Lit → ℕ → Type 0
IsAsserting entries clause k =
    (l : Lit) × Contains clause l × IsUnassigned (true_lits (up_to k entries)) l × OthersFalse (true_lits (up_to k entries)) clause l

-- the clause follows by a unit chain from the conflict and the reasons, is false, and asserts a literal at `back`, the least level at which it does; none of its literals is of level 0, one is of the level `back` if that isn't 0, and no variable stands twice
pub record IsLearnt (clauses : List (List Lit)) (entries : List Assigned) (conflict lits : List Lit) (back : ℕ) : Type 0 where
  pub follows : ReachesConflict (conflict ∷ reasons clauses entries) (map negated lits)
  pub refuted : AllFalse (true_lits entries) lits
  pub lower : back < level entries
  pub asserts : IsAsserting entries lits back
  pub least : (k : ℕ) → k < back → ¬ IsAsserting entries lits k
  pub above_ground : (l : Lit) → Contains lits l → 0 < level_of (var l) entries
  pub reached : (back ≡ 0) ⊎ ((l : Lit) × Contains lits l × (level_of (var l) entries ≡ back))
  pub no_repeats : IsWithoutRepeats lits
