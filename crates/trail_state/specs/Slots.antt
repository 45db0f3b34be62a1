use Rattle.std.specs.Prelude.{◌≡◌, ℕ, ◌+◌, ◌≤◌, Bool, not, ◌==◌, if◌then◌else◌, List, [], ◌∷◌, length, option_map, Option, Some, None, slice_index_or, Contains}
use Rattle.dg_base.specs.declared.Lit.{Lit}
use Rattle.cnf_problem.specs.Literals.{var, is_positive}
use Rattle.trail_state.specs.declared.entry.Origin.{Origin}
use Rattle.trail_state.specs.Trails.{Assigned, TrailView, lit_of, level, level_of, reason_of, IsWell}

-- the truth value of a variable on a trail, if it has one
abbrev pub value_of : ℕ → List Assigned → Option Bool
value_of v [] = None
value_of v (a ∷ entries) = if var (lit_of a) == v then Some (is_positive (lit_of a)) else value_of v entries

-- a literal's truth value, from that of its variable
abbrev pub signed : Lit → Option Bool → Option Bool
signed l None = None
signed l (Some b) = Some (if is_positive l then b else not b)

-- each variable's slot has its value
pub record AreValues (vars : ℕ) (entries : List Assigned) (values : List (Option Bool)) : Type 0 where
  pub long : length values ≡ vars + 1
  pub each : (v : ℕ) → v ≤ vars → slice_index_or values v None ≡ value_of v entries

-- the slot of each variable that has a value tells its level and its reason
pub record AreOrigins (vars : ℕ) (entries : List Assigned) (origins : List Origin) : Type 0 where
  pub long : length origins ≡ vars + 1
  pub each : (v : ℕ) (b : Bool) (d : Origin) → v ≤ vars → value_of v entries ≡ Some b → ((slice_index_or origins v d).level ≡ level_of v entries) × (option_map (λ r. r.0) (slice_index_or origins v d).reason ≡ reason_of v entries)

-- the free variables are those that have no value: with the entries they are as many as the variables
pub record AreFree (vars : ℕ) (entries : List Assigned) (free : List ℕ) : Type 0 where
  pub range : (v : ℕ) → Contains free v → (1 ≤ v) × (v ≤ vars)
  pub unassigned : (v : ℕ) → Contains free v → value_of v entries ≡ None
  pub all : (v : ℕ) → 1 ≤ v → v ≤ vars → value_of v entries ≡ None → Contains free v
  pub count : length free + length entries ≡ vars

-- a trail's parts fit each other: what is on it, the level, the room for entries, the slots and the free variables
pub record AreParts (t : TrailView) (at room : ℕ) (values : List (Option Bool)) (origins : List Origin) (phases : List Bool) (free : List ℕ) : Type 0 where
  pub well : IsWell t
  pub small : t.vars ≤ 2147483647
  pub at_level : at ≡ level t.entries
  pub enough : t.vars ≤ room
  pub has_values : AreValues t.vars t.entries values
  pub has_origins : AreOrigins t.vars t.entries origins
  pub phases_long : length phases ≡ t.vars + 1
  pub has_free : AreFree t.vars t.entries free
