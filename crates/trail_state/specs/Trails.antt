use Rattle.std.specs.Prelude.{◌≡◌, ℕ, zero, suc, ◌≤◌, Bool, true, false, ◌==◌, if◌then◌else◌, List, [], ◌∷◌, map, length, Contains, Option, Some, None, slice_get}
use Rattle.dg_base.specs.declared.Lit.{Lit}
use Rattle.cnf_problem.specs.Literals.{var, negated, IsOver}
use Rattle.cnf_problem.specs.Chains.{IsUnassigned}

-- what made a literal of the trail true: a decision, or the clause with this number
pub data Assigned : Type 0 where
  Decided : Lit → Assigned
  Forced : Lit → ℕ → Assigned

-- a trail over so many variables: what was made true, the oldest first, and how many of these were taken for propagation
pub record TrailView : Type 0 where
  pub vars : ℕ
  pub entries : List Assigned
  pub taken : ℕ

-- the literal that was made true
abbrev pub lit_of : Assigned → Lit
lit_of (Decided l) = l
lit_of (Forced l id) = l

-- the number of the clause that forced it; a decision has none
abbrev pub reason : Assigned → Option ℕ
reason (Decided l) = None
reason (Forced l id) = Some id

-- the literals that are true
abbrev pub true_lits : List Assigned → List Lit
true_lits entries = map lit_of entries

-- the level is the number of decisions
abbrev pub level : List Assigned → ℕ
level [] = 0
level (Decided l ∷ entries) = suc (level entries)
level (Forced l id ∷ entries) = level entries

-- the entries of the levels up to this one
abbrev pub up_to : ℕ → List Assigned → List Assigned
up_to n [] = []
up_to n (Forced l id ∷ entries) = Forced l id ∷ up_to n entries
up_to zero (Decided l ∷ entries) = []
up_to (suc n) (Decided l ∷ entries) = Decided l ∷ up_to n entries

-- the level at which a variable was assigned: how many decisions stand up to and with it
abbrev pub level_of : ℕ → List Assigned → ℕ
level_of v [] = 0
level_of v (Decided l ∷ entries) = suc (if var l == v then 0 else level_of v entries)
level_of v (Forced l id ∷ entries) = if var l == v then 0 else level_of v entries

-- the reason with which a variable was assigned
abbrev pub reason_of : ℕ → List Assigned → Option ℕ
reason_of v [] = None
reason_of v (a ∷ entries) = if var (lit_of a) == v then reason a else reason_of v entries

-- the trail has the variable
abbrev pub IsAssigned : List Assigned → ℕ → Type 0
IsAssigned entries v = (l : Lit) × Contains (true_lits entries) l × (var l ≡ v)

-- each variable is assigned once at most, and each is one of the trail's, so there are no more entries than variables
pub record IsWell (t : TrailView) : Type 0 where
  pub range : (l : Lit) → Contains (true_lits t.entries) l → IsOver t.vars l
  pub once : (i j : ℕ) (a b : Lit) → slice_get (true_lits t.entries) i ≡ Some a → slice_get (true_lits t.entries) j ≡ Some b → var a ≡ var b → i ≡ j
  pub few : length t.entries ≤ t.vars
  pub taken : t.taken ≤ length t.entries

-- the truth value of a literal on a trail, if it has one
abbrev pub HasValue : List Lit → Lit → Option Bool → Type 0
HasValue lits l None = IsUnassigned lits l
HasValue lits l (Some true) = Contains lits l × ¬ Contains lits (negated l)
HasValue lits l (Some false) = Contains lits (negated l) × ¬ Contains lits l
