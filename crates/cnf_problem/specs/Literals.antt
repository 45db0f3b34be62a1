use Rattle.std.specs.Prelude.{◌≡◌, ℕ, ◌≤◌, ◌+◌, ◌-◌, ◌*◌, ◌/◌, ◌%◌, Bool, true, false, not, ◌==◌, if◌then◌else◌, List, slice_get, slice_index_or, Contains, Some}
use Rattle.dg_base.specs.declared.Lit.{Lit}

-- the variable of a literal
abbrev pub var : Lit → ℕ
var l = l.0 / 2

-- whether the literal is its variable, and not the negation
abbrev pub is_positive : Lit → Bool
is_positive l = l.0 % 2 == 0

-- the literal that is this variable
abbrev pub positive : ℕ → Lit
positive v = record { 0 = 2 * v }

-- the literal is of one of the first so many variables
abbrev pub IsOver : ℕ → Lit → Type 0
IsOver vars l = (1 ≤ var l) × (var l ≤ vars)

-- the literal of the same variable with the other sign
unfoldable pub negated : Lit → Lit
negated l = record { 0 = if is_positive l then l.0 + 1 else l.0 - 1 }

-- a literal's truth value under an assignment, which has one truth value per variable, that of variable 1 first
unfoldable pub value : List Bool → Lit → Bool
value assignment l =
    if is_positive l then slice_index_or assignment (var l - 1) false else not (slice_index_or assignment (var l - 1) false)

-- some literal of the clause is true under the assignment
abbrev pub IsSatisfied : List Bool → List Lit → Type 0
IsSatisfied assignment clause = (l : Lit) × Contains clause l × (value assignment l ≡ true)

-- each clause is true under the assignment
abbrev pub AreSatisfied : List Bool → List (List Lit) → Type 0
AreSatisfied assignment clauses = (clause : List Lit) → Contains clauses clause → IsSatisfied assignment clause

-- each of these literals is true under the assignment
abbrev pub AllTrue : List Bool → List Lit → Type 0
AllTrue assignment lits = (l : Lit) → Contains lits l → value assignment l ≡ true

-- no variable stands twice in the clause
abbrev pub IsWithoutRepeats : List Lit → Type 0
IsWithoutRepeats clause =
    (i j : ℕ) (a b : Lit) → slice_get clause i ≡ Some a → slice_get clause j ≡ Some b → var a ≡ var b → i ≡ j
