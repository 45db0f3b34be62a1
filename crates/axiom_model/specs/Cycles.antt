-- Closed lists of edges.
use Rattle.std.specs.Prelude.{List, [], ◌∷◌}

-- a leads to the first of the list by an edge, each to the next, and the last to b
abbrev pub Chain : {E : Type 0} → (E → E → Type 0) → E → List E → E → Type 0
Chain R a [] b = R a b
Chain R a (x ∷ xs) b = R a x × Chain R x xs b

-- each leads to the next by an edge, and the last to the first
abbrev pub Cycle : {E : Type 0} → (E → E → Type 0) → List E → Type 0
Cycle R [] = ⊥
Cycle R (x ∷ xs) = Chain R x xs x

-- no list is a cycle
abbrev pub NoCycle : {E : Type 0} → (E → E → Type 0) → Type 0
NoCycle {E} R = (l : List E) → Cycle R l → ⊥
