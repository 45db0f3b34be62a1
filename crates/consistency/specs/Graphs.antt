-- Lists of edges that stand for a relation between events.
use Rattle.std.specs.Prelude.{◌≡◌, ℕ, ◌<◌, ◌⊎◌, List, Some, None, length}
use Rattle.axiom_model.specs.declared.Event.{Event}
use Rattle.axiom_model.specs.Cycles.{Chain}
use Rattle.axiom_model.specs.Sorting.{HasEdge}
use Rattle.consistency.specs.declared.numbering.Node.{Node}
use Rattle.consistency.specs.Numbering.{event_at, place_of}

-- a chain of listed edges leads from a to b
abbrev pub Reaches : List (ℕ × ℕ) → ℕ → ℕ → Type 0
Reaches edges a b = (l : List ℕ) × Chain (HasEdge edges) a l b

-- the events have numbers, and a chain leads from the first to the second; or the first has none
abbrev pub Joined : List Node → List (ℕ × ℕ) → Event → Event → Type 0
Joined nodes edges e f = (b : ℕ) × (place_of nodes f ≡ Some b) × ((place_of nodes e ≡ None) ⊎ ((a : ℕ) × (place_of nodes e ≡ Some a) × Reaches edges a b))

-- each listed edge is a pair of the relation, and each pair of the relation is a chain of listed edges
pub record Lists (nodes : List Node) (R : Event → Event → Type 0) (edges : List (ℕ × ℕ)) : Type 0 where
  pub below : (a b : ℕ) → HasEdge edges a b → (a < length nodes) × (b < length nodes)
  pub sound : (a b : ℕ) → HasEdge edges a b → R (event_at nodes a) (event_at nodes b)
  pub complete : (e f : Event) → R e f → Joined nodes edges e f
