-- Orders and cycles of graphs that are given as lists of edges between numbers.
use Rattle.std.specs.Prelude.{◌≡◌, ℕ, ◌<◌, ◌≤◌, List, Some, slice_get, slice_index, All}
use Rattle.axiom_model.specs.Cycles.{Cycle}
use Rattle.axiom_model.specs.declared.sorting.Acyclic.{Acyclic}
use Rattle.axiom_model.specs.declared.sorting.Acyclic.TheVariants as is

-- both ends of the edge are below this number
abbrev pub EndsBelow : ℕ → ℕ × ℕ → Type 0
EndsBelow nodes e = (e.0 < nodes) × (e.1 < nodes)

-- there is an edge from a to b
abbrev pub HasEdge : List (ℕ × ℕ) → ℕ → ℕ → Type 0
HasEdge edges a b = (k : ℕ) × (slice_get edges k ≡ Some (a, b))

-- no node stands at two places
abbrev pub NoRepeats : List ℕ → Type 0
NoRepeats l = (i j v : ℕ) → slice_get l i ≡ Some v → slice_get l j ≡ Some v → i ≡ j

-- the list has each number below `nodes` exactly once, and nothing else
pub record IsOrderOf (nodes : ℕ) (order : List ℕ) : Type 0 where
  pub once : NoRepeats order
  pub sound : (i v : ℕ) → slice_get order i ≡ Some v → v < nodes
  pub complete : (v : ℕ) → v < nodes → (i : ℕ) × (slice_get order i ≡ Some v)

-- the edge leads from an earlier place of the order to a later one
abbrev pub GoesForward : List ℕ → ℕ × ℕ → Type 0
GoesForward order e = (i : ℕ) × (j : ℕ) × (i < j) × (slice_get order i ≡ Some e.0) × (slice_get order j ≡ Some e.1)

-- each node leads to the next by an edge, and the last to the first; none is repeated, and the first is the least
pub record IsSimpleCycle (edges : List (ℕ × ℕ)) (l : List ℕ) : Type 0 where
  pub cycle : Cycle (HasEdge edges) l
  pub once : NoRepeats l
  pub least_first : All (λ v. slice_index l 0 ≤ v) l

-- the answer is an order of all nodes in which every edge goes forward, or a cycle
abbrev pub IsAnswer : ℕ → List (ℕ × ℕ) → Acyclic → Type 0
IsAnswer nodes edges (is.Sorted order) = IsOrderOf nodes order × All (GoesForward order) edges
IsAnswer nodes edges (is.Cycle cycle) = IsSimpleCycle edges cycle

-- the answer is an order
abbrev pub IsSorted : Acyclic → Type 0
IsSorted (is.Sorted order) = Unit {0}
IsSorted (is.Cycle cycle) = ⊥
