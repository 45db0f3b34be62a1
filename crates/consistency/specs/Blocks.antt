-- The edges between blocks, and the edges between events from which they come.
use Rattle.std.specs.Prelude.{◌≡◌, ℕ, ◌<◌, List, [], ◌∷◌, ◌++◌, ◌&&◌, not, cond, Option, Some, None, nat_eq, length, slice_get}
use Rattle.axiom_model.specs.declared.Event.{Event}
use Rattle.consistency.specs.declared.numbering.Node.{Node}
use Rattle.consistency.specs.Numbering.{event_at, block_at}
use Rattle.consistency.specs.Edges.{one}

-- the edges between different blocks
abbrev pub block_edges : List Node → List (ℕ × ℕ) → List (ℕ × ℕ)
block_edges nodes [] = []
block_edges nodes (e ∷ es) =
    one (not (nat_eq (block_at nodes e.0) (block_at nodes e.1))) (block_at nodes e.0, block_at nodes e.1) ++ block_edges nodes es

-- the first edge from one block to another
abbrev pub crossing : List Node → ℕ → ℕ → List (ℕ × ℕ) → Option (ℕ × ℕ)
crossing nodes x y [] = None
crossing nodes x y (e ∷ es) = cond (nat_eq (block_at nodes e.0) x && nat_eq (block_at nodes e.1) y) (Some e) (crossing nodes x y es)

abbrev pub ends_at : List Node → Option (ℕ × ℕ) → List Event
ends_at nodes None = []
ends_at nodes (Some e) = event_at nodes e.0 ∷ event_at nodes e.1 ∷ []

-- the ends of an edge from block x to the first of the list, from each to the next, and from the last to block y
abbrev pub crossings : List Node → List (ℕ × ℕ) → ℕ → List ℕ → ℕ → List Event
crossings nodes edges x [] y = ends_at nodes (crossing nodes x y edges)
crossings nodes edges x (z ∷ zs) y = ends_at nodes (crossing nodes x z edges) ++ crossings nodes edges z zs y

-- the ends of the edges of a cycle of blocks
abbrev pub cycle_ends : List Node → List (ℕ × ℕ) → List ℕ → List Event
cycle_ends nodes edges [] = []
cycle_ends nodes edges (x ∷ xs) = crossings nodes edges x xs x

-- each node's block is the number of a node
abbrev pub BlocksBelow : List Node → Type 0
BlocksBelow nodes = (n : ℕ) (v : Node) → slice_get nodes n ≡ Some v → v.block < length nodes
