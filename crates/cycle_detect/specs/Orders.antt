-- A graph whose edges come and go, and an order of its nodes in which each edge goes forward.
use Rattle.std.specs.Prelude.{◌≡◌, ℕ, ◌+◌, ◌-◌, ◌*◌, ◌<◌, ◌≤◌, ◌==◌, Bool, ◌||◌, List, length, count_by, slice_get, slice_range, Contains, Some}
use Rattle.std.specs.List.{list_any}

-- an order as contracts see it: the number of nodes and how many edges there may be, the edges that are held, the oldest first, the kept order of the nodes, and the nodes of the last cycle that was found
pub record OrderView : Type 0 where
  pub nodes : ℕ
  pub max_edges : ℕ
  pub edges : List (ℕ × ℕ)
  pub order : List ℕ
  pub cycle : List ℕ

-- an edge of the list leads from one node to another
abbrev pub Held : List (ℕ × ℕ) → ℕ → ℕ → Type 0
Held edges x y = Contains edges (x, y)

-- the node's place in the order
abbrev pub IsPlace : List ℕ → ℕ → ℕ → Type 0
IsPlace order n i = slice_get order i ≡ Some n

-- the order has each of the first so many nodes once, and each held edge goes forward in it
pub record IsKept (o : OrderView) : Type 0 where
  pub count : length o.order ≡ o.nodes
  pub range : (i n : ℕ) → IsPlace o.order n i → n < o.nodes
  pub found : (n : ℕ) → n < o.nodes → (i : ℕ) × IsPlace o.order n i
  pub once : (i j n : ℕ) → IsPlace o.order n i → IsPlace o.order n j → i ≡ j
  pub room : length o.edges ≤ o.max_edges
  pub forward : (x y i j : ℕ) → Held o.edges x y → IsPlace o.order x i → IsPlace o.order y j → i < j
  pub within : (x y : ℕ) → Held o.edges x y → (x < o.nodes) × (y < o.nodes)

-- the nodes of a cycle that an edge would close: they begin where the edge ends, each leads to the next by a held edge, and they end where the edge begins; none is there twice
pub record IsClosed (edges : List (ℕ × ℕ)) (source target : ℕ) (cycle : List ℕ) : Type 0 where
  pub some : 0 < length cycle
  pub first : slice_get cycle 0 ≡ Some target
  pub last : slice_get cycle (length cycle - 1) ≡ Some source
  pub leads : (i x y : ℕ) → slice_get cycle i ≡ Some x → slice_get cycle (i + 1) ≡ Some y → Held edges x y
  pub once : (i j x : ℕ) → slice_get cycle i ≡ Some x → slice_get cycle j ≡ Some x → i ≡ j

-- whether a node stands at one of these places
abbrev pub is_among : List ℕ → ℕ → ℕ → ℕ → Bool
is_among order low high n = list_any (λ m. m == n) (slice_range order low (high + 1))

-- whether an edge leaves or enters a node at one of these places
abbrev pub touches : List ℕ → ℕ → ℕ → (ℕ × ℕ) → Bool
touches order low high e = is_among order low high e.0 || is_among order low high e.1

-- the steps that an edge may take which goes back from place `high` to place `low`
abbrev pub steps_back : OrderView → ℕ → ℕ → ℕ
steps_back o low high = 3 * (high - low + 1) + 3 * count_by (touches o.order low high) o.edges + 1
