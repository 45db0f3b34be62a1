-- What the parts of an order keep: links between edges, the visits of a search, and places.
use Rattle.std.specs.Prelude.{◌≡◌, ℕ, ◌+◌, ◌-◌, ◌<◌, ◌≤◌, ◌==◌, Bool, true, false, not, List, ◌++◌, length, count_by, sum_by, take, drop, filter, slice_get, slice_index, slice_index_or, slice_range, Option, Some}
use Rattle.cycle_detect.specs.Orders.{OrderView, Held, IsKept}
use Rattle.cycle_detect.specs.declared.search.Visit.{Visit}

-- edges as contracts see them: the number of nodes, how many edges there may be, and the edges, the oldest first
pub record EdgesView : Type 0 where
  pub nodes : ℕ
  pub limit : ℕ
  pub list : List (ℕ × ℕ)

-- the link names the last of the first so many edges that enters a node, where there is one
pub record IsLastInto (edges : List (ℕ × ℕ)) (node below : ℕ) (link : Option ℕ) : Type 0 where
  pub found : (k : ℕ) → link ≡ Some k → (k < below) × ((x : ℕ) × (slice_get edges k ≡ Some (x, node)))
  pub last : (j x : ℕ) → j < below → slice_get edges j ≡ Some (x, node) → (k : ℕ) × (link ≡ Some k) × (j ≤ k)

-- each edge is linked to the one before it that enters the same node, and each node to the last edge that enters it
pub record AreLinked (nodes : ℕ) (edges : List (ℕ × ℕ)) (older newest : List (Option ℕ)) : Type 0 where
  pub within : (k x y : ℕ) → slice_get edges k ≡ Some (x, y) → (x < nodes) × (y < nodes)
  pub older_long : length older ≡ length edges
  pub newest_long : length newest ≡ nodes
  pub older_last : (k x y : ℕ) (l : Option ℕ) → slice_get edges k ≡ Some (x, y) → slice_get older k ≡ Some l → IsLastInto edges y k l
  pub newest_last : (n : ℕ) (l : Option ℕ) → slice_get newest n ≡ Some l → IsLastInto edges n (length edges) l

-- whether a node was reached
abbrev pub is_seen : List Bool → ℕ → Bool
is_seen seen n = slice_index_or seen n false

-- whether an edge enters a node
abbrev pub enters : ℕ → (ℕ × ℕ) → Bool
enters n e = e.1 == n

-- the visits of a search backward from a node: it comes first, each other one leads by a held edge to one that was visited before it, their places lie from `low` to that of the first, and exactly they are seen, each once
pub record AreVisits (edges : List (ℕ × ℕ)) (places : List ℕ) (low from : ℕ) (visits : List Visit) (seen : List Bool) : Type 0 where
  pub some : 0 < length visits
  pub root : (v : Visit) → slice_get visits 0 ≡ Some v → v.node ≡ from
  pub tree : (i : ℕ) (v : Visit) → 0 < i → slice_get visits i ≡ Some v → (w : Visit) × (v.next < i) × (slice_get visits v.next ≡ Some w) × Held edges v.node w.node
  pub within : (i : ℕ) (v : Visit) → slice_get visits i ≡ Some v → (v.node < length seen) × (low ≤ slice_index places v.node) × (slice_index places v.node ≤ slice_index places from)
  pub marked : (i : ℕ) (v : Visit) → slice_get visits i ≡ Some v → is_seen seen v.node ≡ true
  pub listed : (n : ℕ) → is_seen seen n ≡ true → (i : ℕ) × ((v : Visit) × (slice_get visits i ≡ Some v) × (v.node ≡ n))
  pub once : (i j : ℕ) (v w : Visit) → slice_get visits i ≡ Some v → slice_get visits j ≡ Some w → v.node ≡ w.node → i ≡ j
  pub count : count_by (λ b. b) seen ≡ length visits

-- the node at a place of the visits
abbrev pub IsVisitOf : List Visit → ℕ → ℕ → Type 0
IsVisitOf visits at n = (v : Visit) × (slice_get visits at ≡ Some v) × (v.node ≡ n)

-- each edge into a node comes from a node that is seen, or from a place below `low`
abbrev pub IsClosedAt : List (ℕ × ℕ) → List ℕ → ℕ → List Bool → ℕ → Type 0
IsClosedAt edges places low seen y = (x : ℕ) → Held edges x y → low ≤ slice_index places x → is_seen seen x ≡ true

-- how many edges enter visited nodes, all together
abbrev pub looked : List (ℕ × ℕ) → List Visit → ℕ
looked edges visits = sum_by (λ v. count_by (enters v.node) edges) visits

-- nodes along visits, from one to where the search began: each is that of a visit which leads to the next; none is there twice
pub record IsTrace (visits : List Visit) (start at : ℕ) (nodes : List ℕ) : Type 0 where
  pub some : 0 < length nodes
  pub first : (v : Visit) → slice_get visits start ≡ Some v → slice_get nodes 0 ≡ Some v.node
  pub last : (v : Visit) → slice_get visits at ≡ Some v → slice_get nodes (length nodes - 1) ≡ Some v.node
  pub leads : (i x y : ℕ) → slice_get nodes i ≡ Some x → slice_get nodes (i + 1) ≡ Some y → (k : ℕ) × ((v w : Visit) × (0 < k) × (slice_get visits k ≡ Some v) × (slice_get visits v.next ≡ Some w) × (v.node ≡ x) × (w.node ≡ y))
  pub from : (i x : ℕ) → slice_get nodes i ≡ Some x → (k : ℕ) × ((v : Visit) × (at ≤ k) × (slice_get visits k ≡ Some v) × (v.node ≡ x))
  pub once : (i j x : ℕ) → slice_get nodes i ≡ Some x → slice_get nodes j ≡ Some x → i ≡ j
  pub short : length nodes + at ≤ start + 1

-- the items that are seen, and behind them the others, each group as it stood
abbrev pub parted : List Bool → List ℕ → List ℕ
parted seen nodes = filter (is_seen seen) nodes ++ filter (λ n. not (is_seen seen n)) nodes

-- the order in which the nodes at these places are parted
abbrev pub moved : List Bool → ℕ → ℕ → List ℕ → List ℕ
moved seen low high order = take low order ++ (parted seen (slice_range order low (high + 1)) ++ drop (high + 1) order)

-- the places tell where each item of the order stands, once
pub record ArePlaces (order places : List ℕ) : Type 0 where
  pub long : length places ≡ length order
  pub range : (k : ℕ) → k < length order → slice_index order k < length order
  pub forth : (k : ℕ) → k < length order → slice_index places (slice_index order k) ≡ k

-- an order's parts fit each other: what is held and the kept order, the places, and no node is seen between calls
pub record AreParts (o : OrderView) (places : List ℕ) (seen : List Bool) : Type 0 where
  pub kept : IsKept o
  pub placed : ArePlaces o.order places
  pub unseen : (n : ℕ) → is_seen seen n ≡ false
  pub seen_long : length seen ≡ o.nodes
  pub small : o.nodes ≤ 4294967295
