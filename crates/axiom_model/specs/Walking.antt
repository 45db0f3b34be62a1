-- A walk back along edges, depth first: how far it has come.
use Rattle.std.specs.Prelude.{◌≡◌, ℕ, ◌+◌, ◌<◌, ◌≤◌, suc, List, Some, length, slice_get, sum_by}
use Rattle.axiom_model.specs.declared.walk.Mark.{Mark}
use Rattle.axiom_model.specs.declared.walk.Mark.TheVariants.{New, Open, Closed}
use Rattle.axiom_model.specs.declared.walk.Walk.{Walk}
use Rattle.axiom_model.specs.Sorting.{HasEdge, NoRepeats}

-- p is one more than the place of an edge into v, or 0
abbrev pub LeadsInto : List (ℕ × ℕ) → ℕ → ℕ → Type 0
LeadsInto edges v p = (q : ℕ) → p ≡ suc q → (u : ℕ) × (slice_get edges q ≡ Some (u, v))

-- p is one more than the last place below n of an edge into v, or 0 where there is none
pub record IsLast (edges : List (ℕ × ℕ)) (v n p : ℕ) : Type 0 where
  pub within : p ≤ n
  pub there : LeadsInto edges v p
  pub none : (k u : ℕ) → p ≤ k → k < n → slice_get edges k ≡ Some (u, v) → ⊥

-- the links: each edge's is the last edge before it with its target
abbrev pub AreLinks : List (ℕ × ℕ) → List ℕ → Type 0
AreLinks edges earlier = (k u v p : ℕ) → slice_get edges k ≡ Some (u, v) → slice_get earlier k ≡ Some p → IsLast edges v k p

-- each node of the path has an edge to the one before it
abbrev pub IsPath : List (ℕ × ℕ) → List ℕ → Type 0
IsPath edges path = (i a b : ℕ) → slice_get path i ≡ Some a → slice_get path (suc i) ≡ Some b → HasEdge edges b a

-- the node is the last of the path
abbrev pub IsTop : List ℕ → ℕ → Type 0
IsTop path v = (i : ℕ) × (length path ≡ suc i) × (slice_get path i ≡ Some v)

-- where the walk stands: the nodes of the path are open and those of the order closed; an edge into a node of the order comes from an earlier node of it; the edges into a node that were passed come from closed nodes
pub record IsWalk (edges : List (ℕ × ℕ)) (w : Walk) : Type 0 where
  pub earlier_len : length w.earlier ≡ length edges
  pub left_len : length w.left ≡ length w.marks
  pub links : AreLinks edges w.earlier
  pub left : (v p : ℕ) → slice_get w.left v ≡ Some p → LeadsInto edges v p
  pub passed : (k u v p : ℕ) → slice_get edges k ≡ Some (u, v) → slice_get w.left v ≡ Some p → p ≤ k → slice_get w.marks u ≡ Some Closed
  pub path_open : (i v : ℕ) → slice_get w.path i ≡ Some v → slice_get w.marks v ≡ Some Open
  pub open_path : (v : ℕ) → slice_get w.marks v ≡ Some Open → (i : ℕ) × (slice_get w.path i ≡ Some v)
  pub order_closed : (i v : ℕ) → slice_get w.order i ≡ Some v → slice_get w.marks v ≡ Some Closed
  pub closed_order : (v : ℕ) → slice_get w.marks v ≡ Some Closed → (i : ℕ) × (slice_get w.order i ≡ Some v)
  pub path_once : NoRepeats w.path
  pub order_once : NoRepeats w.order
  pub path : IsPath edges w.path
  pub forward : (k u v j : ℕ) → slice_get edges k ≡ Some (u, v) → slice_get w.order j ≡ Some v → (i : ℕ) × (i < j) × (slice_get w.order i ≡ Some u)

-- how often a node is still to be marked
abbrev pub turns : Mark → ℕ
turns New = 2
turns Open = 1
turns Closed = 0

-- what is left to do
abbrev pub work : Walk → ℕ
work w = sum_by (λ p. p) w.left + sum_by turns w.marks

-- the same nodes, of which no further one is new
pub record Onward (old new : Walk) : Type 0 where
  pub same_len : length new.marks ≡ length old.marks
  pub new_before : (v : ℕ) → slice_get new.marks v ≡ Some New → slice_get old.marks v ≡ Some New

-- the path turns back: its last node has an edge from this node of it
pub record TurnsBack (edges : List (ℕ × ℕ)) (path : List ℕ) (source : ℕ) : Type 0 where
  pub steps : IsPath edges path
  pub once : NoRepeats path
  pub place : ℕ
  pub there : slice_get path place ≡ Some source
  pub back : (v : ℕ) → IsTop path v → HasEdge edges source v
