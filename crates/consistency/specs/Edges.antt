-- The lists of edges that the code makes.
use Rattle.std.specs.Prelude.{ℕ, ◌+◌, List, [], ◌∷◌, ◌++◌, Bool, true, false, ◌&&◌, cond, Option, Some, None, slice_get, nat_eq}
use Rattle.axiom_model.specs.declared.Event.{Event}
use Rattle.axiom_model.specs.declared.Event.TheVariants.{Initial, At}
use Rattle.axiom_model.specs.declared.RfPair.{RfPair}
use Rattle.axiom_model.specs.Execution.{cell_of}
use Rattle.consistency.specs.declared.numbering.Node.{Node}
use Rattle.consistency.specs.declared.relations.Relation.{Relation}
use Rattle.consistency.specs.declared.relations.Relation.TheVariants.{Cell, Kept, Section, Across}
use Rattle.consistency.specs.declared.relations.Condition.{Condition}
use Rattle.consistency.specs.declared.relations.Condition.TheVariants.{Local, Global}
use Rattle.consistency.specs.declared.links.Link.{Link}
use Rattle.consistency.specs.Numbering.{is_event, place_of}
use Rattle.consistency.specs.Relations.{reaches_out, links, stops, sees}

-- the element, where the test holds
abbrev pub one : {X : Type 0} → Bool → X → List X
one b x = cond b (x ∷ []) []

-- the edges from node v, which has the number i, to nodes of a list whose first has the number n
abbrev pub row : Relation → ℕ → Node → ℕ → List Node → List (ℕ × ℕ)
row r i v n [] = []
row r i v n (w ∷ ws) = one (links r v w) (i, n) ++ cond (stops r v w) [] (row r i v (n + 1) ws)

-- the edges from each node of the list to nodes behind it
abbrev pub forward_edges : Relation → ℕ → List Node → List (ℕ × ℕ)
forward_edges r n [] = []
forward_edges r n (v ∷ vs) = row r n v (n + 1) vs ++ forward_edges r (n + 1) vs

-- the edges from each node of the list that may have some to nodes of all threads
abbrev pub cross_edges : List Node → ℕ → List Node → List (ℕ × ℕ)
cross_edges all n [] = []
cross_edges all n (v ∷ vs) = cond (reaches_out v.action) (row Across n v 0 all) [] ++ cross_edges all (n + 1) vs

-- the edges that the nodes alone tell
abbrev pub node_edges : Condition → List Node → List (ℕ × ℕ)
node_edges Local nodes = forward_edges Cell 0 nodes
node_edges (Global m) nodes = forward_edges (Kept m) 0 nodes ++ (forward_edges Section 0 nodes ++ cross_edges nodes 0 nodes)

abbrev pub link : Event → Event → Link
link a b = record { source = a; target = b }

-- from sources to reads
abbrev pub source_links : Condition → List RfPair → List Link
source_links c [] = []
source_links c (p ∷ ps) = one (sees c p) (link p.source p.reader) ++ source_links c ps

-- from each event to the next
abbrev pub follow_links : Event → List Event → List Link
follow_links e [] = []
follow_links e (f ∷ fs) = link e f ∷ follow_links f fs

abbrev pub order_links : List Event → List Link
order_links [] = []
order_links (e ∷ es) = follow_links e es

-- the same in each cell's order
abbrev pub co_links : List (List Event) → List Link
co_links [] = []
co_links (l ∷ ls) = order_links l ++ co_links ls

abbrev pub same_event : Event → Event → Bool
same_event (At h i) (At k j) = nat_eq h k && nat_eq i j
same_event Initial Initial = true
same_event _ _ = false

-- the event right behind another in a list
abbrev pub next_behind : List Event → Event → Option Event
next_behind [] s = None
next_behind (e ∷ es) s = cond (same_event e s) (slice_get es 0) (next_behind es s)

abbrev pub next_of : Option (List Event) → Event → Option Event
next_of None s = None
next_of (Some l) s = next_behind l s

-- the event right behind another in a cell's order
abbrev pub next_in : List (List Event) → Option ℕ → Event → Option Event
next_in co None s = None
next_in co (Some c) s = next_of (slice_get co c) s

-- the cell of an event's action
abbrev pub cell_in : List Node → Event → Option ℕ
cell_in [] e = None
cell_in (v ∷ vs) e = cond (is_event v e) (cell_of v.action) (cell_in vs e)

abbrev pub link_to : Event → Option Event → List Link
link_to e None = []
link_to e (Some f) = link e f ∷ []

-- from reads to the writes right behind their sources
abbrev pub later_links : List Node → List (List Event) → List RfPair → List Link
later_links nodes co [] = []
later_links nodes co (p ∷ ps) = link_to p.reader (next_in co (cell_in nodes p.reader) p.source) ++ later_links nodes co ps

abbrev pub between : Option ℕ → Option ℕ → List (ℕ × ℕ)
between (Some a) (Some b) = (a, b) ∷ []
between _ _ = []

-- the links between events that have numbers
abbrev pub numbered_links : List Node → List Link → List (ℕ × ℕ)
numbered_links nodes [] = []
numbered_links nodes (l ∷ ls) = between (place_of nodes l.source) (place_of nodes l.target) ++ numbered_links nodes ls

abbrev pub links_of : Condition → List Node → List RfPair → List (List Event) → List Link
links_of c nodes rf co = source_links c rf ++ (co_links co ++ later_links nodes co rf)

abbrev pub edges_of : Condition → List Node → List RfPair → List (List Event) → List (ℕ × ℕ)
edges_of c nodes rf co = node_edges c nodes ++ numbered_links nodes (links_of c nodes rf co)
