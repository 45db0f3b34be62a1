-- The atoms of linked events, with their edges, and the edges from creates to starts.
use Rattle.std.specs.Prelude.{◌≡◌, ℕ, ◌+◌, List, [], ◌∷◌, ◌++◌, Bool, true, cond, not, ◌&&◌, nat_eq, slice_index_or, Contains}
use Rattle.dg_base.specs.declared.Lit.{Lit}
use Rattle.axiom_model.specs.declared.MemoryModel.{MemoryModel}
use Rattle.axiom_model.specs.declared.MemoryModel.TheVariants.{Sc, Tso, Pso}
use Rattle.cnf_problem.specs.declared.problem.Graph.TheVariants.{Local}
use Rattle.cnf_problem.specs.declared.problem.Edge.{Edge}
use Rattle.cnf_problem.specs.declared.problem.AtomKind.TheVariants.{ReadFrom, WriteOrder, Plain}
use Rattle.cnf_problem.specs.declared.problem.Atom.{Atom}
use Rattle.cnf_problem.specs.declared.problem.Node.{Node}
use Rattle.cnf_problem.specs.Edges.{global_edge}
use Rattle.memory_models.specs.declared.StaticEvent.{StaticEvent}
use Rattle.memory_models.specs.declared.StaticKind.TheVariants as kind
use Rattle.memory_models.specs.Events.{IsAt}
use Rattle.order_vars.specs.Links.{Link, reading, beginning, rivalry, joining, is_initial}

-- ---- nodes

-- the last place of an event of this block, in events that begin at place n; `found` where there is none
abbrev pub last_in : ℕ → ℕ → ℕ → List StaticEvent → ℕ
last_in b found n [] = found
last_in b found n (e ∷ es) = last_in b (cond (nat_eq e.block b) n found) (n + 1) es

-- the node of an event: a section is entered at its first event and left at its last
abbrev pub node_of : List StaticEvent → StaticEvent → Node
node_of es e = record { block = e.block; first = e.block; last = last_in e.block e.block 0 es }

abbrev pub nodes_in : List StaticEvent → List StaticEvent → List Node
nodes_in all [] = []
nodes_in all (e ∷ es) = node_of all e ∷ nodes_in all es

abbrev pub nodes_of : List StaticEvent → List Node
nodes_of es = nodes_in es es

-- ---- edges

abbrev pub local : ℕ → ℕ → Edge
local a b = record { graph = Local; from = a; to = b }

abbrev pub event_at : List StaticEvent → ℕ → StaticEvent
event_at es n = slice_index_or es n (record { instance = 0; kind = kind.Full; cell = 0; guard = record { 0 = 3 }; block = n })

-- whether both are actions of one thread; an initial write is of none
abbrev pub same_thread : StaticEvent → StaticEvent → Bool
same_thread a b = not (is_initial a.kind) && nat_eq a.instance b.instance

-- whether all threads see at once that r reads from w
abbrev pub is_global_rf : MemoryModel → List StaticEvent → ℕ → ℕ → Bool
is_global_rf Sc es w r = true
is_global_rf Tso es w r = not (same_thread (event_at es w) (event_at es r))
is_global_rf Pso es w r = not (same_thread (event_at es w) (event_at es r))

abbrev pub read_edges : MemoryModel → List StaticEvent → ℕ → ℕ → List Edge
read_edges m es w r = local w r ∷ cond (is_global_rf m es w r) (global_edge (nodes_of es) w r ∷ []) []

-- ---- atoms

abbrev pub read_atom : MemoryModel → List StaticEvent → Lit → ℕ → ℕ → Atom
read_atom m es l w r = record { lit = l; kind = ReadFrom w r; edges = read_edges m es w r }

abbrev pub order_atom : List StaticEvent → Lit → ℕ → ℕ → Atom
order_atom es l w v = record { lit = l; kind = WriteOrder w v; edges = local w v ∷ global_edge (nodes_of es) w v ∷ [] }

abbrev pub join_atom : List StaticEvent → Lit → ℕ → ℕ → Atom
join_atom es l e j = record { lit = l; kind = Plain; edges = global_edge (nodes_of es) e j ∷ [] }

-- the atoms of a link: one, and of two writes one for each order
abbrev pub link_atoms : MemoryModel → List StaticEvent → Link → List Atom
link_atoms m es (reading w r l) = read_atom m es l w r ∷ []
link_atoms m es (beginning i w l) = order_atom es l i w ∷ []
link_atoms m es (rivalry w v l back) = order_atom es l w v ∷ order_atom es back v w ∷ []
link_atoms m es (joining e j l) = join_atom es l e j ∷ []

-- the atoms of all links, in their order
abbrev pub atoms_of : MemoryModel → List StaticEvent → List Link → List Atom
atoms_of m es [] = []
atoms_of m es (x ∷ links) = link_atoms m es x ++ atoms_of m es links

-- ---- creates

-- an edge from a Create to the Start of its instance
pub record IsCreateEdge (es : List StaticEvent) (e : Edge) : Type 0 where
  pub create : ℕ
  pub start : ℕ
  pub creating : StaticEvent
  pub starting : StaticEvent
  pub creates : IsAt es create creating
  pub starts : IsAt es start starting
  pub same_kinds : (creating.kind ≡ kind.Create starting.instance) × (starting.kind ≡ kind.Start)
  pub same_edge : e ≡ global_edge (nodes_of es) create start

pub record AreCreateEdges (es : List StaticEvent) (fixed : List Edge) : Type 0 where
  pub sound : (e : Edge) → Contains fixed e → IsCreateEdge es e
  pub complete : (e : Edge) → IsCreateEdge es e → Contains fixed e
