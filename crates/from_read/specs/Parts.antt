-- Derived edges one after another, and what the parts of `FromRead` keep.
use Rattle.std.specs.Prelude.{◌≡◌, ℕ, ◌+◌, ◌*◌, ◌<◌, ◌≤◌, ◌⊎◌, Bool, true, false, List, [], ◌∷◌, ◌++◌, map, filter, take, length, All, slice_get, Contains, Some}
use Rattle.cnf_problem.specs.declared.problem.Node.{Node}
use Rattle.cnf_problem.specs.declared.problem.Graph.{Graph}
use Rattle.cnf_problem.specs.declared.problem.Graph.TheVariants.{Local, Global}
use Rattle.cnf_problem.specs.declared.problem.Edge.{Edge}
use Rattle.cnf_problem.specs.declared.problem.AtomKind.{AtomKind}
use Rattle.cnf_problem.specs.declared.problem.AtomKind.TheVariants.{ReadFrom, WriteOrder, Plain}
use Rattle.cnf_problem.specs.Edges.{derived_edges}
use Rattle.cnf_problem.specs.Bounds.{IsNodeOf, nodes_of}
use Rattle.from_read.specs.declared.edge_set.DerivedEdge.{DerivedEdge}
use Rattle.from_read.specs.Derivations.{FromReadView, kind_at, IsDerived}

-- derived edges as contracts see them: the number of nodes, how many edges there may be, and the edges, the oldest first
pub record EdgeSetView : Type 0 where
  pub nodes : ℕ
  pub limit : ℕ
  pub list : List DerivedEdge

-- which of the two edges between two nodes: one number for each graph
abbrev pub bit_of : Graph → ℕ
bit_of Local = 0
bit_of Global = 1

-- the ends of an edge among twice as many nodes, so that both graphs' edges are apart
abbrev pub ends_of : Edge → ℕ × ℕ
ends_of e = (e.from, 2 * e.to + bit_of e.graph)

-- an edge of the list is this one
abbrev pub HasEdge : List DerivedEdge → Edge → Type 0
HasEdge list e = (c : DerivedEdge) × Contains list c × (c.edge ≡ e)

-- the edge is put last, unless it is there
abbrev pub IsPut : List DerivedEdge → DerivedEdge → List DerivedEdge → Type 0
IsPut before d after = (HasEdge before d.edge × (after ≡ before)) ⊎ ((¬ HasEdge before d.edge) × (after ≡ before ++ d ∷ []))

-- these edges are put one after another
abbrev pub ArePut : List DerivedEdge → List DerivedEdge → List DerivedEdge → Type 0
ArePut [] before after = after ≡ before
ArePut (d ∷ ds) before after = (mid : List DerivedEdge) × IsPut before d mid × ArePut ds mid after

-- the edges that a pair of atoms derives, with the pair
abbrev pub pair_edges : List Node → List AtomKind → ℕ → ℕ → List DerivedEdge
pair_edges nodes kinds a b = map (λ e. record { edge = e; read_from = a; write_order = b }) (derived_edges nodes (kind_at kinds a) (kind_at kinds b))

-- the edges that an atom derives with each of these are put, with one after another
abbrev pub ArePutFor : (ℕ → List DerivedEdge) → List ℕ → List DerivedEdge → List DerivedEdge → Type 0
ArePutFor edges [] before after = after ≡ before
ArePutFor edges (b ∷ bs) before after = (mid : List DerivedEdge) × ArePut (edges b) before mid × ArePutFor edges bs mid after

-- whether an atom of this kind reads, and whether it orders two writes
abbrev pub is_read : AtomKind → Bool
is_read (ReadFrom w r) = true
is_read (WriteOrder u v) = false
is_read Plain = false

abbrev pub is_order : AtomKind → Bool
is_order (ReadFrom w r) = false
is_order (WriteOrder u v) = true
is_order Plain = false

-- some pair of atoms derives the edge
abbrev pub IsDerivable : List Node → List AtomKind → Edge → Type 0
IsDerivable nodes kinds e = (a b : AtomKind) × Contains kinds a × Contains kinds b × Contains (derived_edges nodes a b) e

-- distinct edges that pairs of atoms derive are so many at most
abbrev pub IsEnough : List Node → List AtomKind → ℕ → Type 0
IsEnough nodes kinds limit = (es : List Edge) → ((i j : ℕ) (e : Edge) → slice_get es i ≡ Some e → slice_get es j ≡ Some e → i ≡ j) → ((e : Edge) → Contains es e → IsDerivable nodes kinds e) → length es ≤ limit

-- the list fits the problem: its edges are distinct and derivable, and there is room for all such
pub record IsFine (nodes : List Node) (kinds : List AtomKind) (s : EdgeSetView) : Type 0 where
  pub sizes : s.nodes ≡ 2 * length nodes
  pub blocks : All (IsNodeOf (length nodes)) nodes
  pub kinds_over : All (λ k. All (λ n. n < length nodes) (nodes_of k)) kinds
  pub once : (i j : ℕ) (c d : DerivedEdge) → slice_get s.list i ≡ Some c → slice_get s.list j ≡ Some d → c.edge ≡ d.edge → i ≡ j
  pub able : (d : DerivedEdge) → Contains s.list d → IsDerivable nodes kinds d.edge
  pub enough : IsEnough nodes kinds s.limit

-- the parts fit each other: before each true atom the list had so many edges, those that the atoms before it derive; the readers and the orders among the true atoms
pub record AreParts (v : FromReadView) (marks reads orders : List ℕ) : Type 0 where
  pub whole : IsDerived v
  pub marks_long : length marks ≡ length v.true_atoms
  pub before : (t m : ℕ) → slice_get marks t ≡ Some m → (m ≤ length v.derived) × IsDerived (record v { true_atoms = take t v.true_atoms; derived = take m v.derived })
  pub rising : (s t m n : ℕ) → s < t → slice_get marks s ≡ Some m → slice_get marks t ≡ Some n → m ≤ n
  pub reads_are : reads ≡ filter (λ a. is_read (kind_at v.kinds a)) v.true_atoms
  pub orders_are : orders ≡ filter (λ a. is_order (kind_at v.kinds a)) v.true_atoms
