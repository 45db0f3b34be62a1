use Rattle.std.specs.Prelude.{ℕ, ◌==◌, if◌then◌else◌, List, [], ◌∷◌, slice_index_or, Contains}
use Rattle.dg_base.specs.declared.Lit.{Lit}
use Rattle.cnf_problem.specs.declared.problem.Graph.{Graph}
use Rattle.cnf_problem.specs.declared.problem.Graph.TheVariants.{Local, Global}
use Rattle.cnf_problem.specs.declared.problem.Edge.{Edge}
use Rattle.cnf_problem.specs.declared.problem.AtomKind.{AtomKind}
use Rattle.cnf_problem.specs.declared.problem.AtomKind.TheVariants.{ReadFrom, WriteOrder, Plain}
use Rattle.cnf_problem.specs.declared.problem.Atom.{Atom}
use Rattle.cnf_problem.specs.declared.problem.Node.{Node}
use Rattle.cnf_problem.specs.declared.problem.Problem.{Problem}

-- node n of the list; past its end, a node that is a block of its own
abbrev pub node_at : List Node → ℕ → Node
node_at nodes n = slice_index_or nodes n (record { block = n; first = n; last = n })

-- the edge from r to v in the global graph: between different blocks it leaves the last node of one and enters the first of the other
abbrev pub global_edge : List Node → ℕ → ℕ → Edge
global_edge nodes r v =
    if (node_at nodes r).block == (node_at nodes v).block
    then record { graph = Global; from = r; to = v }
    else record { graph = Global; from = (node_at nodes r).last; to = (node_at nodes v).first }

-- the from-read edges that two atoms derive: where r reads from w, and w comes before v, r comes before v
abbrev pub derived_edges : List Node → AtomKind → AtomKind → List Edge
derived_edges nodes (ReadFrom w r) (WriteOrder u v) =
    if w == u then record { graph = Local; from = r; to = v } ∷ global_edge nodes r v ∷ [] else []
derived_edges nodes (ReadFrom w r) (ReadFrom w2 r2) = []
derived_edges nodes (ReadFrom w r) Plain = []
derived_edges nodes (WriteOrder u v) b = []
derived_edges nodes Plain b = []

-- the edges of a problem where these literals hold: the fixed ones, those of the atoms that hold, and those that two such atoms derive
pub data HasEdge (p : Problem) (Holds : Lit → Type 0) (e : Edge) : Type 0 where
  fixed : Contains p.fixed e → HasEdge p Holds e
  own : (a : Atom) → Contains p.atoms a → Holds a.lit → Contains a.edges e → HasEdge p Holds e
  derived : (a b : Atom) → Contains p.atoms a → Holds a.lit → Contains p.atoms b → Holds b.lit → Contains (derived_edges p.nodes a.kind b.kind) e → HasEdge p Holds e

-- a path of one edge or more from one node to another
pub data Path (E : ℕ → ℕ → Type 0) : ℕ → ℕ → Type 0 where
  last : {x y : ℕ} → E x y → Path E x y
  then : {x y z : ℕ} → E x y → Path E y z → Path E x z

-- some path leads back to where it began
abbrev pub HasCycle : (ℕ → ℕ → Type 0) → Type 0
HasCycle E = (n : ℕ) × Path E n n

-- the edges of one of the two graphs
abbrev pub EdgeIn : Problem → (Lit → Type 0) → Graph → ℕ → ℕ → Type 0
EdgeIn p Holds graph x y = HasEdge p Holds (record { graph = graph; from = x; to = y })

-- the edges have a cycle in one of the two graphs
abbrev pub IsCyclic : Problem → (Lit → Type 0) → Type 0
IsCyclic p Holds = (graph : Graph) × HasCycle (EdgeIn p Holds graph)
