-- What holds while a literal is worked in, and what explains a cycle.
use Rattle.std.specs.Prelude.{◌≡◌, ◌≢◌, Bool, true, false, ⊤, ◌⊎◌, ◌<◌, ◌≤◌, ◌+◌, ℕ, List, [], ◌∷◌, ◌++◌, take, length, Contains, slice_get, Some}
use Rattle.dg_base.specs.declared.Lit.{Lit}
use Rattle.cnf_problem.specs.declared.problem.Graph.{Graph}
use Rattle.cnf_problem.specs.declared.problem.Graph.TheVariants.{Local, Global}
use Rattle.cnf_problem.specs.declared.problem.Edge.{Edge}
use Rattle.cnf_problem.specs.declared.problem.Atom.{Atom}
use Rattle.cnf_problem.specs.declared.problem.Problem.{Problem}
use Rattle.cnf_problem.specs.Literals.{negated, IsOver}
use Rattle.cnf_problem.specs.Edges.{IsCyclic}
use Rattle.cycle_detect.specs.Orders.{Held, IsClosed}
use Rattle.from_read.specs.declared.edge_set.DerivedEdge.{DerivedEdge}
use Rattle.from_read.specs.Derivations.{FromReadView}
use Rattle.order_solver.specs.declared.explain.Closing.{Closing}
use Rattle.order_solver.specs.declared.caused.Cause.{Cause}
use Rattle.order_solver.specs.declared.caused.Cause.TheVariants.{Fixed, Own, Pair}
use Rattle.order_solver.specs.Ordering.{GraphView, SolverView, IsCause}

-- the clause denies the literal
abbrev pub Denied : List Lit → Lit → Type 0
Denied clause l = Contains clause (negated l)

-- the clause denies each atom of the cause
abbrev pub Denies : Problem → List Lit → Cause → Type 0
Denies p clause Fixed = ⊤
Denies p clause (Own a) = (x : Atom) → slice_get p.atoms a ≡ Some x → Denied clause x.lit
Denies p clause (Pair a b) = ((x : Atom) → slice_get p.atoms a ≡ Some x → Denied clause x.lit) × ((y : Atom) → slice_get p.atoms b ≡ Some y → Denied clause y.lit)

-- the literal is put last, unless it is there
abbrev pub IsAdded : List Lit → Lit → List Lit → Type 0
IsAdded before l after = (Contains before l × (after ≡ before)) ⊎ ((¬ Contains before l) × (after ≡ before ++ l ∷ []))

-- the cause names atoms that are there
abbrev pub IsNamed : Problem → Cause → Type 0
IsNamed p Fixed = ⊤
IsNamed p (Own a) = a < length p.atoms
IsNamed p (Pair a b) = (a < length p.atoms) × (b < length p.atoms)

-- the clause denies only these literals, each once
pub record IsDenying (p : Problem) (lits clause : List Lit) : Type 0 where
  pub over : (l : Lit) → Contains clause l → IsOver p.vars l
  pub from : (l : Lit) → Contains clause l → Contains lits (negated l)
  pub once : (i j : ℕ) (l : Lit) → slice_get clause i ≡ Some l → slice_get clause j ≡ Some l → i ≡ j

-- and the atoms that it denies have a cycle
pub record IsExplained (p : Problem) (lits clause : List Lit) : Type 0 where
  pub denying : IsDenying p lits clause
  pub cyclic : IsCyclic p (Denied clause)

-- each edge of one graph has a cause where these literals are true
abbrev pub AreCaused : Problem → List Lit → Graph → List (ℕ × ℕ) → List Cause → Type 0
AreCaused p lits graph edges causes =
    (i x y : ℕ) (c : Cause) → slice_get edges i ≡ Some (x, y) → slice_get causes i ≡ Some c → IsCause p lits (record { graph = graph; from = x; to = y }) c

-- one graph holds the fixed edges, the own edges of the true atoms and the derived edges, and each of its edges has a cause where these literals are true
pub record IsHolding (p : Problem) (lits : List Lit) (froms : FromReadView) (graph : Graph) (edges : List (ℕ × ℕ)) (causes : List Cause) : Type 0 where
  pub caused : AreCaused p lits graph edges causes
  pub fixed : (e : Edge) → Contains p.fixed e → e.graph ≡ graph → Held edges e.from e.to
  pub own : (a : ℕ) (x : Atom) (e : Edge) → Contains froms.true_atoms a → slice_get p.atoms a ≡ Some x → Contains x.edges e → e.graph ≡ graph → Held edges e.from e.to
  pub derived : (d : DerivedEdge) → Contains froms.derived d → d.edge.graph ≡ graph → Held edges d.edge.from d.edge.to

-- the first so many edges of a graph
abbrev pub cut_graph : ℕ → GraphView → GraphView
cut_graph n g = record g { edges = take n g.edges; causes = take n g.causes }

-- ---- the two graphs

abbrev pub graph_in : SolverView → Graph → GraphView
graph_in s Local = s.local
graph_in s Global = s.global

-- the graph has one edge more, put last, with its cause
pub record HasPut (before : GraphView) (e : Edge) (c : Cause) (after : GraphView) : Type 0 where
  pub nodes : after.nodes ≡ before.nodes
  pub room : after.room ≡ before.room
  pub edges : after.edges ≡ before.edges ++ (e.from, e.to) ∷ []
  pub causes : after.causes ≡ before.causes ++ c ∷ []

-- the graph has the same edges
pub record IsSameGraph (before after : GraphView) : Type 0 where
  pub nodes : after.nodes ≡ before.nodes
  pub room : after.room ≡ before.room
  pub edges : after.edges ≡ before.edges
  pub causes : after.causes ≡ before.causes

-- all but the graphs is as it was
pub record IsRest (before after : SolverView) : Type 0 where
  pub froms : after.froms ≡ before.froms
  pub atoms : after.atoms ≡ before.atoms
  pub asserted : after.asserted ≡ before.asserted
  pub marks : after.marks ≡ before.marks
  pub stuck : after.stuck ≡ before.stuck

-- the edge is held, or closes a cycle and is not; nothing else changes
pub record IsTried (before : SolverView) (e : Edge) (c : Cause) (closes : Bool) (after : SolverView) : Type 0 where
  pub long : length (graph_in before e.graph).causes ≡ length (graph_in before e.graph).edges
  pub put : closes ≡ false → HasPut (graph_in before e.graph) e c (graph_in after e.graph)
  pub same : closes ≡ true → IsSameGraph (graph_in before e.graph) (graph_in after e.graph)
  pub closed : closes ≡ true → IsClosed (graph_in before e.graph).edges e.from e.to (graph_in after e.graph).cycle
  pub other : (g : Graph) → g ≢ e.graph → graph_in after g ≡ graph_in before g
  pub rest : IsRest before after

-- the literals have that of the atom with this number
abbrev pub HasAtom : Problem → ℕ → List Lit → Type 0
HasAtom p a lits = (x : Atom) → slice_get p.atoms a ≡ Some x → Contains lits x.lit

-- a graph got edges of one atom, so many at most: the edges before are the first, and each has a cause where the atom is true
pub record IsExtended (p : Problem) (a : ℕ) (g : Graph) (count : ℕ) (before after : GraphView) : Type 0 where
  pub nodes : after.nodes ≡ before.nodes
  pub room : after.room ≡ before.room
  pub edges : take (length before.edges) after.edges ≡ before.edges
  pub causes : take (length before.edges) after.causes ≡ take (length before.edges) before.causes
  pub few : length after.edges ≤ length before.edges + count
  pub least : length before.edges ≤ length after.edges
  pub caused : (lits : List Lit) → HasAtom p a lits → AreCaused p lits g before.edges before.causes → AreCaused p lits g after.edges after.causes

-- an own edge of an atom would close a cycle
pub record IsOwnClosing (p : Problem) (a : ℕ) (s : SolverView) (closing : Closing) : Type 0 where
  pub cause : closing.cause ≡ Own a
  pub own : (x : Atom) → slice_get p.atoms a ≡ Some x → Contains x.edges closing.edge
  pub closed : IsClosed (graph_in s closing.edge.graph).edges closing.edge.from closing.edge.to (graph_in s closing.edge.graph).cycle
