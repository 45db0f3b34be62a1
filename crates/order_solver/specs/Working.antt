-- What holds while a literal is worked in.
use Rattle.std.specs.Prelude.{◌≡◌, ℕ, ◌+◌, ◌<◌, ◌≤◌, List, [], ◌∷◌, ◌++◌, map, take, length, Contains, slice_get, Some}
use Rattle.dg_base.specs.declared.Lit.{Lit}
use Rattle.cnf_problem.specs.declared.problem.Graph.{Graph}
use Rattle.cnf_problem.specs.declared.problem.Edge.{Edge}
use Rattle.cnf_problem.specs.declared.problem.Atom.{Atom}
use Rattle.cnf_problem.specs.declared.problem.Problem.{Problem}
use Rattle.cnf_problem.specs.Edges.{HasCycle}
use Rattle.cycle_detect.specs.Orders.{Held, IsClosed}
use Rattle.from_read.specs.Derivations.{IsDerived}
use Rattle.order_solver.specs.declared.explain.Closing.{Closing}
use Rattle.order_solver.specs.declared.solver.Place.{Place}
use Rattle.order_solver.specs.Ordering.{GraphView, SolverView, IsTrueAtom, IsCause, IsRoomy, own_count}
use Rattle.order_solver.specs.Parts.{graph_in, AreCaused, IsHolding, HasAtom}

-- the place tells how far the graphs and the derived edges have come
pub record IsPlaceOf (s : SolverView) (place : Place) : Type 0 where
  pub local : place.local ≡ length s.local.edges
  pub global : place.global ≡ length s.global.edges
  pub atoms : place.atoms ≡ length s.froms.true_atoms
  pub derived : IsDerived s.froms
  pub long : (g : Graph) → length (graph_in s g).causes ≡ length (graph_in s g).edges
  pub acyclic : (g : Graph) → ¬ HasCycle (Held (graph_in s g).edges)

-- a graph got edges behind those that it had
pub record IsGrown (before after : GraphView) : Type 0 where
  pub nodes : after.nodes ≡ before.nodes
  pub room : after.room ≡ before.room
  pub edges : take (length before.edges) after.edges ≡ before.edges
  pub causes : take (length before.edges) after.causes ≡ take (length before.edges) before.causes

-- both graphs did, and atoms became true behind those that were; all else is as it was
pub record AreGrown (before after : SolverView) : Type 0 where
  pub graphs : (g : Graph) → IsGrown (graph_in before g) (graph_in after g)
  pub nodes : after.froms.nodes ≡ before.froms.nodes
  pub kinds : after.froms.kinds ≡ before.froms.kinds
  pub true_atoms : take (length before.froms.true_atoms) after.froms.true_atoms ≡ before.froms.true_atoms
  pub atoms : after.atoms ≡ before.atoms
  pub asserted : after.asserted ≡ before.asserted
  pub marks : after.marks ≡ before.marks
  pub stuck : after.stuck ≡ before.stuck

-- where these literals are true, both graphs hold the fixed edges and those of the true atoms, and no more than the fixed ones, the own ones of these atoms and the derived ones
pub record AreWorkedIn (p : Problem) (lits : List Lit) (atoms : List ℕ) (s : SolverView) : Type 0 where
  pub nodes : s.froms.nodes ≡ p.nodes
  pub kinds : s.froms.kinds ≡ map (λ a. a.kind) p.atoms
  pub derived : IsDerived s.froms
  pub only : (a : ℕ) → Contains s.froms.true_atoms a → (x : Atom) × IsTrueAtom p lits a x
  pub holding : (g : Graph) → IsHolding p lits s.froms g (graph_in s g).edges (graph_in s g).causes
  pub few : (g : Graph) → length (graph_in s g).edges ≤ length p.fixed + own_count p atoms + length s.froms.derived
  pub roomy : (g : Graph) → IsRoomy p s.froms (graph_in s g)

-- between two atoms
abbrev pub IsWorking : Problem → List Lit → SolverView → Type 0
IsWorking p lits s = AreWorkedIn p lits s.froms.true_atoms s

-- the atom with this number is there and not yet true, and the literals have that of it
pub record IsNext (p : Problem) (lits : List Lit) (a : ℕ) (s : SolverView) : Type 0 where
  pub below : a < length p.atoms
  pub free : ¬ Contains s.froms.true_atoms a
  pub has : HasAtom p a lits

-- its own edges are held too
pub record IsOwnHeld (p : Problem) (lits : List Lit) (a : ℕ) (s : SolverView) : Type 0 where
  pub next : IsNext p lits a s
  pub worked : AreWorkedIn p lits (s.froms.true_atoms ++ a ∷ []) s
  pub own : (x : Atom) (e : Edge) → slice_get p.atoms a ≡ Some x → Contains x.edges e → Held (graph_in s e.graph).edges e.from e.to

-- an edge that is there where these literals are true would close a cycle, and so are the edges that its graph holds
pub record IsClosing (p : Problem) (lits : List Lit) (s : SolverView) (closing : Closing) : Type 0 where
  pub nodes : (graph_in s closing.edge.graph).nodes ≡ length p.nodes
  pub caused : AreCaused p lits closing.edge.graph (graph_in s closing.edge.graph).edges (graph_in s closing.edge.graph).causes
  pub cause : IsCause p lits closing.edge closing.cause
  pub closed : IsClosed (graph_in s closing.edge.graph).edges closing.edge.from closing.edge.to (graph_in s closing.edge.graph).cycle

-- each atom with this literal is true
abbrev pub AreTrue : Problem → Lit → SolverView → Type 0
AreTrue p lit s = (a : ℕ) (x : Atom) → slice_get p.atoms a ≡ Some x → x.lit ≡ lit → Contains s.froms.true_atoms a

-- none is
abbrev pub NoneTrue : Problem → Lit → SolverView → Type 0
NoneTrue p lit s = (a : ℕ) (x : Atom) → slice_get p.atoms a ≡ Some x → x.lit ≡ lit → ¬ Contains s.froms.true_atoms a
