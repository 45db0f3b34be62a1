-- What the solver of orders knows, and what it answers.
use Rattle.std.specs.Prelude.{◌≡◌, ℕ, zero, suc, ◌+◌, ◌*◌, ◌<◌, ◌≤◌, List, [], ◌∷◌, map, take, length, sum_by, All, Contains, slice_get, Some, Bool, true, false}
use Rattle.dg_base.specs.declared.Lit.{Lit}
use Rattle.cnf_problem.specs.declared.problem.Graph.{Graph}
use Rattle.cnf_problem.specs.declared.problem.Graph.TheVariants.{Local, Global}
use Rattle.cnf_problem.specs.declared.problem.Edge.{Edge}
use Rattle.cnf_problem.specs.declared.problem.Atom.{Atom}
use Rattle.cnf_problem.specs.declared.problem.Problem.{Problem}
use Rattle.cnf_problem.specs.declared.problem.LemmaKind.TheVariants.{Cycle}
use Rattle.cnf_problem.specs.Literals.{var, IsOver, IsWithoutRepeats}
use Rattle.cnf_problem.specs.Chains.{AllFalse, OthersFalse, IsUnassigned}
use Rattle.cnf_problem.specs.Edges.{HasEdge, EdgeIn, HasCycle, IsCyclic, derived_edges}
use Rattle.cnf_problem.specs.Problems.{FollowsBy}
use Rattle.cycle_detect.specs.Orders.{Held}
use Rattle.cycle_detect.specs.Parts.{EdgesView}
use Rattle.from_read.specs.declared.edge_set.DerivedEdge.{DerivedEdge}
use Rattle.from_read.specs.Derivations.{FromReadView, IsDerived}
use Rattle.order_solver.specs.declared.solver.Step.{Step}
use Rattle.order_solver.specs.declared.solver.Step.TheVariants.{Quiet, Implied, Conflict}
use Rattle.order_solver.specs.declared.caused.Cause.{Cause}
use Rattle.order_solver.specs.declared.caused.Cause.TheVariants.{Fixed, Own, Pair}

-- ---- the graphs

-- a graph as contracts see it: the number of nodes, how many edges there may be, the edges, the oldest first, their causes, and the nodes of the last cycle that was found
pub record GraphView : Type 0 where
  pub nodes : ℕ
  pub room : ℕ
  pub edges : List (ℕ × ℕ)
  pub causes : List Cause
  pub cycle : List ℕ

-- the atom with this number is there, and its literal is one of these
abbrev pub IsTrueAtom : Problem → List Lit → ℕ → Atom → Type 0
IsTrueAtom p lits a x = (slice_get p.atoms a ≡ Some x) × Contains lits x.lit

-- why an edge is there, where these literals are true: it is fixed, or an atom's own, or two atoms derive it
abbrev pub IsCause : Problem → List Lit → Edge → Cause → Type 0
IsCause p lits e Fixed = Contains p.fixed e
IsCause p lits e (Own a) = (x : Atom) × IsTrueAtom p lits a x × Contains x.edges e
IsCause p lits e (Pair a b) = (x y : Atom) × IsTrueAtom p lits a x × IsTrueAtom p lits b y × Contains (derived_edges p.nodes x.kind y.kind) e

-- the edges of one graph are exactly those that are there where these literals are true, each with a cause
pub record AreHeld (p : Problem) (lits : List Lit) (graph : Graph) (edges : List (ℕ × ℕ)) (causes : List Cause) : Type 0 where
  pub caused : (i x y : ℕ) (c : Cause) → slice_get edges i ≡ Some (x, y) → slice_get causes i ≡ Some c → IsCause p lits (record { graph = graph; from = x; to = y }) c
  pub complete : (x y : ℕ) → EdgeIn p (Contains lits) graph x y → Held edges x y

-- how far the two graphs and the true atoms had come before a literal was worked in
pub record Mark : Type 0 where
  pub local : ℕ
  pub global : ℕ
  pub atoms : ℕ

-- the solver as contracts see it: its two graphs, the derived edges, for each atom an edge from its literal's code to itself, the literals that are asserted, the mark of each that is worked in, and whether the fixed edges alone have a cycle
pub record SolverView : Type 0 where
  pub local : GraphView
  pub global : GraphView
  pub froms : FromReadView
  pub atoms : EdgesView
  pub asserted : List Lit
  pub marks : List Mark
  pub stuck : Bool

-- how many edges the atom with this number has of its own
abbrev pub own_at : List Atom → ℕ → ℕ
own_at [] a = 0
own_at (x ∷ atoms) zero = length x.edges
own_at (x ∷ atoms) (suc a) = own_at atoms a

-- how many edges these atoms have of their own
abbrev pub own_count : Problem → List ℕ → ℕ
own_count p numbers = sum_by (own_at p.atoms) numbers

-- how many edges all atoms have of their own
abbrev pub all_count : Problem → ℕ
all_count p = sum_by (λ x. length x.edges) p.atoms

-- so many edges are no more than the fixed ones, those of these atoms and those that the atoms derive
abbrev pub IsCounted : Problem → FromReadView → List ℕ → ℕ → Type 0
IsCounted p froms atoms count =
    (derived : List DerivedEdge) → IsDerived (record froms { true_atoms = atoms; derived = derived })
    → count ≤ length p.fixed + own_count p atoms + length derived

-- so far as a mark says, the solver has the edges of the first so many literals
pub record IsMarked (p : Problem) (s : SolverView) (n : ℕ) (m : Mark) : Type 0 where
  pub local_in : m.local ≤ length s.local.edges
  pub global_in : m.global ≤ length s.global.edges
  pub atoms_in : m.atoms ≤ length s.froms.true_atoms
  pub local : AreHeld p (take n s.asserted) Local (take m.local s.local.edges) (take m.local s.local.causes)
  pub global : AreHeld p (take n s.asserted) Global (take m.global s.global.edges) (take m.global s.global.causes)
  pub local_few : IsCounted p s.froms (take m.atoms s.froms.true_atoms) m.local
  pub global_few : IsCounted p s.froms (take m.atoms s.froms.true_atoms) m.global
  -- the true atoms are those of the literals
  pub only : (a : ℕ) → Contains (take m.atoms s.froms.true_atoms) a → (x : Atom) × IsTrueAtom p (take n s.asserted) a x
  pub all : (a : ℕ) (x : Atom) → IsTrueAtom p (take n s.asserted) a x → Contains (take m.atoms s.froms.true_atoms) a

-- one mark is no further than another
abbrev pub IsBelow : Mark → Mark → Type 0
IsBelow m n = (m.local ≤ n.local) × (m.global ≤ n.global) × (m.atoms ≤ n.atoms)

-- where the solver stands now
abbrev pub mark_now : SolverView → Mark
mark_now s = record { local = length s.local.edges; global = length s.global.edges; atoms = length s.froms.true_atoms }

-- the graph has the problem's nodes, and room for all edges that may be there
abbrev pub IsRoomy : Problem → FromReadView → GraphView → Type 0
IsRoomy p froms g =
    (g.nodes ≡ length p.nodes)
    × ((atoms : List ℕ) (derived : List DerivedEdge) → IsDerived (record froms { true_atoms = atoms; derived = derived })
    → length p.fixed + all_count p + length derived ≤ g.room)

-- the solver fits the problem
pub record IsOrdering (p : Problem) (s : SolverView) : Type 0 where
  pub over : All (IsOver p.vars) s.asserted
  pub once : (i j : ℕ) (l m : Lit) → slice_get s.asserted i ≡ Some l → slice_get s.asserted j ≡ Some m → var l ≡ var m → i ≡ j
  pub worked : length s.marks ≤ length s.asserted
  pub nodes : s.froms.nodes ≡ p.nodes
  pub kinds : s.froms.kinds ≡ map (λ a. a.kind) p.atoms
  pub codes : s.atoms.nodes ≡ 2 * p.vars + 2
  pub atoms : s.atoms.list ≡ map (λ a. (a.lit.0, a.lit.0)) p.atoms
  pub local : IsRoomy p s.froms s.local
  pub global : IsRoomy p s.froms s.global
  pub stuck : s.stuck ≡ true → (s.marks ≡ []) × IsCyclic p (Contains [])
  -- before each literal that is worked in, and behind the last of them
  pub marks : s.stuck ≡ false → (n : ℕ) (m : Mark) → slice_get s.marks n ≡ Some m → IsMarked p s n m
  pub present : s.stuck ≡ false → IsMarked p s (length s.marks) (mark_now s)
  pub rising : (i j : ℕ) (m n : Mark) → i < j → slice_get s.marks i ≡ Some m → slice_get s.marks j ≡ Some n → IsBelow m n

-- ---- the answers

-- the edges of the true literals, and beside them those of one atom
pub data HasEdgeWith (p : Problem) (lits : List Lit) (a : Atom) (e : Edge) : Type 0 where
  there : HasEdge p (Contains lits) e → HasEdgeWith p lits a e
  own : Contains a.edges e → HasEdgeWith p lits a e

-- the edges of the true literals have no cycle
abbrev pub IsAcyclic : Problem → List Lit → Type 0
IsAcyclic p lits = ¬ IsCyclic p (Contains lits)

-- nor do the own edges of an atom that is unassigned close one
abbrev pub ClosesNone : Problem → List Lit → Type 0
ClosesNone p lits =
    (a : Atom) (graph : Graph) → Contains p.atoms a → IsUnassigned lits a.lit
    → ¬ HasCycle (λ x y. HasEdgeWith p lits a (record { graph = graph; from = x; to = y }))

-- a cycle clause: the atoms that it denies have a cycle; its literals are over the problem's variables, each variable once
pub record IsCycleClause (p : Problem) (clause : List Lit) : Type 0 where
  pub over : All (IsOver p.vars) clause
  pub cyclic : FollowsBy Cycle p [] clause
  pub no_repeats : IsWithoutRepeats clause

-- the clause has one literal that is unassigned, and its others are false
abbrev pub IsUnit : List Lit → List Lit → Type 0
IsUnit lits clause = (l : Lit) × Contains clause l × IsUnassigned lits l × OthersFalse lits clause l

-- what each answer says, where these literals are true
abbrev pub IsStep : Problem → List Lit → Step → Type 0
IsStep p lits Quiet = IsAcyclic p lits × ClosesNone p lits
IsStep p lits (Implied clause) = IsCycleClause p clause × IsUnit lits clause
IsStep p lits (Conflict clause) = IsCycleClause p clause × AllFalse lits clause
