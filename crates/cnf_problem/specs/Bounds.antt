use Rattle.std.specs.Prelude.{ℕ, ◌<◌, ◌≤◌, ◌^◌, List, [], ◌∷◌, length, All}
use Rattle.dg_base.specs.declared.Lit.{Lit}
use Rattle.cnf_problem.specs.declared.problem.Edge.{Edge}
use Rattle.cnf_problem.specs.declared.problem.AtomKind.{AtomKind}
use Rattle.cnf_problem.specs.declared.problem.AtomKind.TheVariants.{ReadFrom, WriteOrder, Plain}
use Rattle.cnf_problem.specs.declared.problem.Atom.{Atom}
use Rattle.cnf_problem.specs.declared.problem.Node.{Node}
use Rattle.cnf_problem.specs.Literals.{IsOver}

-- the edge is between two of the first so many nodes
abbrev pub IsBetween : ℕ → Edge → Type 0
IsBetween nodes e = (e.from < nodes) × (e.to < nodes)

-- the nodes that an atom of this kind speaks of
abbrev pub nodes_of : AtomKind → List ℕ
nodes_of (ReadFrom write read) = write ∷ read ∷ []
nodes_of (WriteOrder first second) = first ∷ second ∷ []
nodes_of Plain = []

-- the atom's literal is over so many variables, and its nodes and edges are among so many nodes
pub record IsAtomOver (vars nodes : ℕ) (a : Atom) : Type 0 where
  pub lit : IsOver vars a.lit
  pub kind : All (λ n. n < nodes) (nodes_of a.kind)
  pub edges : All (IsBetween nodes) a.edges

-- the two ends of the node's block are among so many nodes
abbrev pub IsNodeOf : ℕ → Node → Type 0
IsNodeOf nodes n = (n.first < nodes) × (n.last < nodes)

-- the nodes, atoms and fixed edges fit a problem with so many variables
pub record AreGraphs (vars : ℕ) (nodes : List Node) (atoms : List Atom) (fixed : List Edge) : Type 0 where
  pub few_nodes : length nodes < 2 ^ 32
  pub few_atoms : length atoms < 2 ^ 32
  pub blocks : All (IsNodeOf (length nodes)) nodes
  pub each_atom : All (IsAtomOver vars (length nodes)) atoms
  pub each_edge : All (IsBetween (length nodes)) fixed

-- the clauses fit a problem with so many variables
pub record AreClauses (vars : ℕ) (clauses : List (List Lit)) : Type 0 where
  pub few_vars : vars ≤ 2147483647
  pub few_clauses : length clauses < 2 ^ 32
  pub each_literal : All (All (IsOver vars)) clauses
