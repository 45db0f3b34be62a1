-- The graphs of a problem. No public contract cites it.
use Rattle.std.specs.Prelude.{◌≡◌, ℕ, List, ◌++◌, All, length, map}
use Rattle.axiom_model.specs.declared.MemoryModel.{MemoryModel}
use Rattle.cnf_problem.specs.Literals.{IsOver}
use Rattle.cnf_problem.specs.Bounds.{IsAtomOver, IsBetween}
use Rattle.cnf_problem.specs.Formulas.{Formula}
use Rattle.cnf_problem.specs.declared.problem.Atom.{Atom}
use Rattle.cnf_problem.specs.declared.problem.Edge.{Edge}
use Rattle.cnf_problem.specs.declared.problem.Problem.{Problem}
use Rattle.memory_models.specs.declared.StaticEvent.{StaticEvent}
use Rattle.memory_models.specs.declared.FenceEdge.{FenceEdge}
use Rattle.memory_models.specs.Keeping.{AreStaticEdges}
use Rattle.order_vars.specs.Atoms.{nodes_of}
use Rattle.encode_match.specs.Parts.{fence_atom}

-- guards and atoms are over so many variables, and atoms and edges are of the events
pub record AreOrdersOver (vars : ℕ) (es : List StaticEvent) (atoms : List Atom) (creates : List Edge) : Type 0 where
  pub guards : All (λ (e : StaticEvent). IsOver vars e.guard) es
  pub each_atom : All (IsAtomOver vars (length es)) atoms
  pub each_edge : All (IsBetween (length es)) creates

-- the problem of a formula, with these atoms and edges and those of what the model keeps
pub record IsProblemOf (m : MemoryModel) (es : List StaticEvent) (order_atoms : List Atom) (creates : List Edge) (f : Formula) (p : Problem) : Type 0 where
  pub fixed : List Edge
  pub fences : List FenceEdge
  pub static : AreStaticEdges m es fixed fences
  pub vars : p.vars ≡ f.vars
  pub clauses : p.clauses ≡ f.clauses
  pub nodes : p.nodes ≡ nodes_of es
  pub atoms : p.atoms ≡ order_atoms ++ map fence_atom fences
  pub edges : p.fixed ≡ fixed ++ creates
