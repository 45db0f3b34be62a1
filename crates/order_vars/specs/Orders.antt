-- What is made of the events: links, atoms, clauses and edges.
use Rattle.std.specs.Prelude.{◌≡◌, ℕ, ◌≤◌, List, ◌++◌, Bool, length, All, AllPairs, Contains, ◌↔◌}
use Rattle.dg_base.specs.declared.Lit.{Lit}
use Rattle.axiom_model.specs.declared.MemoryModel.{MemoryModel}
use Rattle.cnf_problem.specs.declared.problem.Edge.{Edge}
use Rattle.cnf_problem.specs.declared.problem.Atom.{Atom}
use Rattle.cnf_problem.specs.Literals.{value, IsOver, AreSatisfied}
use Rattle.cnf_problem.specs.Formulas.{Formula}
use Rattle.memory_models.specs.declared.StaticEvent.{StaticEvent}
use Rattle.order_vars.specs.Links.{Link, reading, beginning, rivalry, joining, ComeInOrder, IsLink, HasLinks}
use Rattle.order_vars.specs.Atoms.{atoms_of, AreCreateEdges}
use Rattle.order_vars.specs.Holding.{OrderHolds}

-- the events' literals have variables, and each event has a value of 32 bits
pub record AreEventsOver (vars : ℕ) (es : List StaticEvent) (words : List (List Lit)) : Type 0 where
  pub guards : All (λ e. IsOver vars e.guard) es
  pub count : length words ≡ length es
  pub each : All (λ w. (length w ≡ 32) × All (IsOver vars) w) words

-- the literals of a link have variables
abbrev pub IsLinkOver : ℕ → Link → Type 0
IsLinkOver vars (reading w r l) = IsOver vars l
IsLinkOver vars (beginning i w l) = IsOver vars l
IsLinkOver vars (rivalry w v l back) = IsOver vars l × IsOver vars back
IsLinkOver vars (joining e j l) = IsOver vars l

-- a choice of an execution's order: for a write and a read whether the one is the other's source, for two writes whether the first
-- comes before the second, for an end and a join whether the join waits for it
pub record Choice : Type 0 where
  pub source : ℕ → ℕ → Bool
  pub before : ℕ → ℕ → Bool
  pub waits : ℕ → ℕ → Bool

-- the link's literals have the chosen truth values; of an initial write's there is no choice
abbrev pub IsChosen : List Bool → Choice → Link → Type 0
IsChosen s c (reading w r l) = value s l ≡ c.source w r
IsChosen s c (beginning i w l) = Unit {0}
IsChosen s c (rivalry w v l back) = (value s l ≡ c.before w v) × (value s back ≡ c.before v w)
IsChosen s c (joining e j l) = value s l ≡ c.waits e j

-- further truth values that give the links' literals the chosen ones
pub record Chosen (new : Formula) (links : List Link) (s : List Bool) (c : Choice) : Type 0 where
  pub more : List Bool
  pub values : length (s ++ more) ≡ new.vars
  pub chosen : (x : Link) → Contains links x → IsChosen (s ++ more) c x

-- the atoms of the events, the clauses that say when they hold, and the edges of creates
pub record IsOrderOf (m : MemoryModel) (es : List StaticEvent) (words : List (List Lit)) (old new : Formula) (atoms : List Atom) (fixed : List Edge) : Type 0 where
  pub links : List Link
  pub are_atoms : atoms ≡ atoms_of m es links
  pub sound : (x : Link) → Contains links x → IsLink es x × IsLinkOver new.vars x
  pub complete : HasLinks es links
  -- no pair has two links
  pub once : AllPairs ComeInOrder links
  pub grows : old.vars ≤ new.vars
  pub added : List (List Lit)
  pub clauses : new.clauses ≡ old.clauses ++ added
  -- the clauses say exactly this
  pub exact : (s : List Bool) → AreSatisfied s added ↔ OrderHolds es words links s
  -- any choice may be made
  pub free : (s : List Bool) (c : Choice) → length s ≡ old.vars → Chosen new links s c
  pub creates : AreCreateEdges es fixed
