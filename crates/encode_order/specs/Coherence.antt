-- The coherence order of each cell as an assignment tells it: the cell's writes that happen, in the order of the true atoms.
use Rattle.std.specs.Prelude.{◌≡◌, ℕ, ◌<◌, List, ◌++◌, Bool, true, Some, slice_get, Contains, ◌↔◌}
use Rattle.dg_base.specs.declared.Lit.{Lit}
use Rattle.axiom_model.specs.declared.MemoryModel.{MemoryModel}
use Rattle.cnf_problem.specs.Literals.{value}
use Rattle.cnf_problem.specs.Formulas.{Formula}
use Rattle.cnf_problem.specs.declared.problem.AtomKind.TheVariants.{WriteOrder, Plain}
use Rattle.cnf_problem.specs.declared.problem.Atom.{Atom}
use Rattle.cnf_problem.specs.declared.problem.Edge.{Edge}
use Rattle.cnf_problem.specs.declared.problem.Problem.{Problem}
use Rattle.memory_models.specs.declared.StaticEvent.{StaticEvent}
use Rattle.memory_models.specs.declared.StaticKind.TheVariants.{Initial}
use Rattle.memory_models.specs.Events.{IsAt}
use Rattle.order_vars.specs.Links.{is_write, IsKindOf}
use Rattle.order_vars.specs.Orders.{IsOrderOf}

-- ---- what is ordered

-- the atom that says that w precedes v is true
pub record IsBefore (atoms : List Atom) (s : List Bool) (w v : ℕ) : Type 0 where
  pub atom : Atom
  pub listed : Contains atoms atom
  pub same_kind : atom.kind ≡ WriteOrder w v
  pub holds : value s atom.lit ≡ true

-- a write of the cell that happens, the initial one among them
pub record WritesCell (es : List StaticEvent) (s : List Bool) (c n : ℕ) : Type 0 where
  pub event : StaticEvent
  pub there : IsAt es n event
  pub happens : value s event.guard ≡ true
  pub writes : is_write event.kind ≡ true
  pub same_cell : event.cell ≡ c

-- the nodes are the cell's writes that happen, each once, in the order of the true atoms
pub record IsOrderOfNodes (es : List StaticEvent) (atoms : List Atom) (s : List Bool) (c : ℕ) (nodes : List ℕ) : Type 0 where
  pub once : (i j n : ℕ) → slice_get nodes i ≡ Some n → slice_get nodes j ≡ Some n → i ≡ j
  pub sound : (n : ℕ) → Contains nodes n → WritesCell es s c n
  pub complete : (n : ℕ) → WritesCell es s c n → Contains nodes n
  pub ordered : (i j w v : ℕ) → slice_get nodes i ≡ Some w → slice_get nodes j ≡ Some v → (i < j) ↔ IsBefore atoms s w v

-- ---- what orders it

-- the initial write of a cell
abbrev pub IsInitialOf : List StaticEvent → ℕ → ℕ → Type 0
IsInitialOf es c n = IsKindOf es Initial c n

-- no cell has two initial writes
abbrev pub HasOneInitial : List StaticEvent → Type 0
HasOneInitial es = (c a b : ℕ) → IsInitialOf es c a → IsInitialOf es c b → a ≡ b

-- initial writes happen
abbrev pub InitialsHappen : List StaticEvent → List Bool → Type 0
InitialsHappen es s = (n : ℕ) (e : StaticEvent) → IsAt es n e → e.kind ≡ Initial → value s e.guard ≡ true

-- a problem with the order atoms of events and their clauses; no other atom of it orders writes or tells a source
pub record OrdersEvents (m : MemoryModel) (es : List StaticEvent) (words : List (List Lit)) (p : Problem) : Type 0 where
  pub old : Formula
  pub new : Formula
  pub order_atoms : List Atom
  pub creates : List Edge
  pub orders : IsOrderOf m es words old new order_atoms creates
  pub more : List (List Lit)
  pub clauses : p.clauses ≡ new.clauses ++ more
  pub others : List Atom
  pub atoms : p.atoms ≡ order_atoms ++ others
  pub others_plain : (a : Atom) → Contains others a → a.kind ≡ Plain
