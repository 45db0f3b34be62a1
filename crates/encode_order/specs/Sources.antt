-- The source of each read as an assignment tells it: the write with a true atom.
use Rattle.std.specs.Prelude.{◌≡◌, ℕ, List, Bool, true, Contains}
use Rattle.dg_base.specs.declared.Lit.{Lit}
use Rattle.axiom_model.specs.declared.MemoryModel.{MemoryModel}
use Rattle.cnf_problem.specs.Literals.{value}
use Rattle.cnf_problem.specs.Problems.{IsConsistent}
use Rattle.cnf_problem.specs.declared.problem.AtomKind.TheVariants.{ReadFrom}
use Rattle.cnf_problem.specs.declared.problem.Atom.{Atom}
use Rattle.cnf_problem.specs.declared.problem.Problem.{Problem}
use Rattle.memory_models.specs.declared.StaticEvent.{StaticEvent}
use Rattle.memory_models.specs.declared.StaticKind.TheVariants.{Read}
use Rattle.memory_models.specs.Events.{IsAt}
use Rattle.order_vars.specs.Holding.{SameBits}
use Rattle.encode_order.specs.Coherence.{WritesCell, HasOneInitial, OrdersEvents}

-- the atom that says that r reads from w is true
pub record MayComeFrom (atoms : List Atom) (s : List Bool) (w r : ℕ) : Type 0 where
  pub atom : Atom
  pub listed : Contains atoms atom
  pub same_kind : atom.kind ≡ ReadFrom w r
  pub holds : value s atom.lit ≡ true

-- a read of the cell that happens
pub record ReadsCell (es : List StaticEvent) (s : List Bool) (c n : ℕ) : Type 0 where
  pub event : StaticEvent
  pub there : IsAt es n event
  pub happens : value s event.guard ≡ true
  pub reads : event.kind ≡ Read
  pub same_cell : event.cell ≡ c

-- a write and a read of one cell and one value, which happen
pub record IsSource (es : List StaticEvent) (words : List (List Lit)) (s : List Bool) (w r : ℕ) : Type 0 where
  pub cell : ℕ
  pub write : WritesCell es s cell w
  pub read : ReadsCell es s cell r
  pub same_bits : SameBits s words w r

-- ---- laws

-- each read that happens has a source
abbrev pub ReadsHaveSources : Type 0
ReadsHaveSources =
    (m : MemoryModel) (es : List StaticEvent) (words : List (List Lit)) (p : Problem) (s : List Bool) → OrdersEvents m es words p → IsConsistent p s
    → (c r : ℕ) → ReadsCell es s c r → (w : ℕ) × MayComeFrom p.atoms s w r

-- it is a write of the read's cell, of the same value, that happens
abbrev pub SourcesAreWrites : Type 0
SourcesAreWrites =
    (m : MemoryModel) (es : List StaticEvent) (words : List (List Lit)) (p : Problem) (s : List Bool) → OrdersEvents m es words p → IsConsistent p s
    → (w r : ℕ) → MayComeFrom p.atoms s w r → IsSource es words s w r

-- and the only one
abbrev pub SourcesAreSingle : Type 0
SourcesAreSingle =
    (m : MemoryModel) (es : List StaticEvent) (words : List (List Lit)) (p : Problem) (s : List Bool) → OrdersEvents m es words p → IsConsistent p s → HasOneInitial es
    → (w v r : ℕ) → MayComeFrom p.atoms s w r → MayComeFrom p.atoms s v r → w ≡ v
