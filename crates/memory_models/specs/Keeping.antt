-- What a model keeps of program order, and edges that stand for it.
use Rattle.std.specs.Prelude.{◌≡◌, ℕ, ◌+◌, ◌*◌, ◌<◌, ◌≤◌, ◌⊎◌, List, [], ◌∷◌, Bool, true, false, length, Contains, ◌↔◌, cond}
use Rattle.axiom_model.specs.declared.MemoryModel.{MemoryModel}
use Rattle.axiom_model.specs.declared.MemoryModel.TheVariants.{Tso, Pso}
use Rattle.cnf_problem.specs.declared.problem.Graph.{Graph}
use Rattle.cnf_problem.specs.declared.problem.Graph.TheVariants.{Local, Global}
use Rattle.cnf_problem.specs.declared.problem.Edge.{Edge}
use Rattle.cnf_problem.specs.Edges.{Path}
use Rattle.memory_models.specs.declared.StaticEvent.{StaticEvent}
use Rattle.memory_models.specs.declared.FenceEdge.{FenceEdge}
use Rattle.memory_models.specs.declared.StaticKind.{StaticKind}
use Rattle.memory_models.specs.declared.StaticKind.TheVariants.{Read, Write}
use Rattle.memory_models.specs.Events.{IsAt, IsOfThread, OneThread, IsSection, IsPossible}

-- which kinds a model keeps in program order; all but reads and writes are full fences
abbrev pub keeps_kinds : MemoryModel → StaticKind → StaticKind → Bool
keeps_kinds Tso Write Read = false
keeps_kinds Pso Write Read = false
keeps_kinds Pso Write Write = false
keeps_kinds m k l = true

-- the pair of program order is kept: by its kinds, or since both stand in one section
pub record IsKept (m : MemoryModel) (es : List StaticEvent) (a b : ℕ) : Type 0 where
  pub first : StaticEvent
  pub second : StaticEvent
  pub is_first : IsOfThread es a first
  pub is_second : IsOfThread es b second
  pub same : first.instance ≡ second.instance
  pub before : a < b
  pub kept : (keeps_kinds m first.kind second.kind ≡ true) ⊎ (first.block ≡ second.block)

-- and both happen
abbrev pub KeptPair : MemoryModel → List StaticEvent → (ℕ → Bool) → ℕ → ℕ → Type 0
KeptPair m es happens a b = IsKept m es a b × (happens a ≡ true) × (happens b ≡ true)

abbrev pub is_access : StaticKind → Bool
is_access Read = true
is_access Write = true
is_access _ = false

-- program order between reads and writes of one cell
pub record OnOneCell (es : List StaticEvent) (a b : ℕ) : Type 0 where
  pub first : StaticEvent
  pub second : StaticEvent
  pub is_first : IsAt es a first
  pub is_second : IsAt es b second
  pub same : first.instance ≡ second.instance
  pub before : a < b
  pub accesses : (is_access first.kind ≡ true) × (is_access second.kind ≡ true)
  pub same_cell : first.cell ≡ second.cell

abbrev pub edge : Graph → ℕ → ℕ → Edge
edge g a b = record { graph = g; from = a; to = b }

-- the edges that are there, where these events happen
pub data IsThere (fixed : List Edge) (fences : List FenceEdge) (happens : ℕ → Bool) (e : Edge) : Type 0 where
  always : Contains fixed e → IsThere fixed fences happens e
  fenced : (f : FenceEdge) → Contains fences f → f.edge ≡ e → happens e.from ≡ true → IsThere fixed fences happens e

abbrev pub Way : List Edge → List FenceEdge → (ℕ → Bool) → Graph → ℕ → ℕ → Type 0
Way fixed fences happens g a b = Path (λ x y. IsThere fixed fences happens (edge g x y)) a b

-- the edges that are always there
abbrev pub FixedWay : List Edge → Graph → ℕ → ℕ → Type 0
FixedWay fixed g a b = Path (λ x y. Contains fixed (edge g x y)) a b

-- ways between events of one thread that happen are the order that the model keeps, and on one cell program order
pub record KeepsOrder (m : MemoryModel) (es : List StaticEvent) (fixed : List Edge) (fences : List FenceEdge) (happens : ℕ → Bool) : Type 0 where
  pub global : (a b : ℕ) → OneThread es a b → happens a ≡ true → happens b ≡ true
      → Way fixed fences happens Global a b ↔ Path (KeptPair m es happens) a b
  pub local : (a b : ℕ) → OneThread es a b → happens a ≡ true → happens b ≡ true → Way fixed fences happens Local a b ↔ OnOneCell es a b

-- an edge leads from an action to a later one of the same thread
abbrev pub GoesOn : List StaticEvent → Edge → Type 0
GoesOn es e = (e.from < e.to) × OneThread es e.from e.to

-- a guarded edge leaves the event that guards it
abbrev pub IsFenceOf : List StaticEvent → FenceEdge → Type 0
IsFenceOf es f = (e : StaticEvent) × IsAt es f.edge.from e × (f.guard ≡ e.guard)

-- how many edges of the global graph there are
abbrev pub is_global : Graph → Bool
is_global Global = true
is_global Local = false

abbrev pub globals : List Edge → ℕ
globals [] = 0
globals (e ∷ es) = cond (is_global e.graph) (1 + globals es) (globals es)

abbrev pub fence_globals : List FenceEdge → ℕ
fence_globals [] = 0
fence_globals (f ∷ fs) = cond (is_global f.edge.graph) (1 + fence_globals fs) (fence_globals fs)

abbrev pub IsFew : MemoryModel → ℕ → ℕ → Type 0
IsFew Pso events edges = Unit {0}
IsFew m events edges = edges ≤ 6 * events

-- edges that stand for what the model keeps of program order, whatever happens
pub record AreStaticEdges (m : MemoryModel) (es : List StaticEvent) (fixed : List Edge) (fences : List FenceEdge) : Type 0 where
  pub exact : (happens : ℕ → Bool) → IsPossible es happens → KeepsOrder m es fixed fences happens
  -- a section hangs together, whether it happens or not
  pub opens : (o c n : ℕ) → IsSection es o c → o < n → n ≤ c → FixedWay fixed Global o n
  pub closes : (o c n : ℕ) → IsSection es o c → o ≤ n → n < c → FixedWay fixed Global n c
  pub fixed_on : (e : Edge) → Contains fixed e → GoesOn es e
  pub fences_on : (f : FenceEdge) → Contains fences f → GoesOn es f.edge × IsFenceOf es f
  pub few : IsFew m (length es) (globals fixed + fence_globals fences)
