-- An assignment and an execution that match: where both directions of the encoding meet. No public contract cites it.
use Rattle.std.specs.Prelude.{◌≡◌, ℕ, ◌<◌, ◌⊎◌, ◌++◌, List, Bool, true, false, Some, map, slice_get, Contains, ◌↔◌}
use Rattle.dg_base.specs.declared.Lit.{Lit}
use Rattle.axiom_model.specs.declared.Action.{Action}
use Rattle.axiom_model.specs.declared.Action.TheVariants as action
use Rattle.axiom_model.specs.declared.Event.{Event}
use Rattle.axiom_model.specs.declared.Event.TheVariants.{At}
use Rattle.axiom_model.specs.declared.MemoryModel.{MemoryModel}
use Rattle.axiom_model.specs.Execution.{Execution, action_at, IsOf, Before, Rf, Co, SameBlock}
use Rattle.axiom_model.specs.Models.{Consistent}
use Rattle.cnf_problem.specs.Literals.{value}
use Rattle.cnf_problem.specs.Edges.{IsCyclic}
use Rattle.cnf_problem.specs.declared.problem.Edge.{Edge}
use Rattle.bit_gates.specs.Words.{number}
use Rattle.memory_models.specs.declared.StaticEvent.{StaticEvent}
use Rattle.memory_models.specs.declared.StaticKind.{StaticKind}
use Rattle.memory_models.specs.declared.StaticKind.TheVariants as kind
use Rattle.memory_models.specs.declared.EventBits.{EventBits}
use Rattle.memory_models.specs.declared.FenceEdge.{FenceEdge}
use Rattle.memory_models.specs.Events.{IsAt, AreStatic, IsPossible, OneThread, OneBlock}
use Rattle.memory_models.specs.Keeping.{AreStaticEdges}
use Rattle.event_graph.specs.Laws.{happens}
use Rattle.order_vars.specs.Links.{Link, joining, IsLink, IsWriteOf}
use Rattle.order_vars.specs.Atoms.{nodes_of, atoms_of, AreCreateEdges}
use Rattle.order_vars.specs.Holding.{LinkHolds}
use Rattle.encode_match.specs.declared.Encoded.{Encoded}
use Rattle.encode_match.specs.Spelling.{IsEvent, IsBefore, ReadsFrom}
use Rattle.encode_match.specs.Parts.{fence_atom, words_of}

-- ---- the graphs

-- the Create at m is that of the thread that starts at n
pub record IsCreation (es : List StaticEvent) (m n : ℕ) : Type 0 where
  pub creating : StaticEvent
  pub starting : StaticEvent
  pub creates : IsAt es m creating
  pub starts : IsAt es n starting
  pub same_instance : creating.kind ≡ kind.Create starting.instance
  pub is_start : starting.kind ≡ kind.Start

-- it happens where that Start does, and stands before it, in an earlier thread
pub record CreatesBefore (es : List StaticEvent) (m n : ℕ) (c : IsCreation es m n) : Type 0 where
  pub same_guard : c.creating.guard ≡ c.starting.guard
  pub before : m < n
  pub apart : ¬ OneThread es m n

-- What cycles of a problem's graphs rest on, where an assignment makes its clauses true: which events there are and which edges, that
-- linked events happen where a literal of their link is true, that a thread's events happen only where its Start does, and that an
-- initial write stands at its cell's number and happens.
pub record GraphHolds (m : MemoryModel) (x : Encoded) (s : List Bool) : Type 0 where
  pub fixed : List Edge
  pub fences : List FenceEdge
  pub links : List Link
  pub create_edges : List Edge
  pub atoms : x.problem.atoms ≡ atoms_of m x.map.graph.events links ++ map fence_atom fences
  pub edges : x.problem.fixed ≡ fixed ++ create_edges
  pub nodes : x.problem.nodes ≡ nodes_of x.map.graph.events
  pub static : AreStatic x.map.graph.events
  pub possible : IsPossible x.map.graph.events (happens s x.map.graph.events)
  pub kept : AreStaticEdges m x.map.graph.events fixed fences
  pub created : AreCreateEdges x.map.graph.events create_edges
  pub tied : (l : Link) → Contains links l → IsLink x.map.graph.events l × LinkHolds s x.map.graph.events (words_of x.map.graph.bits) l
  pub creations : (a b : ℕ) (c : IsCreation x.map.graph.events a b) → CreatesBefore x.map.graph.events a b c
  pub asleep : (a b : ℕ) (t : StaticEvent) → IsAt x.map.graph.events a t → t.kind ≡ kind.Start → value s t.guard ≡ false
      → OneThread x.map.graph.events a b → happens s x.map.graph.events b ≡ false
  pub initials : (n : ℕ) (t : StaticEvent) → IsAt x.map.graph.events n t → t.kind ≡ kind.Initial → (t.cell ≡ n) × (value s t.guard ≡ true)

-- ---- actions

-- the action is this static event's, with the value that is spelled
abbrev pub ActsAs : List Bool → StaticEvent → EventBits → StaticKind → Action → Type 0
ActsAs s e b kind.Initial a = ⊥
ActsAs s e b kind.Read a = a ≡ action.Read e.cell (number s b.bits)
ActsAs s e b kind.Write a = a ≡ action.Write e.cell (number s b.bits)
ActsAs s e b kind.Full a = (a ≡ action.Open) ⊎ ((a ≡ action.Close) ⊎ (a ≡ action.Fence))
ActsAs s e b kind.Start a = a ≡ action.Start
ActsAs s e b kind.End a = a ≡ action.End
ActsAs s e b kind.Join a = a ≡ action.Join (number s b.bits)
ActsAs s e b (kind.Create i) a = (f : ℕ) × (v : ℕ) × (a ≡ action.Create (number s b.bits) f v)

-- the node is the event, which makes this action
pub record MakesAt (x : Encoded) (s : List Bool) (n : ℕ) (e : Event) (a : Action) : Type 0 where
  pub is_event : IsEvent x s n e
  pub bits : EventBits
  pub has_bits : slice_get x.map.graph.bits n ≡ Some bits
  pub acts : ActsAs s is_event.static bits is_event.static.kind a

-- the node's action in an execution
pub record IsActionOf (x : Encoded) (s : List Bool) (e : Execution) (n : ℕ) : Type 0 where
  pub event : Event
  pub act : Action
  pub makes : MakesAt x s n event act
  pub there : action_at e event ≡ Some act

-- a Create and the Start of the thread of its handle
pub record Creates (e : Execution) (a b : Event) : Type 0 where
  pub handle : ℕ
  pub function : ℕ
  pub arg : ℕ
  pub is_create : action_at e a ≡ Some (action.Create handle function arg)
  pub is_start : action_at e b ≡ Some action.Start
  pub of_handle : IsOf handle b

-- an End and a Join of its thread's handle
pub record Joins (e : Execution) (a b : Event) : Type 0 where
  pub handle : ℕ
  pub is_end : action_at e a ≡ Some action.End
  pub of_handle : IsOf handle a
  pub is_join : action_at e b ≡ Some (action.Join handle)

-- the join waits for the end: a literal that says so is true
abbrev pub WaitsFor : List Link → List Bool → ℕ → ℕ → Type 0
WaitsFor links s e j = (l : Lit) × Contains links (joining e j l) × (value s l ≡ true)

-- nodes of these events that R relates
abbrev pub AtNodes : Encoded → List Bool → (ℕ → ℕ → Type 0) → Event → Event → Type 0
AtNodes x s R a b = (m : ℕ) × (n : ℕ) × IsEvent x s m a × IsEvent x s n b × R m n

-- events of these nodes that R relates
abbrev pub AtEvents : Encoded → List Bool → (Event → Event → Type 0) → ℕ → ℕ → Type 0
AtEvents x s R m n = (a : Event) × (b : Event) × IsEvent x s m a × IsEvent x s n b × R a b

-- the cell's order, at nodes
abbrev pub CellBefore : Encoded → List Bool → ℕ → ℕ → ℕ → Type 0
CellBefore x s c w v = IsWriteOf x.map.graph.events c w × IsBefore x s w v

-- the creation, where the Create happens
abbrev pub CreatesAt : Encoded → List Bool → ℕ → ℕ → Type 0
CreatesAt x s m n = IsCreation x.map.graph.events m n × (happens s x.map.graph.events m ≡ true)

-- ---- threads

-- an assignment and an execution whose threads match: actions are nodes that happen, in their order, and blocks are blocks
pub record MatchesThreads (x : Encoded) (s : List Bool) (e : Execution) : Type 0 where
  pub nodes : (a : Event) (p : Action) → action_at e a ≡ Some p → (n : ℕ) × MakesAt x s n a p
  pub events : (n : ℕ) (t : StaticEvent) → IsAt x.map.graph.events n t → ¬ (t.kind ≡ kind.Initial) → value s t.guard ≡ true → IsActionOf x s e n
  -- an event of a thread has one node
  pub once : (m n h i : ℕ) → IsEvent x s m (At h i) → IsEvent x s n (At h i) → m ≡ n
  pub order : (m n : ℕ) (a b : Event) → IsEvent x s m a → IsEvent x s n b → Before a b ↔ (OneThread x.map.graph.events m n × (m < n))
  pub blocks : (m n h i k j : ℕ) → IsEvent x s m (At h i) → IsEvent x s n (At k j) → SameBlock e (At h i) (At k j) ↔ OneBlock x.map.graph.events m n
  pub creates : (a b : Event) → Creates e a b → AtNodes x s (CreatesAt x s) a b
  pub creates_back : (m n : ℕ) → CreatesAt x s m n → AtEvents x s (Creates e) m n

-- ---- relations

-- and the relations are the atoms that are true
pub record Matches (x : Encoded) (s : List Bool) (links : List Link) (e : Execution) : Type 0 where
  pub threads : MatchesThreads x s e
  pub rf : (w r : Event) → Rf e w r → AtNodes x s (ReadsFrom x s) w r
  pub rf_back : (m n : ℕ) → ReadsFrom x s m n → AtEvents x s (Rf e) m n
  pub co : (c : ℕ) (w v : Event) → Co e c w v → AtNodes x s (CellBefore x s c) w v
  pub co_back : (c m n : ℕ) → CellBefore x s c m n → AtEvents x s (Co e c) m n
  pub joins : (a b : Event) → Joins e a b → AtNodes x s (WaitsFor links s) a b
  pub joins_back : (m n : ℕ) → WaitsFor links s m n → AtEvents x s (Joins e) m n

-- what matches has cycles in both or in neither
abbrev pub SameCycles : MemoryModel → Encoded → List Bool → Execution → Type 0
SameCycles m x s e = Consistent m e ↔ ¬ IsCyclic x.problem (λ l. value s l ≡ true)
