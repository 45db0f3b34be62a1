-- The three models: sequential consistency, total store order, partial store order.
use Rattle.std.specs.Prelude.{◌≡◌, ℕ, Bool, true, false, Some}
use Rattle.axiom_model.specs.declared.MemoryModel.{MemoryModel}
use Rattle.axiom_model.specs.declared.MemoryModel.TheVariants.{Sc, Tso, Pso}
use Rattle.axiom_model.specs.declared.Action.{Action}
use Rattle.axiom_model.specs.declared.Action.TheVariants.{Read, Write, Create, Join, Start, End}
use Rattle.axiom_model.specs.declared.Event.{Event}
use Rattle.axiom_model.specs.declared.Event.TheVariants.{Initial}
use Rattle.axiom_model.specs.Cycles.{NoCycle}
use Rattle.axiom_model.specs.Execution.{Execution, action_at, IsOf, SameThread, Ordered, LocalPo, Rf, Co, Fr, SameBlock}

-- which pairs of program order a model keeps: TSO all but a write before a read, PSO all but a write before a read or a write. So an action that is neither a read nor a write is a full fence under each
abbrev pub keeps : MemoryModel → Action → Action → Bool
keeps Tso (Write c v) (Read d w) = false
keeps Pso (Write c v) (Read d w) = false
keeps Pso (Write c v) (Write d w) = false
keeps _ _ _ = true

-- the order that a model keeps, whatever the values
pub data Kept (m : MemoryModel) (x : Execution) : Event → Event → Type 0 where
  -- a pair of program order that the model keeps
  in_thread : {a b : Event} → Ordered x (λ p q. keeps m p q ≡ true) a b → Kept m x a b
  -- program order inside a section
  in_section : {a b : Event} → Ordered x (λ p q. Unit {0}) a b → SameBlock x a b → Kept m x a b
  -- a Create before its thread's Start
  creates : {a b : Event} {h f v : ℕ} → action_at x a ≡ Some (Create h f v) → action_at x b ≡ Some Start → IsOf h b → Kept m x a b
  -- an End before the Joins of its handle
  joins : {a b : Event} {h : ℕ} → action_at x a ≡ Some End → IsOf h a → action_at x b ≡ Some (Join h) → Kept m x a b
  -- an initial write before every action
  initial : {b : Event} {q : Action} → action_at x b ≡ Some q → Kept m x Initial b

-- the sources that all threads see at once: all under SC, those of another thread under TSO and PSO
abbrev pub GlobalRf : MemoryModel → Execution → Event → Event → Type 0
GlobalRf Sc x s r = Rf x s r
GlobalRf Tso x s r = Rf x s r × ¬ SameThread s r
GlobalRf Pso x s r = Rf x s r × ¬ SameThread s r

-- the edges of the local condition: program order on one cell, reads-from, coherence, from-read
pub data LocalEdge (x : Execution) : Event → Event → Type 0 where
  po : {a b : Event} → LocalPo x a b → LocalEdge x a b
  rf : {a b : Event} → Rf x a b → LocalEdge x a b
  co : {a b : Event} (c : ℕ) → Co x c a b → LocalEdge x a b
  fr : {a b : Event} → Fr x a b → LocalEdge x a b

-- the edges of the global condition: the kept order, the reads-from that all threads see at once, coherence, from-read
pub data GlobalEdge (m : MemoryModel) (x : Execution) : Event → Event → Type 0 where
  kept : {a b : Event} → Kept m x a b → GlobalEdge m x a b
  rf : {a b : Event} → GlobalRf m x a b → GlobalEdge m x a b
  co : {a b : Event} (c : ℕ) → Co x c a b → GlobalEdge m x a b
  fr : {a b : Event} → Fr x a b → GlobalEdge m x a b

-- an edge that leaves a block, and a next edge that begins in the block where it ends
abbrev pub Leaves : MemoryModel → Execution → Event × Event → Event × Event → Type 0
Leaves m x p q = GlobalEdge m x p.0 p.1 × (¬ SameBlock x p.0 p.1) × SameBlock x p.1 q.0

-- the executions that a model allows: no cycle on one cell, no cycle among all, and none between different blocks
pub record Consistent (m : MemoryModel) (x : Execution) : Type 0 where
  pub local : NoCycle (LocalEdge x)
  pub global : NoCycle (GlobalEdge m x)
  pub blocks : NoCycle (Leaves m x)
