-- What the edges are chosen by: how an event stands in its thread, and what lies ahead of it.
use Rattle.std.specs.Prelude.{◌≡◌, ℕ, ◌+◌, ◌++◌, List, [], ◌∷◌, Bool, true, false, Option, Some, None, cond, map, nat_eq}
use Rattle.axiom_model.specs.declared.MemoryModel.{MemoryModel}
use Rattle.axiom_model.specs.declared.MemoryModel.TheVariants.{Sc, Tso}
use Rattle.dg_base.specs.declared.Lit.{Lit}
use Rattle.cnf_problem.specs.declared.problem.Graph.TheVariants.{Local, Global}
use Rattle.cnf_problem.specs.declared.problem.Edge.{Edge}
use Rattle.memory_models.specs.declared.StaticEvent.{StaticEvent}
use Rattle.memory_models.specs.declared.FenceEdge.{FenceEdge}
use Rattle.memory_models.specs.declared.StaticKind.{StaticKind}
use Rattle.memory_models.specs.declared.StaticKind.TheVariants.{Read, Write}
use Rattle.memory_models.specs.declared.role.Role.{Role}
use Rattle.memory_models.specs.declared.role.Role.TheVariants.{Reader, Writer, Fence}
use Rattle.memory_models.specs.Events.{OneBlock}
use Rattle.memory_models.specs.Keeping.{edge, is_access}

-- how an action outside sections stands in its thread; under SC each holds back all that is behind it
abbrev pub role_of_kind : MemoryModel → StaticKind → Role
role_of_kind Sc k = Fence
role_of_kind m Read = Reader
role_of_kind m Write = Writer
role_of_kind m k = Fence

-- how the event at place n stands in its thread: an access in a section is part of a full fence
abbrev pub role_of : MemoryModel → ℕ → StaticEvent → Role
role_of m n e = cond (nat_eq e.block n) (role_of_kind m e.kind) Fence

-- what waits for every event before it, writes too
abbrev pub is_strong : MemoryModel → Role → Bool
is_strong m Fence = true
is_strong Tso Writer = true
is_strong m r = false

abbrev pub is_reader : Role → Bool
is_reader Reader = true
is_reader r = false

-- the edges out of an event to the strong one ahead
abbrev pub to_strong : ℕ → Option ℕ → List Edge
to_strong n None = []
to_strong n (Some s) = edge Global n s ∷ []

abbrev pub fence : Lit → ℕ → ℕ → FenceEdge
fence guard n w = record { edge = edge Global n w; guard = guard }

-- the edges out of an event to the weak ones ahead: out of a read always, out of a fence where it happens, out of a write none
abbrev pub to_weak : Role → ℕ → List ℕ → List Edge
to_weak Reader n ws = map (edge Global n) ws
to_weak r n ws = []

abbrev pub fenced_to_weak : Role → Lit → ℕ → List ℕ → List FenceEdge
fenced_to_weak Fence guard n ws = map (fence guard n) ws
fenced_to_weak r guard n ws = []

-- the edge to the next access of the cell
abbrev pub to_next : ℕ → Option ℕ → List Edge
to_next n None = []
to_next n (Some p) = edge Local n p ∷ []

-- the edge out of the event at place n to the next access of its cell, where it is an access
abbrev pub cell_edges : ℕ → StaticEvent → (ℕ → Option ℕ) → List Edge
cell_edges n e next = cond (is_access e.kind) (to_next n (next e.cell)) []

-- the next access of each cell, from place n on
abbrev pub next_from : ℕ → StaticEvent → (ℕ → Option ℕ) → ℕ → Option ℕ
next_from n e next c = cond (is_access e.kind) (cond (nat_eq e.cell c) (Some n) (next c)) (next c)

-- the next strong block from place n on, and the weak ones: a read hides the weak events behind it
abbrev pub strong_from : MemoryModel → ℕ → StaticEvent → Option ℕ → Option ℕ
strong_from m n e strong = cond (nat_eq e.block n) (cond (is_strong m (role_of m n e)) (Some n) strong) strong

abbrev pub weak_from : MemoryModel → ℕ → StaticEvent → List ℕ → List ℕ
weak_from m n e weak =
    cond (nat_eq e.block n) (cond (is_strong m (role_of m n e)) weak (cond (is_reader (role_of m n e)) (n ∷ []) (weak ++ n ∷ []))) weak

-- the global edges out of the event at place n: to the next of its block, or out of the block to what lies ahead
pub record AreOut (es : List StaticEvent) (n : ℕ) (e : StaticEvent) (role : Role) (strong : Option ℕ) (weak : List ℕ) (fixed now : List Edge) (fences fences_now : List FenceEdge) : Type 0 where
  pub inner : OneBlock es n (n + 1) → (now ≡ fixed ++ edge Global n (n + 1) ∷ []) × (fences_now ≡ fences)
  pub leaves : (¬ OneBlock es n (n + 1)) → (now ≡ (fixed ++ to_strong n strong) ++ to_weak role n weak) × (fences_now ≡ fences ++ fenced_to_weak role e.guard n weak)
