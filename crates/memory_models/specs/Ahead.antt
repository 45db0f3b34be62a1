-- What the pass over the events, from the last to the first, keeps.
use Rattle.std.specs.Prelude.{◌≡◌, ℕ, ◌+◌, ◌*◌, ◌<◌, ◌≤◌, ◌⊎◌, List, true, false, Option, Some, length, Contains}
use Rattle.axiom_model.specs.declared.MemoryModel.{MemoryModel}
use Rattle.axiom_model.specs.declared.MemoryModel.TheVariants.{Pso}
use Rattle.cnf_problem.specs.declared.problem.Graph.{Graph}
use Rattle.cnf_problem.specs.declared.problem.Graph.TheVariants.{Local, Global}
use Rattle.cnf_problem.specs.declared.problem.Edge.{Edge}
use Rattle.memory_models.specs.declared.StaticEvent.{StaticEvent}
use Rattle.memory_models.specs.declared.FenceEdge.{FenceEdge}
use Rattle.memory_models.specs.declared.role.Role.TheVariants.{Reader, Writer, Fence}
use Rattle.memory_models.specs.Events.{IsAt, OneThread, OneBlock}
use Rattle.memory_models.specs.Keeping.{edge, FixedWay, OnOneCell, GoesOn, IsFenceOf, is_access, globals, fence_globals}
use Rattle.memory_models.specs.Roles.{role_of, is_strong}

-- b stands behind a in its thread
abbrev pub Later : List StaticEvent → ℕ → ℕ → Type 0
Later es a b = (a < b) × OneThread es a b

-- b is a, or stands behind a in its thread
abbrev pub From : List StaticEvent → ℕ → ℕ → Type 0
From es a b = (a ≤ b) × OneThread es a b

-- the same event, or a way leads there
abbrev pub Reaches : List Edge → Graph → ℕ → ℕ → Type 0
Reaches fixed g a b = (a ≡ b) ⊎ FixedWay fixed g a b

pub record IsStrong (m : MemoryModel) (es : List StaticEvent) (n : ℕ) : Type 0 where
  pub event : StaticEvent
  pub there : IsAt es n event
  pub strong : is_strong m (role_of m n event) ≡ true

pub record IsReader (m : MemoryModel) (es : List StaticEvent) (n : ℕ) : Type 0 where
  pub event : StaticEvent
  pub there : IsAt es n event
  pub reads : role_of m n event ≡ Reader

pub record IsFull (m : MemoryModel) (es : List StaticEvent) (n : ℕ) : Type 0 where
  pub event : StaticEvent
  pub there : IsAt es n event
  pub fences : role_of m n event ≡ Fence

-- an edge that the model allows, whatever happens
abbrev pub Fits : MemoryModel → List StaticEvent → Graph → ℕ → ℕ → Type 0
Fits m es Local a b = OnOneCell es a b
Fits m es Global a b = OneBlock es a b ⊎ (IsReader m es a ⊎ IsStrong m es b)

abbrev pub IsGood : MemoryModel → List StaticEvent → Edge → Type 0
IsGood m es e = GoesOn es e × Fits m es e.graph e.from e.to

-- a guarded edge that the model allows where the event that it leaves happens, which ends a block
pub record IsGoodFence (m : MemoryModel) (es : List StaticEvent) (f : FenceEdge) : Type 0 where
  pub global : f.edge.graph ≡ Global
  pub goes_on : GoesOn es f.edge
  pub full : IsFull m es f.edge.from
  pub ends : ¬ OneBlock es f.edge.from (f.edge.from + 1)
  pub guarded : IsFenceOf es f

-- how the event at a, with this event there, leads to the block that begins at b: always; only where the fence at a happens; not by
-- itself, since a block goes on behind it; or not at all, since the model lets a write wait for what is weak
pub data Serves (m : MemoryModel) (es : List StaticEvent) (fixed : List Edge) (fences : List FenceEdge) (a : ℕ) (e : StaticEvent) (b : ℕ) (f : StaticEvent) : Type 0 where
  always : FixedWay fixed Global a b → Serves m es fixed fences a e b f
  fenced : (g : FenceEdge) → Contains fences g → g.edge ≡ edge Global a g.edge.to → Reaches fixed Global g.edge.to b → role_of m a e ≡ Fence → is_strong m (role_of m b f) ≡ false → Serves m es fixed fences a e b f
  inside : OneBlock es a (a + 1) → role_of m a e ≡ Fence → is_strong m (role_of m b f) ≡ false → Serves m es fixed fences a e b f
  waits : role_of m a e ≡ Writer → is_strong m (role_of m b f) ≡ false → Serves m es fixed fences a e b f

abbrev pub AreFew : MemoryModel → ℕ → ℕ → Type 0
AreFew Pso events edges = Unit {0}
AreFew m events edges = edges ≤ 2 * events

-- the edges out of the events from place n on are there
pub record IsBuilt (m : MemoryModel) (es : List StaticEvent) (n : ℕ) (fixed : List Edge) (fences : List FenceEdge) : Type 0 where
  pub good : (e : Edge) → Contains fixed e → IsGood m es e
  pub good_fences : (f : FenceEdge) → Contains fences f → IsGoodFence m es f
  pub blocks : (a b : ℕ) → n ≤ a → a < b → OneBlock es a b → FixedWay fixed Global a b
  pub serves : (a b : ℕ) (e f : StaticEvent) → n ≤ a → Later es a b → IsAt es a e → IsAt es b f → f.block ≡ b → Serves m es fixed fences a e b f
  pub cells : (a b : ℕ) → n ≤ a → OnOneCell es a b → FixedWay fixed Local a b
  pub few : (k : ℕ) → k + n ≡ length es → AreFew m k (globals fixed + fence_globals fences)

-- one weak event at most, where only reads are weak
abbrev pub FewWeak : MemoryModel → List ℕ → Type 0
FewWeak Pso ws = Unit {0}
FewWeak m ws = length ws ≤ 1

-- what lies ahead at the places of which P holds: the next strong block, and the weak ones
pub record LiesAhead (m : MemoryModel) (es : List StaticEvent) (fixed : List Edge) (P : ℕ → Type 0) (strong : Option ℕ) (weak : List ℕ) : Type 0 where
  pub strong_there : (s : ℕ) → strong ≡ Some s → P s × IsStrong m es s
  pub weak_there : (w : ℕ) → Contains weak w → P w
  pub to_strong : (b : ℕ) (f : StaticEvent) → P b → IsAt es b f → f.block ≡ b → is_strong m (role_of m b f) ≡ true → (s : ℕ) × (strong ≡ Some s) × Reaches fixed Global s b
  pub to_weak : (b : ℕ) (f : StaticEvent) → P b → IsAt es b f → f.block ≡ b → is_strong m (role_of m b f) ≡ false → (w : ℕ) × Contains weak w × Reaches fixed Global w b
  pub few : FewWeak m weak

-- the event at place p is an access to cell c
pub record IsAccess (es : List StaticEvent) (p c : ℕ) : Type 0 where
  pub event : StaticEvent
  pub there : IsAt es p event
  pub accesses : is_access event.kind ≡ true
  pub cell_is : event.cell ≡ c

-- for each cell the next access at the places of which P holds
pub record AreNext (es : List StaticEvent) (fixed : List Edge) (P : ℕ → Type 0) (next : ℕ → Option ℕ) : Type 0 where
  pub there : (c p : ℕ) → next c ≡ Some p → P p × IsAccess es p c
  pub to_next : (b c : ℕ) → P b → IsAccess es b c → (p : ℕ) × (next c ≡ Some p) × Reaches fixed Local p b

-- what the pass has behind place n, seen from the places of which P holds
pub record Stands (m : MemoryModel) (es : List StaticEvent) (n : ℕ) (P : ℕ → Type 0) (fixed : List Edge) (fences : List FenceEdge) (strong : Option ℕ) (weak : List ℕ) (next : ℕ → Option ℕ) : Type 0 where
  pub built : IsBuilt m es n fixed fences
  pub behind : LiesAhead m es fixed P strong weak
  pub cells : AreNext es fixed P next
