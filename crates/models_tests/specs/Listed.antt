-- Static events one after another: what a list of them is, seen at each event and the next.
use Rattle.std.specs.Prelude.{◌≡◌, ℕ, ◌+◌, ◌<◌, ◌≤◌, ◌⊎◌, List, length}
use Rattle.memory_models.specs.declared.StaticEvent.{StaticEvent}
use Rattle.memory_models.specs.declared.StaticKind.{StaticKind}
use Rattle.memory_models.specs.declared.StaticKind.TheVariants.{Initial, Full}
use Rattle.memory_models.specs.Events.{IsAt}

abbrev pub IsAction : StaticKind → Type 0
IsAction k = ¬ (k ≡ Initial)

-- f begins a block behind e, at place n: initial writes stand first, and the threads in the order of their numbers
pub record Begins (n : ℕ) (e f : StaticEvent) : Type 0 where
  pub own : f.block ≡ n + 1
  pub initial : f.kind ≡ Initial → e.kind ≡ Initial
  pub rising : IsAction e.kind → IsAction f.kind → e.instance ≤ f.instance
  pub ended : e.block < n → e.kind ≡ Full

-- f goes on with the block of e, at place n
pub record GoesOnWith (n : ℕ) (e f : StaticEvent) : Type 0 where
  pub same : f.block ≡ e.block
  pub acts : IsAction e.kind
  pub next_acts : IsAction f.kind
  pub thread : e.instance ≡ f.instance
  pub begun : e.block ≡ n → e.kind ≡ Full

-- f may stand behind e, at place n
abbrev pub Follows : ℕ → StaticEvent → StaticEvent → Type 0
Follows n e f = Begins n e f ⊎ GoesOnWith n e f

-- the event at place n stands rightly there, and before the next; the last section has its end
pub record IsPlaced (es : List StaticEvent) (n : ℕ) : Type 0 where
  pub first : (e : StaticEvent) → IsAt es n e → n ≡ 0 → e.block ≡ 0
  pub follow : (e f : StaticEvent) → IsAt es n e → IsAt es (n + 1) f → Follows n e f
  pub last : (e : StaticEvent) → IsAt es n e → n + 1 ≡ length es → e.block < n → e.kind ≡ Full
