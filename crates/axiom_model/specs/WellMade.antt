-- When an execution fits a program.
use Rattle.std.specs.Prelude.{◌≡◌, ◌≢◌, ℕ, ◌<◌, ◌^◌, List, ◌∷◌, true, false, Some, length, slice_get, All, AllPairs}
use Rattle.axiom_model.specs.declared.Action.TheVariants.{Read, Write, Create, Join}
use Rattle.axiom_model.specs.declared.Event.{Event}
use Rattle.axiom_model.specs.declared.Event.TheVariants.{Initial, At}
use Rattle.axiom_model.specs.declared.RfPair.{RfPair}
use Rattle.axiom_model.specs.Execution.{Thread, Execution, action_at}

-- what a program gives the model: how many functions it has, which is main, and each cell's initial value
pub record Shape : Type 0 where
  pub functions : ℕ
  pub main : ℕ
  pub initials : List ℕ

-- the event writes the value to the cell
abbrev pub Writes : Shape → Execution → Event → ℕ → ℕ → Type 0
Writes s x Initial c v = slice_get s.initials c ≡ Some v
Writes s x (At h i) c v = action_at x (At h i) ≡ Some (Write c v)

-- there is a thread with this handle of which P holds
abbrev pub SomeThread : Execution → ℕ → (Thread → Type 0) → Type 0
SomeThread x h P = (k : ℕ) × (t : Thread) × (slice_get x.threads k ≡ Some t) × (t.handle ≡ h) × P t

-- the read of v from c is the reader of exactly one pair, whose source writes v to c
pub record ReadsOnce (s : Shape) (x : Execution) (r : Event) (c v : ℕ) : Type 0 where
  pub place : ℕ
  pub source : Event
  pub pair : slice_get x.rf place ≡ Some (record { reader = r; source = source })
  pub only : (k : ℕ) (p : RfPair) → slice_get x.rf k ≡ Some p → p.reader ≡ r → k ≡ place
  pub writes : Writes s x source c v

-- the list is the initial write, then exactly the cell's writes, each once
pub record IsWriteOrder (x : Execution) (c : ℕ) (l : List Event) : Type 0 where
  pub writes : List Event
  pub initial_first : l ≡ Initial ∷ writes
  pub once : (i j : ℕ) (e : Event) → slice_get writes i ≡ Some e → slice_get writes j ≡ Some e → i ≡ j
  pub sound : (i : ℕ) (e : Event) → slice_get writes i ≡ Some e → (v : ℕ) × (action_at x e ≡ Some (Write c v))
  pub complete : (e : Event) (v : ℕ) → action_at x e ≡ Some (Write c v) → (i : ℕ) × (slice_get writes i ≡ Some e)

-- the execution is one of a program of this shape
pub record WellMade (s : Shape) (x : Execution) : Type 0 where
  -- handle 0 runs main with argument 0
  pub has_main : SomeThread x 0 (λ t. (t.function ≡ s.main) × (t.arg ≡ 0))
  -- handles rise strictly
  pub rising : AllPairs (λ t u. t.handle < u.handle) x.threads
  -- each function is one of the program, and handles stay below 2^24
  pub known : All (λ t. (t.function < s.functions) × (t.handle < 2 ^ 24)) x.threads
  -- no thread made a choice that no execution makes
  pub none_bad : All (λ t. t.bad ≡ false) x.threads
  -- each thread but main has a Create with its handle, function and argument
  pub created : All (λ t. t.handle ≢ 0 → (e : Event) × (action_at x e ≡ Some (Create t.handle t.function t.arg))) x.threads
  -- each Create's handle is among the threads
  pub creates : (e : Event) (h f v : ℕ) → action_at x e ≡ Some (Create h f v) → SomeThread x h (λ t. Unit {0})
  -- each read has its one source
  pub reads : (e : Event) (c v : ℕ) → action_at x e ≡ Some (Read c v) → ReadsOnce s x e c v
  -- each reader is a read
  pub readers : All (λ p. (c : ℕ) × (v : ℕ) × (action_at x p.reader ≡ Some (Read c v))) x.rf
  -- there is one list per cell, and it is an order of the cell's writes
  pub lists : length x.co ≡ length s.initials
  pub orders : (c : ℕ) (l : List Event) → slice_get x.co c ≡ Some l → IsWriteOrder x c l
  -- each Join names a thread other than main that came to its end
  pub joins : (e : Event) (h : ℕ) → action_at x e ≡ Some (Join h) → (h ≢ 0) × SomeThread x h (λ t. t.ended ≡ true)
