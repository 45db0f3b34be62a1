-- The first place at which something does not hold: among threads, among events, among numbers.
use Rattle.std.specs.Prelude.{◌≡◌, ℕ, ◌<◌, ◌⊎◌, List, Some, slice_get}
use Rattle.axiom_model.specs.declared.Event.{Event}
use Rattle.axiom_model.specs.declared.Event.TheVariants.{Initial, At}
use Rattle.axiom_model.specs.declared.ThreadPart.{ThreadPart}

-- P holds of each thread, by its place
abbrev pub EachThread : (ℕ → ThreadPart → Type 0) → List ThreadPart → Type 0
EachThread P ps = (k : ℕ) (t : ThreadPart) → slice_get ps k ≡ Some t → P k t

-- P does not hold of the thread, and it holds of each one before
pub record FirstThread (P : ℕ → ThreadPart → Type 0) (ps : List ThreadPart) (t : ThreadPart) : Type 0 where
  pub place : ℕ
  pub there : slice_get ps place ≡ Some t
  pub broken : ¬ P place t
  pub before : (k : ℕ) (u : ThreadPart) → k < place → slice_get ps k ≡ Some u → P k u

-- the handle is that of the first thread of which P does not hold
abbrev pub FirstHandle : (ℕ → ThreadPart → Type 0) → List ThreadPart → ℕ → Type 0
FirstHandle P ps h = (t : ThreadPart) × FirstThread P ps t × (t.handle ≡ h)

-- the first event comes before the second: the initial writes before all others, then by handle, then by index
abbrev pub Below : Event → Event → Type 0
Below Initial Initial = ⊥
Below Initial (At k j) = Unit {0}
Below (At h i) Initial = ⊥
Below (At h i) (At k j) = (h < k) ⊎ ((h ≡ k) × (i < j))

-- P does not hold of the event, and it holds of each one before
pub record FirstEvent (P : Event → Type 0) (e : Event) : Type 0 where
  pub broken : ¬ P e
  pub before : (f : Event) → Below f e → P f

-- P does not hold of the number, and it holds of each one before
pub record FirstNumber (P : ℕ → Type 0) (n : ℕ) : Type 0 where
  pub broken : ¬ P n
  pub before : (k : ℕ) → k < n → P k
