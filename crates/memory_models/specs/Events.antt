-- Static events: how they are listed, and which of them may happen together.
use Rattle.std.specs.Prelude.{◌≡◌, ℕ, ◌+◌, ◌<◌, ◌≤◌, List, Bool, true, Some, slice_get}
use Rattle.memory_models.specs.declared.StaticEvent.{StaticEvent}
use Rattle.memory_models.specs.declared.StaticKind.TheVariants.{Initial, Full}

-- the event at place n
abbrev pub IsAt : List StaticEvent → ℕ → StaticEvent → Type 0
IsAt es n e = slice_get es n ≡ Some e

-- an action of a thread is at place n
pub record IsOfThread (es : List StaticEvent) (n : ℕ) (e : StaticEvent) : Type 0 where
  pub there : IsAt es n e
  pub acts : ¬ (e.kind ≡ Initial)

-- both places are of actions of one thread
pub record OneThread (es : List StaticEvent) (a b : ℕ) : Type 0 where
  pub first : StaticEvent
  pub second : StaticEvent
  pub is_first : IsOfThread es a first
  pub is_second : IsOfThread es b second
  pub same : first.instance ≡ second.instance

-- both places are of one block
pub record OneBlock (es : List StaticEvent) (a b : ℕ) : Type 0 where
  pub first : StaticEvent
  pub second : StaticEvent
  pub is_first : IsAt es a first
  pub is_second : IsAt es b second
  pub same : first.block ≡ second.block

-- the section whose first event is o has its last at c
pub record IsSection (es : List StaticEvent) (o c : ℕ) : Type 0 where
  pub later : o < c
  pub one : OneBlock es o c
  pub opens : (e : StaticEvent) → IsAt es o e → e.block ≡ o
  pub closes : ¬ OneBlock es o (c + 1)

-- What is known of a list of static events: the initial writes come first, and then the threads one after another. The block of an
-- event is its own number, or that of the full fence with which an unbroken run of events of its thread begins, and which ends with
-- a full fence.
pub record AreStatic (es : List StaticEvent) : Type 0 where
  pub initials_first : (a b : ℕ) (e f : StaticEvent) → a < b → IsAt es a e → IsAt es b f → f.kind ≡ Initial → e.kind ≡ Initial
  pub threads_apart : (a b c : ℕ) (f : StaticEvent) → a < b → b < c → OneThread es a c → IsAt es b f → OneThread es a b
  pub own_or_before : (n : ℕ) (e : StaticEvent) → IsAt es n e → e.block ≤ n
  pub heads : (n : ℕ) (e f : StaticEvent) → IsAt es n e → IsAt es e.block f → f.block ≡ e.block
  pub unbroken : (a b : ℕ) (e f : StaticEvent) → IsAt es b e → e.block ≤ a → a < b → IsAt es a f → f.block ≡ e.block
  pub of_thread : (n : ℕ) (e : StaticEvent) → IsAt es n e → e.block < n → OneThread es e.block n
  pub begins : (o c : ℕ) (e : StaticEvent) → IsSection es o c → IsAt es o e → e.kind ≡ Full
  pub ends : (o c : ℕ) (e : StaticEvent) → IsSection es o c → IsAt es c e → e.kind ≡ Full

-- Events that may happen together: a section's only with its first, and later ones of the thread only with the last of each section
-- that was begun.
pub record IsPossible (es : List StaticEvent) (happens : ℕ → Bool) : Type 0 where
  pub inside : (n : ℕ) (e : StaticEvent) → IsAt es n e → happens n ≡ true → happens e.block ≡ true
  pub behind : (o c n : ℕ) → IsSection es o c → OneThread es o n → c < n → happens n ≡ true → happens o ≡ true → happens c ≡ true
