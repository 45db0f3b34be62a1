-- What must hold of a candidate for it to be an execution of a program, condition by condition, in the order in which they are looked at.
use Rattle.std.specs.Prelude.{◌≡◌, ◌≢◌, ℕ, ◌<◌, ◌≤◌, ◌^◌, List, true, false, Some, None, length, slice_get}
use Rattle.axiom_model.specs.declared.Action.{Action}
use Rattle.axiom_model.specs.declared.Action.TheVariants.{Read, Create, Join}
use Rattle.axiom_model.specs.declared.Event.{Event}
use Rattle.axiom_model.specs.declared.RfPair.{RfPair}
use Rattle.axiom_model.specs.declared.ThreadPart.{ThreadPart}
use Rattle.axiom_model.specs.declared.Candidate.{Candidate}
use Rattle.axiom_model.specs.Execution.{Execution, action_at}
use Rattle.axiom_model.specs.WellMade.{Shape, SomeThread, ReadsOnce, IsWriteOrder}
use Rattle.axiom_model.specs.Failing.{Run, HasWords}
use Rattle.c_check.specs.declared.checked.Checked.{Checked}
use Rattle.exec_check.specs.First.{EachThread}
use Rattle.exec_check.specs.Running.{run_told, execution_in, alone, acting, shape}

-- ---- each condition

-- handle 0 runs main with argument 0
abbrev pub HasMain : Shape → List ThreadPart → Type 0
HasMain s ps = (k : ℕ) × (t : ThreadPart) × (slice_get ps k ≡ Some t) × (t.handle ≡ 0) × (t.function ≡ s.main) × (t.arg ≡ 0)

-- each thread that stands before this one has a lower handle
abbrev pub IsAboveAll : List ThreadPart → ℕ → ThreadPart → Type 0
IsAboveAll ps k t = (j : ℕ) (u : ThreadPart) → j < k → slice_get ps j ≡ Some u → u.handle < t.handle

-- the function is one of the program, and the handle is below 2^24
abbrev pub IsKnown : Shape → ℕ → ThreadPart → Type 0
IsKnown s k t = (t.function < s.functions) × (t.handle < 2 ^ 24)

-- the thread has a run, which uses the whole script and makes no choice that no execution makes
abbrev pub RunsWell : Checked → ℕ → ThreadPart → Type 0
RunsWell p k t = (r : Run) × (run_told p t ≡ Some r) × (r.used ≡ length t.script) × (r.bad ≡ false)

-- main, or some Create has the handle, function and argument
abbrev pub IsCreated : Execution → ℕ → ThreadPart → Type 0
IsCreated x k t = t.handle ≢ 0 → (e : Event) × (action_at x e ≡ Some (Create t.handle t.function t.arg))

-- what is asked of the event's action, if it has one
abbrev pub AtAction : Execution → (Event → Action → Type 0) → Event → Type 0
AtAction x P e = (a : Action) → action_at x e ≡ Some a → P e a

-- a Create's handle is among the threads
abbrev pub HasItsThread : Execution → Event → Action → Type 0
HasItsThread x e (Create h f v) = SomeThread x h (λ t. Unit {0})
HasItsThread x e _ = Unit {0}

-- a read has its one source
abbrev pub HasItsSource : Shape → Execution → Event → Action → Type 0
HasItsSource s x e (Read c v) = ReadsOnce s x e c v
HasItsSource s x e _ = Unit {0}

abbrev pub IsRead : Execution → Event → Type 0
IsRead x e = (c : ℕ) × (v : ℕ) × (action_at x e ≡ Some (Read c v))

-- if the event is a read it has its one source, and if it is the reader of a pair it is a read
pub record IsSourced (s : Shape) (x : Execution) (e : Event) : Type 0 where
  pub source : AtAction x (HasItsSource s x) e
  pub reader : (k : ℕ) (p : RfPair) → slice_get x.rf k ≡ Some p → p.reader ≡ e → IsRead x e

-- a cell has its order of writes, and there is no list behind those of the cells
pub record HasOrder (s : Shape) (x : Execution) (c : ℕ) : Type 0 where
  pub of_cell : c < length s.initials → (l : List Event) × (slice_get x.co c ≡ Some l) × IsWriteOrder x c l
  pub no_more : length s.initials ≤ c → slice_get x.co c ≡ None

-- a Join names a thread other than main that came to its end
abbrev pub JoinsAnEnded : Execution → Event → Action → Type 0
JoinsAnEnded x e (Join h) = (h ≢ 0) × SomeThread x h (λ t. t.ended ≡ true)
JoinsAnEnded x e _ = Unit {0}

-- ---- one after the other, of threads alone

-- main is there, handles rise, functions and handles are known
pub record HasThreads (p : Checked) (ts : List ThreadPart) : Type 0 where
  pub main : HasMain (shape p) ts
  pub rising : EachThread (IsAboveAll ts) ts
  pub known : EachThread (IsKnown (shape p)) ts

-- each runs well; the numbers of scripts are words, which in the code is their type
pub record HasRuns (p : Checked) (ts : List ThreadPart) : Type 0 where
  pub threads : HasThreads p ts
  pub words : HasWords (alone ts)
  pub runs : EachThread (RunsWell p) ts

pub record HasCreates (p : Checked) (ts : List ThreadPart) : Type 0 where
  pub runs : HasRuns p ts
  pub created : EachThread (IsCreated (acting p ts)) ts

pub record HasChildren (p : Checked) (ts : List ThreadPart) : Type 0 where
  pub creates : HasCreates p ts
  pub children : (e : Event) → AtAction (acting p ts) (HasItsThread (acting p ts)) e

-- ---- and of a candidate

pub record HasSources (p : Checked) (c : Candidate) : Type 0 where
  pub children : HasChildren p c.threads
  pub sources : (e : Event) → IsSourced (shape p) (execution_in p c) e

pub record HasOrders (p : Checked) (c : Candidate) : Type 0 where
  pub sources : HasSources p c
  pub orders : (n : ℕ) → HasOrder (shape p) (execution_in p c) n

pub record IsExecution (p : Checked) (c : Candidate) : Type 0 where
  pub orders : HasOrders p c
  pub joins : (e : Event) → AtAction (execution_in p c) (JoinsAnEnded (execution_in p c)) e
