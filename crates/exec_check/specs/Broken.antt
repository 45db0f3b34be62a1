-- The first condition that a candidate breaks, and where it is first broken.
use Rattle.std.specs.Prelude.{◌≡◌, ◌≢◌, ℕ, List, [], true, Some, None, length, slice_get}
use Rattle.axiom_model.specs.declared.Action.TheVariants.{Create}
use Rattle.axiom_model.specs.declared.Event.{Event}
use Rattle.axiom_model.specs.declared.MemoryModel.{MemoryModel}
use Rattle.axiom_model.specs.declared.ThreadPart.{ThreadPart}
use Rattle.axiom_model.specs.declared.Candidate.{Candidate}
use Rattle.axiom_model.specs.Execution.{Execution, action_at}
use Rattle.axiom_model.specs.Failing.{Run}
use Rattle.axiom_model.specs.Models.{Consistent}
use Rattle.c_check.specs.declared.checked.Checked.{Checked}
use Rattle.consistency.specs.declared.Inconsistent.{Inconsistent}
use Rattle.consistency.specs.declared.Inconsistent.TheVariants as inconsistent
use Rattle.consistency.specs.Evidence.{IsEvidence}
use Rattle.run_model.specs.Threads.{ProgramFails}
use Rattle.exec_check.specs.declared.Reject.{Reject}
use Rattle.exec_check.specs.declared.Reject.TheVariants as reject
use Rattle.exec_check.specs.First.{EachThread, FirstThread, FirstHandle, FirstEvent, FirstNumber}
use Rattle.exec_check.specs.Running.{run_told, runs_of, execution_in, acting, shape}
use Rattle.exec_check.specs.Conditions.{HasMain, IsAboveAll, IsKnown, RunsWell, IsCreated, AtAction, HasItsThread, IsSourced, HasOrder, JoinsAnEnded, HasThreads, HasRuns, HasCreates, HasChildren, HasSources, HasOrders, IsExecution}

-- the run needs a number more than the script has
abbrev pub IsShort : Checked → ThreadPart → Type 0
IsShort p t = run_told p t ≡ None

-- the run leaves numbers of the script unused
abbrev pub IsLong : Checked → ThreadPart → Type 0
IsLong p t = (r : Run) × (run_told p t ≡ Some r) × (r.used ≢ length t.script)

-- the run uses the whole script, and makes a choice that no execution makes
abbrev pub IsBad : Checked → ThreadPart → Type 0
IsBad p t = (r : Run) × (run_told p t ≡ Some r) × (r.used ≡ length t.script) × (r.bad ≡ true)

-- the first thread that does not run well, with its handle and what is wrong
abbrev pub FirstRun : Checked → (ThreadPart → Type 0) → List ThreadPart → ℕ → Type 0
FirstRun p Wrong ps h = (t : ThreadPart) × FirstThread (RunsWell p) ps t × (t.handle ≡ h) × Wrong t

-- the handle of the first Create whose handle is not among the threads
abbrev pub FirstChild : Execution → ℕ → Type 0
FirstChild x h = (e : Event) × (f : ℕ) × (v : ℕ) × FirstEvent (AtAction x (HasItsThread x)) e × (action_at x e ≡ Some (Create h f v))

-- the model does not allow the execution, as this shows
abbrev pub Forbids : Checked → MemoryModel → Candidate → Inconsistent → Type 0
Forbids p m c i = IsExecution p c × IsEvidence m (execution_in p c) i

-- no run fails an assertion, or spends a bound that is told
abbrev pub NoneFails : List Run → Type 0
NoneFails rs = (k : ℕ) (r : Run) → slice_get rs k ≡ Some r → r.failed ≡ None

-- The first broken condition of threads alone: those before it hold, and this is where it is first broken. Want of memory tells
-- nothing, and nothing else is told of threads alone.
abbrev pub ThreadsBreak : Checked → List ThreadPart → Reject → Type 0
ThreadsBreak p ts reject.MainMissing = ¬ HasMain (shape p) ts
ThreadsBreak p ts (reject.ThreadTwice h) = HasMain (shape p) ts × FirstHandle (IsAboveAll ts) ts h
ThreadsBreak p ts (reject.UnknownThread h) = HasMain (shape p) ts × EachThread (IsAboveAll ts) ts × FirstHandle (IsKnown (shape p)) ts h
ThreadsBreak p ts (reject.ScriptShort h) = HasThreads p ts × FirstRun p (IsShort p) ts h
ThreadsBreak p ts (reject.ScriptLong h) = HasThreads p ts × FirstRun p (IsLong p) ts h
ThreadsBreak p ts (reject.BadRun h) = HasThreads p ts × FirstRun p (IsBad p) ts h
ThreadsBreak p ts (reject.NoCreate h) = HasRuns p ts × FirstHandle (IsCreated (acting p ts)) ts h
ThreadsBreak p ts (reject.NoThread h) = HasCreates p ts × FirstChild (acting p ts) h
ThreadsBreak p ts reject.OutOfMemory = Unit {0}
ThreadsBreak p ts _ = ⊥

-- The first broken condition of a candidate: of its threads alone, or behind these of its sources, orders and joins, of the model,
-- or that none fails.
abbrev pub IsFirstBroken : Checked → MemoryModel → Candidate → Reject → Type 0
IsFirstBroken p m c (reject.BadSource e) = HasChildren p c.threads × FirstEvent (IsSourced (shape p) (execution_in p c)) e
IsFirstBroken p m c (reject.BadOrder n) = HasSources p c × FirstNumber (HasOrder (shape p) (execution_in p c)) n
IsFirstBroken p m c (reject.BadJoin e) =
    HasOrders p c × FirstEvent (AtAction (execution_in p c) (JoinsAnEnded (execution_in p c))) e
IsFirstBroken p m c (reject.LocalCycle l) = Forbids p m c (inconsistent.LocalCycle l)
IsFirstBroken p m c (reject.GlobalCycle l) = Forbids p m c (inconsistent.GlobalCycle l)
IsFirstBroken p m c (reject.BlockCycle l) = Forbids p m c (inconsistent.BlockCycle l)
IsFirstBroken p m c reject.NotFailing = IsExecution p c × Consistent m (execution_in p c) × NoneFails (runs_of p c.threads)
IsFirstBroken p m c e = ThreadsBreak p c.threads e

-- ---- laws

-- the answer, with any cycle that it shows left out
abbrev pub without_cycle : Reject → Reject
without_cycle (reject.LocalCycle l) = reject.LocalCycle []
without_cycle (reject.GlobalCycle l) = reject.GlobalCycle []
without_cycle (reject.BlockCycle l) = reject.BlockCycle []
without_cycle e = e

-- a failing execution breaks nothing
abbrev pub FailingBreaksNothing : Type 0
FailingBreaksNothing = (p : Checked) (m : MemoryModel) (c : Candidate) (e : Reject) → ProgramFails p m c → IsFirstBroken p m c e → e ≡ reject.OutOfMemory

-- two first broken conditions of one candidate are one, but for the cycle shown; want of memory is none
abbrev pub OneFirstBroken : Type 0
OneFirstBroken = (p : Checked) (m : MemoryModel) (c : Candidate) (e f : Reject)
    → e ≢ reject.OutOfMemory → f ≢ reject.OutOfMemory → IsFirstBroken p m c e → IsFirstBroken p m c f → without_cycle e ≡ without_cycle f
