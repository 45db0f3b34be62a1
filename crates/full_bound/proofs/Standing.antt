-- Threads in part ended and in part still to be ended, over the events that they made.
use Rattle.std.specs.Prelude.{◌≡◌, ◌≢◌, ℕ, ◌<◌, ◌≤◌, List, [], false, Option, Some, None, ◌⊎◌, length, All}
use Rattle.dg_base.specs.declared.Place.{Place}
use Rattle.axiom_model.specs.declared.MemoryModel.{MemoryModel}
use Rattle.axiom_model.specs.declared.Action.{Action}
use Rattle.axiom_model.specs.declared.Action.TheVariants.{Create, Join, End}
use Rattle.axiom_model.specs.declared.Event.{Event}
use Rattle.axiom_model.specs.declared.Event.TheVariants.{At}
use Rattle.axiom_model.specs.WellMade.{Shape}
use Rattle.axiom_model.specs.Failing.{Run}
use Rattle.c_check.specs.declared.checked.Checked.{Checked}
use Rattle.run_model.specs.Programs.{shape_of}
use Rattle.run_model.specs.Threads.{thread_run}
use Rattle.run_laws.specs.Words.{IsWord}
use Rattle.full_bound.specs.Lone.{Memory, is_opened}
use Rattle.full_bound.specs.Alone.{CanEnd, IsThread}
use Rattle.full_bound.proofs.Worlds.{World, Exists, made_at, WritesTo, IsSound}

-- a run of the thread that uses a whole script of words, and is not Bad
pub record Ran (p : Checked) (f handle arg : ℕ) : Type 0 where
  pub script : List ℕ
  pub words : All IsWord script
  pub run : Run
  pub runs : thread_run p f handle arg script ≡ Some run
  pub all_used : run.used ≡ length script
  pub not_bad : run.bad ≡ false

-- the thread is over with these actions
pub record IsOver (p : Checked) (f handle arg : ℕ) (acts : List Action) : Type 0 where
  pub ran : Ran p f handle arg
  pub actions : ran.run.actions ≡ acts

-- the function and the argument of each handle's thread
abbrev pub Parts : Type 0
Parts = ℕ → Option (ℕ × ℕ)

-- some thread is over and fails
pub record FailsAt (p : Checked) (w : World) (who : Parts) : Type 0 where
  pub handle : ℕ
  pub function : ℕ
  pub arg : ℕ
  pub is : who handle ≡ Some (function, arg)
  pub over : IsOver p function handle arg (w.acts handle)
  pub place : Place
  pub failed : over.ran.run.failed ≡ Some place

-- threads are created, known and awaited as they are in an execution
pub record Fits (p : Checked) (m : MemoryModel) (w : World) (who : Parts) : Type 0 where
  pub sound : IsSound m (shape_of p.program) w
  pub fails : FailsAt p w who
  pub main : who 0 ≡ Some ((shape_of p.program).main, 0)
  pub none : (h : ℕ) → who h ≡ None → w.acts h ≡ []
  pub made : (h f v : ℕ) → who h ≡ Some (f, v) → h ≢ 0 → (e : Event) × (made_at w.acts e ≡ Some (Create h f v))
  pub known : (e : Event) (h f v : ℕ) → made_at w.acts e ≡ Some (Create h f v) → (it : ℕ × ℕ) × (who h ≡ Some it)
  pub joined : (e : Event) (h : ℕ) → made_at w.acts e ≡ Some (Join h) → (h ≢ 0) × ((i : ℕ) × (made_at w.acts (At h i) ≡ Some End))

-- for each cell the last write and its value, a word
pub record IsMemory (s : Shape) (w : World) (last : ℕ → Event) (mem : Memory) : Type 0 where
  pub writes : (c : ℕ) → c < length s.initials → WritesTo s w.acts (last c) c (mem c)
  pub latest : (c : ℕ) → c < length s.initials → (e : Event) (u : ℕ) → WritesTo s w.acts e c u → w.global e ≤ w.global (last c)
  pub words : (c : ℕ) → IsWord (mem c)

-- each thread is over, or stands outside of sections and can be ended alone
abbrev pub IsLive : Checked → ℕ → ℕ → ℕ → List Action → Type 0
IsLive p f handle arg acts = IsOver p f handle arg acts ⊎ ((is_opened false acts ≡ false) × CanEnd p f handle arg acts)

-- all threads below a handle are over, and each other one can be ended
pub record Stands (p : Checked) (m : MemoryModel) (w : World) (who : Parts) (from : ℕ) : Type 0 where
  pub fits : Fits p m w who
  pub threads : (h f v : ℕ) → who h ≡ Some (f, v) → (d : ℕ) × IsThread p d f h v × IsLive p f h v (w.acts h)
  pub over : (h f v : ℕ) → h < from → who h ≡ Some (f, v) → IsOver p f h v (w.acts h)

-- with a memory, and a number above all ranks
pub record Standing (p : Checked) (m : MemoryModel) (w : World) (who : Parts) (from : ℕ) : Type 0 where
  pub stands : Stands p m w who from
  pub top : ℕ
  pub below : (e : Event) → Exists w.acts e → (w.local e < top) × (w.global e < top) × (w.block e < top)
  pub last : ℕ → Event
  pub mem : Memory
  pub memory : IsMemory (shape_of p.program) w last mem
