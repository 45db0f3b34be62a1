-- What the code says of a run.
use Rattle.std.specs.Prelude.{◌≡◌, ℕ, List, Option, Some, option_map, Result, Ok, Err, length}
use Rattle.axiom_model.specs.Failing.{Run}
use Rattle.c_rules.specs.Names.{functions_of}
use Rattle.run_model.specs.Steps.{State, Outcome, Goes, Halts}
use Rattle.run_model.specs.Calls.{Setting, Context, no_other}
use Rattle.run_model.specs.Threads.{ShortRun, context_within, run_with, run_in, short_in}
use Rattle.run_model.specs.declared.state.Stop.{Stop}
use Rattle.run_model.specs.declared.state.Stop.TheVariants.{Halted, OutOfMemory}
use Rattle.run_model.specs.declared.table.Table.{Table}
use Rattle.run_model.specs.declared.thread.RunStop.{RunStop}
use Rattle.run_model.specs.declared.thread.RunStop.TheVariants as stop
use Rattle.run_model.specs.declared.thread.ThreadRun.{ThreadRun}

-- how a run stops; want of memory tells nothing
abbrev pub Stops : {A : Type 0} → Stop → State → Outcome A → Type 0
Stops (Halted h) s o = Halts h s ≡ o
Stops OutOfMemory s o = Unit {0}

-- what a call that may stop gives of a run
abbrev pub Gives : {A : Type 0} → Result A Stop → State → Outcome A → Type 0
Gives (Ok v) s o = Goes v s ≡ o
Gives (Err e) s o = Stops e s o

abbrev pub setting_at : Table → Setting
setting_at t = record { shared = t.shared.now; functions = functions_of t.items.now; turns = t.turns; full = t.full; handle = t.handle; other = no_other }

-- the context of a table
abbrev pub context_at : Table → Context
context_at t = context_within t.calls (setting_at t)

-- the run that is told
abbrev pub run_of : ThreadRun → Run
run_of r = run_with r.actions r.ending r.used

-- how many numbers a run used for which the script is too short
abbrev pub short_used : Option ShortRun → Option ℕ
short_used o = option_map (λ s. s.used) o

-- why no run is told: the script is too short, and the run used all of its numbers
abbrev pub IsShort : List ℕ → Option ShortRun → RunStop → Type 0
IsShort script o (stop.ScriptShort n) = (n ≡ length script) × (short_used o ≡ Some n)
IsShort script o stop.OutOfMemory = Unit {0}

-- what is told of a run
abbrev pub Tells : Option (Outcome ⊥) → Result ThreadRun RunStop → Type 0
Tells o (Ok r) = run_in o ≡ Some (run_of r)
Tells o (Err (stop.ScriptShort n)) = short_used (short_in o) ≡ Some n
Tells o (Err stop.OutOfMemory) = Unit {0}
