-- The run of a thread, and the failing executions of a program.
use Rattle.std.specs.Prelude.{ℕ, zero, suc, ◌+◌, List, [], ◌∷◌, ◌++◌, unwrap_or, Bool, true, false, cond, Option, Some, None, length, codes, slice_get, nat_eq}
use Rattle.std.specs.List.{starts_with}
use Rattle.dg_base.specs.declared.Place.{Place}
use Rattle.axiom_model.specs.declared.Action.{Action}
use Rattle.axiom_model.specs.declared.Action.TheVariants.{Start}
use Rattle.axiom_model.specs.declared.MemoryModel.{MemoryModel}
use Rattle.axiom_model.specs.declared.Candidate.{Candidate}
use Rattle.axiom_model.specs.Failing.{Run, Runs, AllowedExecution, FailingExecution}
use Rattle.c_tree.specs.declared.program.Param.{Param}
use Rattle.c_tree.specs.declared.program.Function.{Function}
use Rattle.c_tree.specs.Operators.{word_unsigned}
use Rattle.c_check.specs.declared.checked.Checked.{Checked}
use Rattle.run_model.specs.declared.state.Ending.{Ending}
use Rattle.run_model.specs.declared.state.Ending.TheVariants.{Ended, Failed, Bound, Bad}
use Rattle.run_model.specs.declared.state.Flow.{Flow}
use Rattle.run_model.specs.declared.state.Flow.TheVariants.{Returned}
use Rattle.run_model.specs.declared.state.Halt.TheVariants.{Over, Short}
use Rattle.run_model.specs.declared.state.Local.{Local}
use Rattle.run_model.specs.declared.state.Need.{Need}
use Rattle.run_model.specs.Steps.{State, Outcome, Goes, Halts, Step, ◌>>=◌, ◌>>◌, pure, look, change, make, begin_section, end_section, stop}
use Rattle.run_model.specs.Calls.{Setting, Context, finish}
use Rattle.run_model.specs.Statements.{execute_all}
use Rattle.run_model.specs.Programs.{setting_of, shape_of}

-- ---- calls

abbrev pub parameter : Param → ℕ → Local
parameter p v = record { name = p.name; unsigned = word_unsigned p.word; cells = v ∷ [] }

-- the parameters of a function as locals, behind those that are there already; each has the argument of its number
abbrev pub parameters : List Local → ℕ → List Param → List ℕ → List Local
parameters done i [] vs = done
parameters done i (p ∷ ps) vs = parameters (done ++ parameter p (unwrap_or (slice_get vs i) 0) ∷ []) (i + 1) ps vs

-- the value of a body: 0 where it comes to its end
abbrev pub result_of : Flow → ℕ
result_of (Returned v) = v
result_of _ = 0

-- the body runs with its parameters as its only locals, and the caller's come back behind it
abbrev pub run_body : Context → Function → List ℕ → Step ℕ
run_body cx f args = do
  outer ← look (λ s. s.locals)
  change (λ s. record s { locals = parameters [] 0 f.params args })
  flow ← execute_all cx f.body
  change (λ s. record s { locals = outer })
  pure (result_of flow)

unfoldable pub is_atomic : Function → Bool
is_atomic f = starts_with nat_eq f.name (codes "__VERIFIER_atomic_")

abbrev pub in_section : Step ℕ → Step ℕ
in_section m = do
  begin_section
  v ← m
  end_section
  pure v

-- a call of a function whose name begins with __VERIFIER_atomic_ is a section
abbrev pub call_body : Context → Function → List ℕ → Step ℕ
call_body cx f args = cond (is_atomic f) (in_section (run_body cx f args)) (run_body cx f args)

abbrev pub with_function : Option Function → (Function → Step ℕ) → Step ℕ
with_function None m = stop
with_function (Some f) m = m f

-- what a call of a function does, where calls stand at most so deep in one another
abbrev pub call_within : ℕ → Setting → ℕ → List ℕ → Step ℕ
call_within zero g f args = stop
call_within (suc n) g f args = with_function (slice_get g.functions f) (λ h. call_body (record { setting = g; call = call_within n g }) h args)

abbrev pub context_within : ℕ → Setting → Context
context_within n g = record { setting = g; call = call_within n g }

-- ---- threads

-- Start, the body with the argument as its parameter, End; calls stand at most so deep in one another
abbrev pub thread_within : ℕ → Setting → Function → ℕ → Step ⊥
thread_within n g f arg = do
  make Start
  run_body (context_within n g) f (arg ∷ [])
  finish

-- no function leads back to itself, so calls stand at most as deep as there are functions
abbrev pub thread_steps : Setting → Function → ℕ → Step ⊥
thread_steps g f arg = thread_within (length g.functions) g f arg

-- the state in which a run begins
abbrev pub begins : List ℕ → State
begins script = record { locals = []; created = 0; depth = 0; script = script; used = 0; actions = [] }

abbrev pub outcome_of : Setting → Option Function → ℕ → List ℕ → Option (Outcome ⊥)
outcome_of g None arg script = None
outcome_of g (Some f) arg script = Some (thread_steps g f arg (begins script))

-- how the run of a function of the program goes, with a handle and an argument, on a script
abbrev pub thread_outcome : Checked → ℕ → ℕ → ℕ → List ℕ → Option (Outcome ⊥)
thread_outcome p f handle arg script = outcome_of (setting_of p handle) (slice_get (setting_of p handle).functions f) arg script

abbrev pub has_ended : Ending → Bool
has_ended Ended = true
has_ended _ = false

abbrev pub is_bad : Ending → Bool
is_bad Bad = true
is_bad _ = false

-- where a run fails: an assertion, or a loop whose bound is spent
abbrev pub failed_at : Ending → Option Place
failed_at (Failed p) = Some p
failed_at (Bound p) = Some p
failed_at _ = None

abbrev pub is_bound : Ending → Bool
is_bound (Bound p) = true
is_bound _ = false

-- a run that is over, by its actions, its ending and how many numbers it used
abbrev pub run_with : List Action → Ending → ℕ → Run
run_with actions e used = record { actions = actions; ended = has_ended e; bad = is_bad e; failed = failed_at e; bound = is_bound e; used = used }

abbrev pub run_in : Option (Outcome ⊥) → Option Run
run_in None = None
run_in (Some (Goes v s)) = absurd v
run_in (Some (Halts (Over e) s)) = Some (run_with s.actions e s.used)
run_in (Some (Halts (Short n) s)) = None

-- a run that needs a number which the script does not have: the actions so far, the numbers used, and what the next one is for
pub record ShortRun : Type 0 where
  pub actions : List Action
  pub used : ℕ
  pub needs : Need

abbrev pub short_in : Option (Outcome ⊥) → Option ShortRun
short_in None = None
short_in (Some (Goes v s)) = absurd v
short_in (Some (Halts (Over e) s)) = None
short_in (Some (Halts (Short n) s)) = Some (record { actions = s.actions; used = s.used; needs = n })

-- the run of a function on a script; none where the script is too short
abbrev pub thread_run : Checked → Runs
thread_run p f handle arg script = run_in (thread_outcome p f handle arg script)

-- the same, where the script is too short
abbrev pub short_run : Checked → ℕ → ℕ → ℕ → List ℕ → Option ShortRun
short_run p f handle arg script = short_in (thread_outcome p f handle arg script)

-- a candidate that is an execution of the program, and that the model allows
abbrev pub ProgramAllows : Checked → MemoryModel → Candidate → Type 0
ProgramAllows p m c = AllowedExecution (shape_of p.program) (thread_run p) m c

-- such an execution in which some thread fails
abbrev pub ProgramFails : Checked → MemoryModel → Candidate → Type 0
ProgramFails p m c = FailingExecution (shape_of p.program) (thread_run p) m c
