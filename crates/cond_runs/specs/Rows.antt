-- The runs of a program with condition variables, and its failing executions.
use Rattle.std.specs.Prelude.{ℕ, ◌+◌, List, [], ◌∷◌, ◌++◌, map, length, Bool, true, false, cond, nat_eq, Option, Some, None, slice_get, unwrap_or, codes}
use Rattle.dg_base.specs.Values.{value_of}
use Rattle.dg_base.specs.declared.operators.Op.TheVariants as op
use Rattle.axiom_model.specs.declared.Action.TheVariants.{Read, Write, Close}
use Rattle.axiom_model.specs.declared.MemoryModel.{MemoryModel}
use Rattle.axiom_model.specs.declared.Candidate.{Candidate}
use Rattle.axiom_model.specs.WellMade.{Shape}
use Rattle.axiom_model.specs.Failing.{Runs, FailingExecution}
use Rattle.c_tree.specs.declared.stmt.Declarator.{Declarator}
use Rattle.c_tree.specs.declared.stmt.Decl.{Decl}
use Rattle.c_tree.specs.declared.program.Function.{Function}
use Rattle.c_tree.specs.declared.program.Item.{Item}
use Rattle.c_tree.specs.declared.program.Item.TheVariants as item
use Rattle.c_tree.specs.declared.program.Program.{Program}
use Rattle.c_rules.specs.Names.{Name, functions_of}
use Rattle.c_check.specs.Checked.{cells_of_declarators, cell_info}
use Rattle.c_check.specs.Limits.{cells_of_all}
use Rattle.c_check.specs.declared.checked.CellInfo.{CellInfo}
use Rattle.run_model.specs.declared.state.Ending.TheVariants.{Bad}
use Rattle.run_model.specs.declared.state.Need.TheVariants.{ReadOf}
use Rattle.run_model.specs.declared.state.Shared.{Shared}
use Rattle.run_model.specs.Names.{first_named}
use Rattle.run_model.specs.Steps.{Step, ◌>>=◌, ◌>>◌, pure, nothing, ends, make, take_number, outside, open_section, stop}
use Rattle.run_model.specs.Cells.{shared_named}
use Rattle.run_model.specs.Calls.{Meaning, Setting, argument, lock_cell, unlock_cell}
use Rattle.run_model.specs.Programs.{shared_declared}
use Rattle.run_model.specs.Threads.{ShortRun, outcome_of, run_in, short_in}
use Rattle.cond_lower.specs.declared.calls.CondCall.{CondCall}
use Rattle.cond_lower.specs.declared.calls.CondCall.TheVariants as call
use Rattle.cond_lower.specs.declared.fault.Wakeups.{Wakeups}
use Rattle.cond_lower.specs.declared.fault.Wakeups.TheVariants.{Any, Signalled}
use Rattle.cond_lower.specs.Calls.{cond_call_named, is_cond}
use Rattle.cond_lower.specs.Nodes.{name_or_none}
use Rattle.cond_lower.specs.Lowering.{waiting, tokens, lower_decl}

-- ---- cells

-- the two cells of a condition variable: how many threads wait, and how many tokens signals have given
abbrev pub cond_variables : ℕ → Declarator → List Shared
cond_variables n d =
    record { name = waiting d.name; unsigned = true; first = n; count = 1 } ∷ record { name = tokens d.name; unsigned = true; first = n + 1; count = 1 } ∷ []

-- those of declarators, behind the shared variables that are there already, where the next cell has the number n
abbrev pub conds_declared : List Shared → ℕ → List Declarator → List Shared
conds_declared done n [] = done
conds_declared done n (d ∷ ds) = conds_declared (done ++ cond_variables n d) (n + 2) ds

-- The shared variables of a declaration, and how many cells they have; a condition variable has none where waits go on freely. A
-- call on a condition variable in a size or a first value counts there as what it becomes.
abbrev pub decl_shared : Wakeups → Bool → Decl → List Shared → ℕ → List Shared
decl_shared w false d done n = shared_declared done n d.word (lower_decl w d).declarators
decl_shared Any true d done n = done
decl_shared Signalled true d done n = conds_declared done n d.declarators

abbrev pub decl_cells : Wakeups → Bool → Decl → ℕ
decl_cells w false d = cells_of_all (lower_decl w d).declarators
decl_cells Any true d = 0
decl_cells Signalled true d = length d.declarators + length d.declarators

abbrev pub cond_shared_from : Wakeups → List Shared → ℕ → List Item → List Shared
cond_shared_from w done n [] = done
cond_shared_from w done n (item.Function f ∷ xs) = cond_shared_from w done n xs
cond_shared_from w done n (item.Prototype p word name ∷ xs) = cond_shared_from w done n xs
cond_shared_from w done n (item.Shared d ∷ xs) = cond_shared_from w (decl_shared w (is_cond d.word) d done n) (n + decl_cells w (is_cond d.word) d) xs

-- the shared variables with their cells
abbrev pub cond_shared : Wakeups → List Item → List Shared
cond_shared w items = cond_shared_from w [] 0 items

abbrev pub first_cell : Option Shared → ℕ
first_cell None = 0
first_cell (Some v) = v.first

-- the cell of a shared scalar
abbrev pub cell_named : List Shared → Name → ℕ
cell_named shared n = first_cell (shared_named shared n)

-- ---- rows

-- at depth 0 a go number and Open before, and Close behind
abbrev pub as_section : Step (Unit {0}) → Step (Unit {0})
as_section m = do
  open_section
  m
  outside (make Close)

abbrev pub read_cell : ℕ → Step ℕ
read_cell c = do
  v ← take_number (ReadOf c)
  make (Read c v)
  pure v

-- a sum and a difference of 32 bits
abbrev pub sum : ℕ → ℕ → ℕ
sum a b = value_of op.Plus (a ∷ b ∷ [])

abbrev pub less : ℕ → ℕ
less a = value_of op.Minus (a ∷ 1 ∷ [])

-- one thread more waits
abbrev pub enters : ℕ → Step (Unit {0})
enters w = as_section (do
  v ← read_cell w
  make (Write w (sum v 1)))

-- a token is taken; a run that takes one where there is none is Bad
abbrev pub takes : ℕ → Step (Unit {0})
takes t = as_section (do
  v ← read_cell t
  cond (nat_eq v 0) (ends Bad) nothing
  make (Write t (less v)))

-- one waiting thread is given a token, where one waits
abbrev pub signals : ℕ → ℕ → Step (Unit {0})
signals w t = as_section (do
  v ← read_cell w
  cond (nat_eq v 0) nothing (do
    make (Write w (less v))
    u ← read_cell t
    make (Write t (sum u 1))))

-- each waiting thread is given one
abbrev pub broadcasts : ℕ → ℕ → Step (Unit {0})
broadcasts w t = as_section (do
  v ← read_cell w
  make (Write w 0)
  u ← read_cell t
  make (Write t (sum u v)))

abbrev pub inits : ℕ → ℕ → Step (Unit {0})
inits w t = as_section (make (Write w 0) >> make (Write t 0))

-- as pthread_mutex_unlock, and as pthread_mutex_lock: the index is evaluated in each
abbrev pub unlocks : Meaning → Step (Unit {0})
unlocks m = m.find >>= unlock_cell

abbrev pub locks : Meaning → Step (Unit {0})
locks m = m.find >>= lock_cell

-- a call on a condition variable with these cells, by the meaning of its second argument
abbrev pub cond_row : Wakeups → CondCall → ℕ → ℕ → Meaning → Step (Unit {0})
cond_row Any call.Wait w t m = unlocks m >> locks m
cond_row Signalled call.Wait w t m = do
  enters w
  unlocks m
  takes t
  locks m
cond_row Signalled call.Signal w t m = signals w t
cond_row Signalled call.Broadcast w t m = broadcasts w t
cond_row Signalled call.Init w t m = inits w t
cond_row _ _ w t m = nothing

abbrev pub cond_call : Wakeups → List Shared → Option CondCall → List Meaning → Step ℕ
cond_call w shared None args = stop
cond_call w shared (Some c) args = do
  cond_row w c (cell_named shared (waiting (name_or_none (argument args 0).spelled))) (cell_named shared (tokens (name_or_none (argument args 0).spelled))) (argument args 1)
  pure 0

-- ---- runs

-- what the run of a thread with this handle needs, for a bound on loops, and whether a spent bound is told
abbrev pub cond_setting : Wakeups → Program → ℕ → Bool → ℕ → Setting
cond_setting w program k full handle = record {
  shared = cond_shared w program.items;
  functions = functions_of program.items;
  turns = k;
  full = full;
  handle = handle;
  other = λ n args. cond_call w (cond_shared w program.items) (cond_call_named n) args;
}

-- the run of a function of the text on a script; none where the script is too short
abbrev pub cond_run : Wakeups → Program → ℕ → Bool → Runs
cond_run w program k full f handle arg script =
    run_in (outcome_of (cond_setting w program k full handle) (slice_get (functions_of program.items) f) arg script)

-- the same, where the script is too short
abbrev pub cond_short_run : Wakeups → Program → ℕ → Bool → ℕ → ℕ → ℕ → List ℕ → Option ShortRun
cond_short_run w program k full f handle arg script =
    short_in (outcome_of (cond_setting w program k full handle) (slice_get (functions_of program.items) f) arg script)

-- ---- executions

-- the two cells of each condition variable; they begin with 0
abbrev pub cond_cells : List Declarator → List CellInfo
cond_cells [] = []
cond_cells (d ∷ ds) = cell_info (waiting d.name) 0 ∷ cell_info (tokens d.name) 0 ∷ cond_cells ds

abbrev pub decl_infos : Wakeups → Bool → Decl → List CellInfo
decl_infos w false d = cells_of_declarators (lower_decl w d).declarators
decl_infos Any true d = []
decl_infos Signalled true d = cond_cells d.declarators

-- the shared cells with the values that they begin with
abbrev pub cond_infos : Wakeups → List Item → List CellInfo
cond_infos w [] = []
cond_infos w (item.Function f ∷ xs) = cond_infos w xs
cond_infos w (item.Prototype p word n ∷ xs) = cond_infos w xs
cond_infos w (item.Shared d ∷ xs) = decl_infos w (is_cond d.word) d ++ cond_infos w xs

-- what the memory models see of the program
abbrev pub cond_shape : Wakeups → Program → Shape
cond_shape w program = record {
  functions = length (functions_of program.items);
  main = unwrap_or (first_named (λ (f : Function). f.name) 0 (functions_of program.items) (codes "main")) 0;
  initials = map (λ (c : CellInfo). c.initial) (cond_infos w program.items);
}

-- a candidate that is an execution of the program, that the model allows, and that fails
abbrev pub CondProgramFails : Wakeups → Program → ℕ → Bool → MemoryModel → Candidate → Type 0
CondProgramFails w program k full m c = FailingExecution (cond_shape w program) (cond_run w program k full) m c
