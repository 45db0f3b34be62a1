-- The lowered program has the cells and the functions of the program with condition variables, and the sections behind them.
use Rattle.std.specs.Prelude.{◌≡◌, ◌++◌, map}
use Rattle.c_tree.specs.declared.program.Program.{Program}
use Rattle.c_rules.specs.Names.{functions_of}
use Rattle.c_check.specs.Checked.{cells_of}
use Rattle.run_model.specs.Programs.{shared_of}
use Rattle.cond_lower.specs.declared.fault.Wakeups.{Wakeups}
use Rattle.cond_lower.specs.Lowering.{lowered, lower_function, added}
use Rattle.cond_runs.specs.Rows.{cond_shared, cond_infos}

-- the shared variables, each with its first cell
abbrev pub SharedAlike : Type 0
SharedAlike = (w : Wakeups) (program : Program) → shared_of (lowered w program).items ≡ cond_shared w program.items

-- the shared cells, each with the value that it begins with
abbrev pub CellsAlike : Type 0
CellsAlike = (w : Wakeups) (program : Program) → cells_of (lowered w program) ≡ cond_infos w program.items

-- the functions of the text keep their numbers, and the sections stand behind them
abbrev pub FunctionsAlike : Type 0
FunctionsAlike = (w : Wakeups) (program : Program)
    → functions_of (lowered w program).items ≡ map (lower_function w) (functions_of program.items) ++ functions_of (added w program.items)
