use Rattle.std.proofs.Common.{◌≡◌, ◌-◌}
use Rattle.std.specs.Prelude.{replicate}
use Rattle.run_model.specs.declared.state.Need.TheVariants.{Any}
use Rattle.run_model.specs.Steps.{take_number}
use Rattle.run_model.specs.Statements.{store_from}
use Rattle.run_model.proofs.state.Runner.take_cells.Given as goal

abbrev pub invariant-loop-j : goal.invariant-loop-j
invariant-loop-j l = store_from l.local l.j (replicate (l.count - l.j) (take_number Any)) l.self ≡ store_from l.local 0 (replicate l.count (take_number Any)) l.fn.self
