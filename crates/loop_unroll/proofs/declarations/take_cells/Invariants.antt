use Rattle.std.proofs.Common.{◌≡◌, ◌-◌}
use Rattle.loop_unroll.specs.Stating.{take_cells}
use Rattle.loop_unroll.proofs.declarations.take_cells.Given as goal

abbrev pub invariant-loop-local : goal.invariant-loop-local
invariant-loop-local l = take_cells l.guard l.local (l.end - l.local) l.emitter ≡ take_cells l.guard l.first l.count l.fn.emitter
