use Rattle.std.proofs.Common.{◌≡◌, ◌-◌, []}
use Rattle.emit_steps.specs.Pieces.{cells_where}
use Rattle.emit_steps.proofs.state.Emitter.cells_where.Given as goal

abbrev pub invariant-loop-j : goal.invariant-loop-j
invariant-loop-j l = cells_where l.cells l.own l.guard l.index l.first l.j (l.count - l.j) l.self ≡ cells_where [] l.own l.guard l.index l.first 0 l.count l.fn.self
