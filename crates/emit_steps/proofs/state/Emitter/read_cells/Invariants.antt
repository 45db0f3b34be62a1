use Rattle.std.proofs.Common.{◌≡◌, drop}
use Rattle.emit_steps.specs.Pieces.{read_cells}
use Rattle.emit_steps.proofs.state.Emitter.read_cells.Given as goal

abbrev pub invariant-loop-cell : goal.invariant-loop-cell
invariant-loop-cell l = read_cells l.to (drop l.cell-index l.cells) l.self ≡ read_cells l.to l.cells l.fn.self
