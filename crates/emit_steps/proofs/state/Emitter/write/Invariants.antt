use Rattle.std.proofs.Common.{◌≡◌, drop}
use Rattle.emit_steps.specs.Pieces.{write}
use Rattle.emit_steps.proofs.state.Emitter.write.Given as goal

abbrev pub invariant-loop-cell : goal.invariant-loop-cell
invariant-loop-cell l = write (drop l.cell-index l.cells) l.value l.self ≡ write l.cells l.value l.fn.self
