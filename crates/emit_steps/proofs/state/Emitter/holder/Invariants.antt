use Rattle.std.proofs.Common.{◌≡◌, drop}
use Rattle.emit_steps.specs.Emitting.{holder_in}
use Rattle.emit_steps.proofs.state.Emitter.holder.Given as goal

abbrev pub invariant-loop-number : goal.invariant-loop-number
invariant-loop-number l = holder_in (drop l.number-index l.number-items) l.value ≡ holder_in l.self.numbers l.value
