use Rattle.std.proofs.Common.{◌≡◌, drop}
use Rattle.emit_steps.specs.Calling.{parameters}
use Rattle.emit_steps.proofs.state.Emitter.parameters.Given as goal

abbrev pub invariant-loop-i : goal.invariant-loop-i
invariant-loop-i l = parameters l.guard l.i (drop l.i l.params) l.values l.self ≡ parameters l.guard 0 l.params l.values l.fn.self
