use Rattle.std.proofs.Common.{◌≡◌, drop}
use Rattle.c_rules.specs.Names.{or_else}
use Rattle.run_model.specs.Names.{last_named}
use Rattle.emit_steps.specs.declared.state.Variable.{Variable}
use Rattle.emit_steps.proofs.state.Emitter.variable_named.Given as goal

abbrev pub invariant-loop-i : goal.invariant-loop-i
invariant-loop-i l = or_else (last_named (λ (x : Variable). x.name) l.i (drop l.i l.variable-items) l.name) l.found ≡ last_named (λ (x : Variable). x.name) 0 l.self.scope l.name
