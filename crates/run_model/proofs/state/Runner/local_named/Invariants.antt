use Rattle.std.proofs.Common.{◌≡◌, drop}
use Rattle.c_rules.specs.Names.{or_else}
use Rattle.run_model.specs.declared.state.Local.{Local}
use Rattle.run_model.specs.Names.{last_named}
use Rattle.run_model.specs.Cells.{local_named}
use Rattle.run_model.proofs.state.Runner.local_named.Given as goal

abbrev pub invariant-loop-i : goal.invariant-loop-i
invariant-loop-i l = or_else (last_named (λ (x : Local). x.name) l.i (drop l.i l.local-items) l.name) l.found ≡ local_named l.self.locals l.name
