use Rattle.std.proofs.Common.{◌≡◌, drop}
use Rattle.c_rules.specs.Names as names
use Rattle.c_rules.proofs.scope.is_declared.Given as goal

abbrev pub invariant-loop-entry : goal.invariant-loop-entry
invariant-loop-entry l = names.is_declared (drop l.entry-index l.entries) l.name ≡ names.is_declared l.entries l.name
