use Rattle.std.proofs.Common.{◌≡◌, drop}
use Rattle.c_rules.specs.Names as names
use Rattle.c_rules.proofs.scope.variable_in.Given as goal

abbrev pub invariant-loop-entry : goal.invariant-loop-entry
invariant-loop-entry l = names.or_else (names.variable_in (drop l.entry-index l.entries) l.name) l.found ≡ names.variable_in l.entries l.name
