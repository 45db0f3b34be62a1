use Rattle.std.proofs.Common.{◌≡◌, drop}
use Rattle.c_rules.specs.Types as types
use Rattle.c_rules.proofs.declared.broken_param.Given as goal

abbrev pub invariant-loop-param : goal.invariant-loop-param
invariant-loop-param l = types.broken_param (drop l.param-index l.params) ≡ types.broken_param l.params
