use Rattle.std.proofs.Common.{◌≡◌, drop}
use Rattle.c_rules.specs.Scopes as scopes
use Rattle.c_rules.proofs.items.is_param.Given as goal

abbrev pub invariant-loop-param : goal.invariant-loop-param
invariant-loop-param l = scopes.is_param (drop l.param-index l.params) l.name ≡ scopes.is_param l.params l.name
