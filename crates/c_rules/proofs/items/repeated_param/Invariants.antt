use Rattle.std.proofs.Common.{◌≡◌, drop, take, []}
use Rattle.c_rules.specs.Scopes as scopes
use Rattle.c_rules.proofs.items.repeated_param.Given as goal

abbrev pub invariant-loop-i : goal.invariant-loop-i
invariant-loop-i l = scopes.repeated_param (take l.i l.params) (drop l.i l.params) ≡ scopes.repeated_param [] l.params
