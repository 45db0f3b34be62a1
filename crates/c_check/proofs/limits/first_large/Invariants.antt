use Rattle.std.proofs.Common.{◌≡◌, drop}
use Rattle.c_rules.specs.Names.{or_else}
use Rattle.c_check.specs.Limits.{first_large}
use Rattle.c_check.proofs.limits.first_large.Given as goal

abbrev pub invariant-loop-declarator : goal.invariant-loop-declarator
invariant-loop-declarator l = or_else l.found (first_large (drop l.declarator-index l.declarators)) ≡ first_large l.declarators
