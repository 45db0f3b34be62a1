use Rattle.std.proofs.Common.{◌≡◌, drop}
use Rattle.cond_lower.specs.Rule as rule
use Rattle.cond_lower.proofs.rule.has_name.Given as goal

abbrev pub invariant-loop-other : goal.invariant-loop-other
invariant-loop-other l = rule.has_name (drop l.other-index l.names) l.name ≡ rule.has_name l.names l.name
