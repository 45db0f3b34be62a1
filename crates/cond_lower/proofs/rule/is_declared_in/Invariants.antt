use Rattle.std.proofs.Common.{◌≡◌, drop}
use Rattle.cond_lower.specs.Rule as rule
use Rattle.cond_lower.proofs.rule.is_declared_in.Given as goal

abbrev pub invariant-loop-node : goal.invariant-loop-node
invariant-loop-node l = rule.is_declared_in (drop l.node-index l.nodes) l.name ≡ rule.is_declared_in l.nodes l.name
