use Rattle.std.proofs.Common.{◌≡◌, ◌++◌, drop}
use Rattle.cond_lower.specs.Rule as rule
use Rattle.cond_lower.proofs.rule.cond_names.Given as goal

abbrev pub invariant-loop-node : goal.invariant-loop-node
invariant-loop-node l = l.names ++ rule.cond_names (drop l.node-index l.nodes) ≡ rule.cond_names l.nodes
