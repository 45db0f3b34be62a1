use Rattle.std.proofs.Common.{◌≡◌, take, drop, []}
use Rattle.cond_lower.specs.Rule as rule
use Rattle.cond_lower.proofs.rule.first_broken.Given as goal

abbrev pub invariant-loop-number : goal.invariant-loop-number
invariant-loop-number l = rule.first_broken l.conds (take l.number l.nodes) (drop l.number l.nodes) ≡ rule.first_broken l.conds [] l.nodes
