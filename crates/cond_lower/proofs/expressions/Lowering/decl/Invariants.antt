use Rattle.std.proofs.Common.{◌≡◌, ◌++◌, map, drop}
use Rattle.cond_lower.specs.Lowering as lowering
use Rattle.cond_lower.proofs.expressions.Lowering.decl.Given as goal

abbrev pub invariant-loop-declarator : goal.invariant-loop-declarator
invariant-loop-declarator l = l.declarators ++ map (lowering.lower_declarator l.self.wakeups) (drop l.declarator-index l.decl.declarators) ≡ map (lowering.lower_declarator l.self.wakeups) l.decl.declarators
