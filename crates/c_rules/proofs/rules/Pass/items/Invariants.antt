use Rattle.std.proofs.Common.{◌≡◌, drop}
use Rattle.c_rules.specs.Walk as walk
use Rattle.c_rules.specs.Passes.{pass_walk}
use Rattle.c_rules.proofs.rules.Pass.items.Given as goal

abbrev pub invariant-loop-item : goal.invariant-loop-item
invariant-loop-item l = walk.walk_items (pass_walk l.self.rule l.self.items.now) (drop l.item-index l.item-items) l.scope ≡ walk.walk_items (pass_walk l.self.rule l.self.items.now) l.self.items.now l.fn.scope
