use Rattle.std.proofs.Common.{◌≡◌, drop, map}
use Rattle.c_rules.specs.Walk as walk
use Rattle.c_rules.specs.Passes.{Extends, pass_walk}
use Rattle.c_rules.proofs.rules.Pass.+statement.Given as goal

abbrev pub invariant-sequence-loop-stmt : goal.invariant-sequence-loop-stmt
invariant-sequence-loop-stmt l = record {
  found : walk.in_turn (pass_walk l.self.rule l.self.items.now) (map (walk.walk (pass_walk l.self.rule l.self.items.now)) (drop l.stmt-index l.body)) l.scope ≡ walk.in_turn (pass_walk l.self.rule l.self.items.now) (map (walk.walk (pass_walk l.self.rule l.self.items.now)) l.body) l.fn.scope;
  grown : Extends l.fn.scope l.scope;
}
