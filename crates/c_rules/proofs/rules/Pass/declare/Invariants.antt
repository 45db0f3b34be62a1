use Rattle.std.proofs.Common.{◌≡◌, drop}
use Rattle.c_rules.specs.Walk as walk
use Rattle.c_rules.specs.Passes.{Extends, pass_walk}
use Rattle.c_rules.proofs.rules.Pass.declare.Given as goal

abbrev pub invariant-loop-declarator : goal.invariant-loop-declarator
invariant-loop-declarator l = record {
  found : walk.declarators (pass_walk l.self.rule l.self.items.now) l.word (drop l.declarator-index l.declarators) l.scope ≡ walk.declarators (pass_walk l.self.rule l.self.items.now) l.word l.declarators l.fn.scope;
  scope : walk.declare_all l.word (drop l.declarator-index l.declarators) l.scope ≡ walk.declare_all l.word l.declarators l.fn.scope;
  grown : Extends l.fn.scope l.scope;
}
