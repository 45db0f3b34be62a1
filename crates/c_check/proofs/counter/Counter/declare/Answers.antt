use Rattle.std.proofs.Common.{◌∙◌, ap, sym, subst, drop, List, ◌+◌}
use Rattle.c_tree.specs.declared.stmt.Declarator.{Declarator}
use Rattle.c_rules.specs.Names.{Scope}
use Rattle.c_rules.specs.Walk.{declare_all}
use Rattle.c_rules.specs.Passes.{Extends}
use Rattle.c_rules.proofs.Growing.{declared, further}
use Rattle.c_check.specs.Capped.{capped_sums}
use Rattle.c_check.proofs.Walking.{drop_cons}
use Rattle.c_check.proofs.Adding.{next_declared, next_whole}
use Rattle.c_check.proofs.counter.Counter.declare.Goals as goal

pub loop-declarator-preserved : goal.loop-declarator-preserved
loop-declarator-preserved c = record {
  found = next_declared c.args.self.now.k c.args.self.now.items.now c.args.self.now.table.now c.args.word c.args.declarators.now c.loop-declarator.declarator-index c.declarator-item.result
      c.loop-declarator.scope c.declarator.new.scope c.loop-declarator.found c.together-found.result _ c.loop-declarator-test.true c.declarator-item.is
      c.in_ok-counts.ensures.scope (c.together-found.ensures ∙ ap (capped_sums.together c.loop-declarator.found) c.in_ok-counts.ensures.found) c.loop-declarator.invariant.found;
  whole = next_whole c.loop-declarator.found c.together-found.result _ c.together-found.ensures;
  scope = ap (declare_all c.args.word (drop (c.loop-declarator.declarator-index + 1) c.args.declarators.now)) c.in_ok-counts.ensures.scope
      ∙ (ap (λ (l : List Declarator). declare_all c.args.word l c.loop-declarator.scope) (sym (drop_cons c.args.declarators.now c.loop-declarator.declarator-index c.declarator-item.result c.loop-declarator-test.true c.declarator-item.is))
      ∙ c.loop-declarator.invariant.scope);
  grown = subst (λ (s : Scope). Extends c.args.scope.now s) (sym c.in_ok-counts.ensures.scope)
      (further c.args.scope.now c.loop-declarator.scope _ c.loop-declarator.invariant.grown (declared c.args.word c.declarator-item.result c.loop-declarator.scope));
}
