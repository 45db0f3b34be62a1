use Rattle.std.proofs.Common.{◌≡◌, ◌++◌, drop}
use Rattle.c_rules.specs.Walk as walk
use Rattle.c_rules.specs.Passes.{Extends}
use Rattle.c_check.proofs.counter.Counter.parameters.Given as goal

abbrev pub invariant-loop-param : goal.invariant-loop-param
invariant-loop-param l = record {
  scope : record l.scope { entries = l.scope.entries ++ walk.param_entries (drop l.param-index l.params) } ≡ record l.fn.scope { entries = l.fn.scope.entries ++ walk.param_entries l.params };
  grown : Extends l.fn.scope l.scope;
}
