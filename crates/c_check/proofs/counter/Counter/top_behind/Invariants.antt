use Rattle.std.proofs.Common.{◌≡◌, drop}
use Rattle.c_rules.specs.Walk.{top_scope}
use Rattle.c_check.specs.Counts.{behind_items}
use Rattle.c_check.proofs.counter.Counter.top_behind.Given as goal

abbrev pub invariant-loop-item : goal.invariant-loop-item
invariant-loop-item l = behind_items (drop l.item-index l.items) l.scope ≡ behind_items l.items top_scope
