use Rattle.std.proofs.Common.{◌≡◌, ◌≤◌, drop}
use Rattle.c_tree.specs.declared.program.Function.{Function}
use Rattle.c_rules.specs.Names.{functions_of}
use Rattle.run_model.specs.Names.{first_named}
use Rattle.emit_steps.proofs.table.Table.function_named.Given as goal

abbrev pub invariant-loop-item : goal.invariant-loop-item
invariant-loop-item l = record {
  same : first_named (λ (f : Function). f.name) l.n (functions_of (drop l.item-index l.self.items.now)) l.name ≡ first_named (λ (f : Function). f.name) 0 (functions_of l.self.items.now) l.name;
  few : l.n ≤ l.item-index;
}
