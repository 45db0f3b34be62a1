use Rattle.std.proofs.Common.{None, Some, ap, ◌∙◌}
use Rattle.c_rules.specs.Names.{variable_named}
use Rattle.c_check.specs.Capped.{capped_sums, table_named}
use Rattle.c_check.proofs.Namings.{same_thread}
use Rattle.c_check.proofs.counter.Counter.thread.Goals as goal

pub returns-in-None : goal.returns-in-None
returns-in-None c =
    same_thread capped_sums (table_named c.args.self.now.items.now c.args.self.now.table.now) (variable_named c.args.scope.now) c.args.name.now c.args.args.now None _
    c.in-None.ensures c.none.ensures

pub returns-in-Some : goal.returns-in-Some
returns-in-Some c =
    same_thread capped_sums (table_named c.args.self.now.items.now c.args.self.now.table.now) (variable_named c.args.scope.now) c.args.name.now c.args.args.now (Some c.in-Some.routine.now) _
    c.in-Some.ensures (c.new_thread.ensures ∙ ap capped_sums.new_thread (c.body.ensures ∙ ap (table_named c.args.self.now.items.now c.args.self.now.table.now) c.as_slice.ensures))
