use Rattle.std.proofs.Common.{◌-◌, length, arith, length-append, ◌∙◌}
use Rattle.dg_base.proofs.Lists.{get_append_front, get_append_right}
use Rattle.clause_store.proofs.clause_list.clause_at.Goals as goal

pub get-requires-else-i-count : goal.get-requires-else-i-count
get-requires-else-i-count c = omega (arith, length-append c.args.first.now c.args.added.now, c.len-count.ensures.value, c.requires)

pub returns-then-i-count : goal.returns-then-i-count
returns-then-i-count c = get_append_front c.args.first.now c.args.added.now c.args.i (omega (arith, c.len-count.ensures.value)) ∙ c.get.ensures

pub returns-else-i-count : goal.returns-else-i-count
returns-else-i-count c = get_append_right c.args.first.now c.args.added.now c.args.i (c.args.i - length c.args.first.now) (omega (arith, c.len-count.ensures.value)) ∙ rw (← c.len-count.ensures.value) c.get-else-i-count.ensures
