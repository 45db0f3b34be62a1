use Rattle.std.proofs.Common.{sym, ap, ◌∙◌}
use Rattle.token_list.specs.Numbers.{below}
use Rattle.token_list.proofs.Values.{stays_large}
use Rattle.token_list.proofs.numbers.value_below.Goals as goal

pub returns-then-value-limit : goal.returns-then-value-limit
returns-then-value-limit c = sym (ap (below c.args.limit) (sym c.loop-b.invariant.same) ∙ stays_large c.args.limit c.args.base c.loop-b.value _ c.if-value-limit.true)
