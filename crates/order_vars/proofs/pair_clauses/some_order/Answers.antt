use Rattle.order_vars.proofs.Pushing.{over_negation, over_four}
use Rattle.order_vars.proofs.pair_clauses.some_order.Goals as goal

pub clause-requires : goal.clause-requires
clause-requires c = over_four c.args.gates.now.vars c.negated.result c.negated-2.result c.args.lit c.args.back
    (over_negation c.args.gates.now.vars c.args.guards.0 c.negated.result c.negated.ensures.value c.requires.first)
    (over_negation c.args.gates.now.vars c.args.guards.1 c.negated-2.result c.negated-2.ensures.value c.requires.second)
    c.requires.lit c.requires.back
