use Rattle.axiom_model.proofs.Acceptance.{forward-no_leaves_cycle}
use Rattle.axiom_model.proofs.Orders.{forward-no_cycle}
use Rattle.axiom_model.proofs.laws.forward_orders_exclude_cycles.Goals as goal

pub returns-clause-local : goal.returns-clause-local
returns-clause-local c x rank f = forward-no_cycle rank f

pub returns-clause-global : goal.returns-clause-global
returns-clause-global c m x rank f = forward-no_cycle rank f

pub returns-clause-blocks : goal.returns-clause-blocks
returns-clause-blocks c = forward-no_leaves_cycle
