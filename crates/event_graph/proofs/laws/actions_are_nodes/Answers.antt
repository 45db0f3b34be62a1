use Rattle.event_graph.proofs.Nodes.{actions_nodes, nodes_act, nodes_in_order}
use Rattle.event_graph.proofs.laws.actions_are_nodes.Goals as goal

pub returns-clause-there : goal.returns-clause-there
returns-clause-there c = actions_nodes

pub returns-clause-back : goal.returns-clause-back
returns-clause-back c = nodes_act

pub returns-clause-ordered : goal.returns-clause-ordered
returns-clause-ordered c = nodes_in_order
