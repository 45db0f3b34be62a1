use Rattle.decode.specs.Relations.{IsLineOf}
use Rattle.decode.proofs.relations.order.Given as goal

abbrev pub invariant-loop-node : goal.invariant-loop-node
invariant-loop-node l = IsLineOf l.truths l.events l.places l.ranks l.cell l.node l.line
