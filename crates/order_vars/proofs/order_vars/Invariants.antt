use Rattle.order_vars.specs.Growing.{Built}
use Rattle.order_vars.proofs.EventWords.{words_of}
use Rattle.order_vars.proofs.order_vars.Given as goal

abbrev pub invariant-loop-place : goal.invariant-loop-place
invariant-loop-place l = Built l.fn.model l.graph (words_of l.values) l.initial.gates l.gates l.atoms l.place 0
