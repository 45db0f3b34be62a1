use Rattle.std.specs.Prelude.{All}
use Rattle.cnf_problem.specs.Literals.{IsOver}
use Rattle.cnf_problem.specs.Formulas.{Formula}
use Rattle.order_vars.specs.Orders.{AreEventsOver}
use Rattle.order_vars.specs.Growing.{Built}
use Rattle.order_vars.proofs.EventWords.{words_of}
use Rattle.order_vars.proofs.Into.{BuiltInto}
use Rattle.order_vars.proofs.links.link_into.Given as goal

abbrev pub invariant-loop-from : goal.invariant-loop-from
invariant-loop-from l = record {
  over : AreEventsOver l.gates.vars l.scene.events.now (words_of l.scene.values.now);
  choices_over : All (IsOver l.gates.vars) l.choices;
  built : (base : Formula) → Built l.scene.model l.scene.events.now (words_of l.scene.values.now) base l.initial.gates l.initial.atoms l.to 0
      → BuiltInto l.scene.model l.scene.events.now (words_of l.scene.values.now) base l.gates l.atoms l.choices l.event.guard l.to l.from;
}
