use Rattle.std.proofs.Common.{arith, rules, subst}
use Rattle.std.proofs.lemmas.Grind.{common_steps}
use Rattle.std.specs.List.{AllByRecursion}
use Rattle.witness_text.specs.Spelling.{HasEventNumbers}
use Rattle.witness_text.proofs.Texts.{all_behind, all_from}
use Rattle.witness_text.proofs.printing.put_orders.Goals as goal

pub loop-cell-init : goal.loop-cell-init
loop-cell-init c = record { text = search rules; numbers = λ h. h }

pub loop-cell-preserved : goal.loop-cell-preserved
loop-cell-preserved c =
    let own = subst (AllByRecursion HasEventNumbers) c.index-orders-cell.is (subst (AllByRecursion HasEventNumbers) c.as_slice.ensures c.in_ok-put_order.ensures.numbers) in
    record {
      text = grind (arith, common_steps);
      numbers = λ rest. c.loop-cell.invariant.numbers (all_from (AllByRecursion HasEventNumbers) c.args.orders.now c.loop-cell.cell c.index-orders-cell.result c.loop-cell-test.true own rest);
    }

pub returns-clause-numbers : goal.returns-clause-numbers
returns-clause-numbers c = c.loop-cell.invariant.numbers (all_behind (AllByRecursion HasEventNumbers) c.args.orders.now c.loop-cell.cell c.loop-cell-test.false)
