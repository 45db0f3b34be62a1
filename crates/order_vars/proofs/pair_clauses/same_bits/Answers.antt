use Rattle.std.proofs.Common.{◌∙◌, ap, arith, get_or}
use Rattle.cnf_problem.specs.Formulas.{Formula}
use Rattle.order_vars.specs.Clauses.{with_clauses, bit_clauses}
use Rattle.order_vars.proofs.Pushing.{same_more}
use Rattle.order_vars.proofs.pair_clauses.same_bits.Goals as goal

pub loop-i-preserved : goal.loop-i-preserved
loop-i-preserved c =
    c.in_ok-same_bit.ensures
    ∙ ap (λ (g : Formula). with_clauses g (bit_clauses c.args.lit (get_or c.args.first.now c.loop-i.i (record { 0 = 0 })) (get_or c.args.second.now c.loop-i.i (record { 0 = 0 })))) c.loop-i.invariant
    ∙ same_more c.args.gates.now c.args.lit c.args.first.now c.args.second.now c.loop-i.i (record { 0 = 0 }) (omega arith) (omega arith) (omega arith)
