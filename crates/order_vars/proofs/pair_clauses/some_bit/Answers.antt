use Rattle.std.proofs.Common.{◌∙◌, arith}
use Rattle.std.proofs.lemmas.List.{length-set}
use Rattle.cnf_problem.specs.Literals.{negated}
use Rattle.order_vars.proofs.Pushing.{bits_more, bits_made, over_bits}
use Rattle.order_vars.proofs.pair_clauses.some_bit.Goals as goal

pub loop-i-preserved : goal.loop-i-preserved
loop-i-preserved c = record {
  long = length-set c.loop-i.clause _ _ ∙ c.loop-i.invariant.long;
  so_far = bits_more c.loop-i.i c.loop-i.clause c.args.bits.now (negated c.args.lit) (record { 0 = 0 }) (omega arith) c.loop-i.invariant.long (omega arith) c.loop-i.invariant.so_far;
}

pub clause-requires : goal.clause-requires
clause-requires c = over_bits c.args.gates.now.vars c.loop-i.clause c.args.bits.now c.args.lit
    (bits_made c.loop-i.i c.loop-i.clause c.args.bits.now (negated c.args.lit) (omega arith) c.loop-i.invariant.long (omega arith) c.loop-i.invariant.so_far) c.requires.lit c.requires.bits
