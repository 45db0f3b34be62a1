use Rattle.std.proofs.Common.{arith}
use Rattle.std.proofs.Common.{refl}
use Rattle.bit_gates.proofs.Steps.{constant_none, constant_more, constant_made}
use Rattle.bit_gates.proofs.words.constant_word.Goals as goal

pub loop-i-init : goal.loop-i-init
loop-i-init c = constant_none _ c.args.constant _ c.constant-word.ensures.over

pub loop-i-preserved : goal.loop-i-preserved
loop-i-preserved c = constant_more _ _ c.args.constant c.loop-i.i _ _ c.loop-i-test.true refl c.constant-bit.ensures.over c.constant-bit.ensures.exact c.loop-i.invariant

pub returns-clause-over : goal.returns-clause-over
returns-clause-over c = (c.loop-i.invariant.long, c.loop-i.invariant.over)

pub returns-clause-exact : goal.returns-clause-exact
returns-clause-exact c = constant_made _ _ c.args.constant c.loop-i.i (omega arith) (omega arith) c.loop-i.invariant
