use Rattle.prog_maker.specs.Made.{assert_line}
use Rattle.prog_maker.proofs.Loops.{line_turn}
use Rattle.prog_maker.proofs.lines.put_asserts.Goals as goal

pub loop-i-preserved : goal.loop-i-preserved
loop-i-preserved c = line_turn assert_line c.args.number c.loop-i.i _ _ _ c.loop-i-test.true c.in_ok-put_assert.ensures c.loop-i.invariant
