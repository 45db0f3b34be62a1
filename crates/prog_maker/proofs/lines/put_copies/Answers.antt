use Rattle.prog_maker.specs.Made.{copy_lines}
use Rattle.prog_maker.proofs.Loops.{lines_turn}
use Rattle.prog_maker.proofs.lines.put_copies.Goals as goal

pub loop-i-preserved : goal.loop-i-preserved
loop-i-preserved c = lines_turn copy_lines c.args.number c.loop-i.i _ _ _ c.loop-i-test.true c.in_ok-put_copy.ensures c.loop-i.invariant
