use Rattle.prog_maker.specs.Made.{create_lines}
use Rattle.prog_maker.proofs.Loops.{lines_turn}
use Rattle.prog_maker.proofs.lines.put_creates.Goals as goal

pub loop-i-preserved : goal.loop-i-preserved
loop-i-preserved c = lines_turn create_lines c.args.number c.loop-i.i _ _ _ c.loop-i-test.true c.in_ok-put_create.ensures c.loop-i.invariant
