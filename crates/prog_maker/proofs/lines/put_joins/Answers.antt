use Rattle.prog_maker.specs.Made.{join_line}
use Rattle.prog_maker.proofs.Loops.{line_turn}
use Rattle.prog_maker.proofs.lines.put_joins.Goals as goal

pub loop-i-preserved : goal.loop-i-preserved
loop-i-preserved c = line_turn join_line c.args.threads c.loop-i.i _ _ _ c.loop-i-test.true c.in_ok-put_join.ensures c.loop-i.invariant
