use Rattle.std.proofs.Common.{arith}
use Rattle.c_check.proofs.Gathering.{next_declarator, end_declarators}
use Rattle.c_check.proofs.calls.Gatherer.declarators.Goals as goal

pub loop-declarator-preserved : goal.loop-declarator-preserved
loop-declarator-preserved c =
    next_declarator c.args.self.now.items.now c.args.declarators.now c.loop-declarator.declarator-index c.declarator-item.result c.loop-declarator.into c.option.new.into c.start.new.into _
    c.loop-declarator-test.true c.declarator-item.is c.in_ok-option.ensures c.in_ok-start.ensures c.loop-declarator.invariant

pub returns : goal.returns
returns c = end_declarators c.args.self.now.items.now c.args.declarators.now c.loop-declarator.declarator-index c.loop-declarator.into _ (omega arith) c.loop-declarator.invariant
