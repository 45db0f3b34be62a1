use Rattle.std.specs.Prelude.{codes, decimal}
use Rattle.prog_maker.proofs.Parts.{last_part, one_number}
use Rattle.prog_maker.proofs.lines.put_join.Goals as goal

pub returns : goal.returns
returns c =
    last_part c.put.result c.put_numbered.new.out.items _ c.put.new.out.items _ _ c.put.ensures.appended c.in_ok-put_numbered.ensures
    (one_number c.args.out.now.items (codes "  pthread_join(t[") (decimal c.args.thread) (codes "], 0);"))
