use Rattle.std.specs.Prelude.{codes, decimal}
use Rattle.prog_maker.proofs.Parts.{last_part, line_and_number}
use Rattle.prog_maker.proofs.lines.put_main.Goals as goal

pub returns : goal.returns
returns c =
    last_part c.put.result c.put_numbered.new.out.items _ c.put.new.out.items _ _ c.put.ensures.appended c.in_ok-put_numbered.ensures
    (line_and_number c.args.out.now.items (codes "int main() {") (codes "  pthread_t t[") (decimal c.args.threads) (codes "];"))
