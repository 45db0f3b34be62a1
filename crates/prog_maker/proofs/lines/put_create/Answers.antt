use Rattle.std.specs.Prelude.{◌+◌, ◌*◌, codes, decimal}
use Rattle.line_text.proofs.Texts.{then_part}
use Rattle.prog_maker.proofs.Parts.{last_part, two_and_two}
use Rattle.prog_maker.proofs.lines.put_create.Goals as goal

pub returns : goal.returns
returns c =
    let number = decimal c.args.i in
    let first = then_part _ (then_part _ c.in_ok-put_numbered.ensures c.in_ok-put_numbered-2.ensures) c.in_ok-put.ensures.appended in
    let five = then_part _ (then_part _ first c.in_ok-put_numbered-3.ensures) c.in_ok-put_numbered-4.ensures in
    last_part c.put-2.result c.put_numbered-4.new.out.items _ c.put-2.new.out.items _ _ c.put-2.ensures.appended five
    (two_and_two c.args.out.now.items (codes "  pthread_create(&t[") (decimal (2 * c.args.i)) (codes "], 0, a") number (codes ", 0);") (codes "  pthread_create(&t[") (decimal (2 * c.args.i + 1)) (codes "], 0, b") number (codes ", 0);"))
