use Rattle.std.specs.Prelude.{codes, decimal}
use Rattle.line_text.proofs.Texts.{then_part}
use Rattle.prog_maker.proofs.Parts.{four_numbers, last_part}
use Rattle.prog_maker.proofs.lines.put_second_thread.Goals as goal

pub returns : goal.returns
returns c =
    let number = decimal c.args.i in
    let four = then_part _ (then_part _ (then_part _ c.in_ok-put_numbered.ensures c.in_ok-put_numbered-2.ensures) c.in_ok-put_numbered-3.ensures) c.in_ok-put_numbered-4.ensures in
    last_part c.put.result c.put_numbered-4.new.out.items _ c.put.new.out.items _ _ c.put.ensures.appended four
    (four_numbers c.args.out.now.items (codes "void *b") number (codes "(void *p) { y") number (codes " = 1; s") number (codes " = x") number (codes "; return 0; }"))
