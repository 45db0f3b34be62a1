use Rattle.std.specs.Prelude.{◌*◌, flat_map, map}
use Rattle.line_text.proofs.Texts.{then_part}
use Rattle.prog_maker.specs.Made.{assert_line, copy_lines, create_lines, join_line, last_lines, main_lines, numbers_below}
use Rattle.prog_maker.proofs.Parts.{last_part, six_blocks}
use Rattle.prog_maker.proofs.making.put_program.Goals as goal

pub returns : goal.returns
returns c =
    let n = c.args.number in
    let three = then_part _ (then_part _ c.in_ok-put_copies.ensures c.in_ok-put_main.ensures) c.in_ok-put_creates.ensures in
    let five = then_part _ (then_part _ three c.in_ok-put_joins.ensures) c.in_ok-put_asserts.ensures in
    last_part c.put.result c.put_asserts.new.out.items _ c.put.new.out.items _ _ c.put.ensures.appended five
    (six_blocks c.args.out.now.items (flat_map copy_lines (numbers_below n)) (main_lines (2 * n)) (flat_map create_lines (numbers_below n)) (map join_line (numbers_below (2 * n))) (map assert_line (numbers_below n)) last_lines)
