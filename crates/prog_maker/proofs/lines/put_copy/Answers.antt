use Rattle.std.specs.Prelude.{[], ◌∷◌, ◌++◌}
use Rattle.line_text.proofs.Texts.{then_part}
use Rattle.prog_maker.specs.Made.{first_thread, second_thread, variables_line}
use Rattle.prog_maker.proofs.Parts.{last_part, three_lines}
use Rattle.prog_maker.proofs.lines.put_copy.Goals as goal

pub returns : goal.returns
returns c =
    let two = then_part _ c.in_ok-put_variables.ensures c.in_ok-put_first_thread.ensures in
    last_part c.put_second_thread.result c.put_first_thread.new.out.items _ c.put_second_thread.new.out.items _ _ c.put_second_thread.ensures two
    (three_lines c.args.out.now.items (variables_line c.args.i ++ 10 ∷ []) (first_thread c.args.i ++ 10 ∷ []) (second_thread c.args.i ++ 10 ∷ []))
