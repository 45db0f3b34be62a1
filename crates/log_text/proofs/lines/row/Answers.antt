use Rattle.dg_base.specs.declared.Lit.{Lit}
use Rattle.line_text.specs.Words.{words_behind}
use Rattle.log_text.specs.Lines.{Upto}
use Rattle.log_text.proofs.Rows.{lits_told, rises_increasing}
use Rattle.log_text.proofs.lines.row.Goals as goal

pub invariant_of-result : goal.invariant_of-result
invariant_of-result c =
    let u : Upto Lit = record { read = c.in-Some-2.lits; behind = words_behind c.in-Some-2.text.now } in
    let read = rw c.in-Some-2.is at c.in_ok-lits.ensures in
    let told = lits_told 0 (words_behind c.in-Some.text.now) u read.0 in
    record { rising = rises_increasing 0 c.in-Some-2.lits told.rising }
