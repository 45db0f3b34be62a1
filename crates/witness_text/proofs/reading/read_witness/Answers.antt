use Rattle.std.proofs.Common.{◌≡◌, Some, None, sym, ◌∙◌}
use Rattle.std.proofs.lemmas.Result.{err_from_is_err_and}
use Rattle.c_check.specs.PlainNames.{cell_names}
use Rattle.line_text.specs.Words.{Cut, cut}
use Rattle.witness_text.specs.Machine.{step}
use Rattle.witness_text.proofs.Answering.{read_end, refused_end, refused_line}
use Rattle.witness_text.proofs.Reader.{reader}
use Rattle.line_text.proofs.Reading.{reached_more}
use Rattle.witness_text.proofs.reading.read_witness.Goals as goal

pub returns-in_err-next-clause-refused : goal.returns-in_err-next-clause-refused
returns-in_err-next-clause-refused c = let p = err_from_is_err_and c.from_residual.result c.from_residual.ensures.1 in rw (p.1, p.2) tt

pub returns-in-None-clause-refused : goal.returns-in-None-clause-refused
returns-in-None-clause-refused c =
    let fs = c.args.checked.now.functions in
    let cs = cell_names c.args.checked.now.cells in
    let p : Cut = record { front = c.in-Some.line.now; behind = c.in-Some.behind.now } in
    let line : cut 10 c.loop-line.rest.now ≡ Some p = cc c.in-Some.ensures in
    let stop : step fs cs c.loop-line.reading p.front ≡ None = sym c.in_ok-next.ensures ∙ c.in-None.is in
    refused_line fs cs c.args.text.now c.loop-line.rest.now c.loop-line.reading c.loop-line.number p c.requires c.loop-line.invariant line stop

pub loop-line-preserved : goal.loop-line-preserved
loop-line-preserved c =
    let fs = c.args.checked.now.functions in
    let cs = cell_names c.args.checked.now.cells in
    let p : Cut = record { front = c.in-Some.line.now; behind = c.in-Some.behind.now } in
    let line : cut 10 c.loop-line.rest.now ≡ Some p = cc c.in-Some.ensures in
    let next : step fs cs c.loop-line.reading p.front ≡ Some c.in-Some-2.next = sym c.in_ok-next.ensures ∙ c.in-Some-2.is in
    reached_more (reader fs cs) c.args.text.now c.loop-line.rest.now c.loop-line.reading c.in-Some-2.next c.loop-line.number c.saturating_add-number.result p c.loop-line.invariant line next c.saturating_add-number.ensures

pub returns-in-Some-ended-clause-read : goal.returns-in-Some-ended-clause-read
returns-in-Some-ended-clause-read c =
    let fs = c.args.checked.now.functions in
    let cs = cell_names c.args.checked.now.cells in
    read_end fs cs c.args.text.now c.loop-line.rest.now c.loop-line.reading c.loop-line.number c.in-Some-ended.candidate c.requires c.loop-line.invariant (sym c.in-Some-ended.ensures)

pub returns-in-None-ended-clause-refused : goal.returns-in-None-ended-clause-refused
returns-in-None-ended-clause-refused c =
    let fs = c.args.checked.now.functions in
    let cs = cell_names c.args.checked.now.cells in
    refused_end fs cs c.args.text.now c.loop-line.rest.now c.loop-line.reading c.loop-line.number c.requires c.loop-line.invariant c.in_default.ensures (sym c.in-None-ended.ensures)
