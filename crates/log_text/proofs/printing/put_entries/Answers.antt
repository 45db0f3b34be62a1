use Rattle.std.proofs.Common.{◌≡◌, ◌<◌, [], ◌∷◌, ◌++◌, length, ap, subst, ◌∙◌}
use Rattle.std.specs.Prelude.{slice_index_or}
use Rattle.log_text.specs.Formats.{row_line}
use Rattle.log_text.specs.Numbers.{HasRowNumbers}
use Rattle.log_text.specs.Spelling.{row_of}
use Rattle.log_text.proofs.Parts.{rows_from, rows_turn}
use Rattle.log_text.proofs.printing.put_entries.Goals as goal

pub loop-at-preserved : goal.loop-at-preserved
loop-at-preserved c =
    let es = c.args.entries.now in
    let hs = c.args.hints.now in
    let at = c.loop-at.at in
    let e = c.index-entries-at.result in
    let hinted = c.args.hinted in
    let found : c.hints_at.result.now ≡ slice_index_or hs at [] = c.hints_at.ensures in
    let wrote : c.put_row.new.out.items ≡ c.loop-at.out.items ++ (row_line hinted (row_of e c.hints_at.result.now) ++ 10 ∷ []) = c.in_ok-put_row.ensures.text in
    let new : c.put_row.new.out.items ≡ c.loop-at.out.items ++ (row_line hinted (row_of e (slice_index_or hs at [])) ++ 10 ∷ []) = wrote ∙ ap (λ h. c.loop-at.out.items ++ (row_line hinted (row_of e h) ++ 10 ∷ [])) found in
    let within : at < length es = c.loop-at-test.true in
    let numbers = subst (λ h. HasRowNumbers hinted (row_of e h)) found c.in_ok-put_row.ensures.numbers in
    record {
      text = rows_turn hinted es hs at e c.loop-at.out.items c.put_row.new.out.items _ within c.index-entries-at.is new c.loop-at.invariant.text;
      numbers = λ rest. c.loop-at.invariant.numbers (rows_from (HasRowNumbers hinted) es hs at e within c.index-entries-at.is numbers rest);
    }
