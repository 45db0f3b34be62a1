use Rattle.std.proofs.Common.{◌≡◌, List, [], ◌++◌, false, ap, subst, ◌∙◌}
use Rattle.std.specs.List.{AllByRecursion}
use Rattle.lemma_log.specs.declared.Entry.{Entry}
use Rattle.log_text.specs.Formats.{Row, Written, log_text}
use Rattle.log_text.specs.Numbers.{HasRowNumbers}
use Rattle.log_text.specs.Spelling.{hinted_rows}
use Rattle.log_text.proofs.Logs.{rows_plain, spells_plain}
use Rattle.log_text.proofs.printing.print_log.Goals as goal

pub returns-clause-text : goal.returns-clause-text
returns-clause-text c =
    let w = λ (rs : List Row). let v : Written = record { hinted = false; head = c.args.head.now; rows = rs } in v in
    let entries = c.args.log.now.entries in
    let same : c.as_slice.result.now ≡ entries = c.as_slice.ensures in
    let wrote : c.put_log.new.out.items ≡ c.new-out.result.items ++ log_text (w (hinted_rows c.as_slice.result.now [])) = c.in_ok-put_log.ensures.text in
    let nothing : c.new-out.result.items ≡ [] = c.new-out.ensures.items in
    let all = wrote ∙ (ap (λ o. o ++ log_text (w (hinted_rows c.as_slice.result.now []))) nothing ∙ ap (λ (es : List Entry). log_text (w (hinted_rows es []))) same) in
    c.from_vec.ensures ∙ (all ∙ ap (λ rs. log_text (w rs)) (rows_plain entries))

pub returns-clause-spells : goal.returns-clause-spells
returns-clause-spells c =
    let w = λ (rs : List Row). let v : Written = record { hinted = false; head = c.args.head.now; rows = rs } in v in
    let entries = c.args.log.now.entries in
    let same : c.as_slice.result.now ≡ entries = c.as_slice.ensures in
    let wrote : c.put_log.new.out.items ≡ c.new-out.result.items ++ log_text (w (hinted_rows c.as_slice.result.now [])) = c.in_ok-put_log.ensures.text in
    let nothing : c.new-out.result.items ≡ [] = c.new-out.ensures.items in
    let all = wrote ∙ (ap (λ o. o ++ log_text (w (hinted_rows c.as_slice.result.now []))) nothing ∙ ap (λ (es : List Entry). log_text (w (hinted_rows es []))) same) in
    let numbers = subst (λ (es : List Entry). AllByRecursion (HasRowNumbers false) (hinted_rows es [])) same c.in_ok-put_log.ensures.numbers in
    spells_plain c.args.head.now c.args.log.now c.from_vec.result c.requires c.in_ok-put_log.ensures.head_numbers numbers (c.from_vec.ensures ∙ all)
