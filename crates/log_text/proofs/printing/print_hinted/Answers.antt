use Rattle.std.proofs.Common.{◌≡◌, List, [], ◌++◌, true, ap, subst, ◌∙◌}
use Rattle.std.specs.List.{AllByRecursion}
use Rattle.lemma_log.specs.declared.Entry.{Entry}
use Rattle.lemma_log.specs.declared.hints.Hint.{Hint}
use Rattle.log_text.specs.Formats.{Row, Written, log_text}
use Rattle.log_text.specs.Numbers.{HasRowNumbers}
use Rattle.log_text.specs.Spelling.{hinted_rows}
use Rattle.log_text.proofs.Logs.{spells_hinted}
use Rattle.log_text.proofs.printing.print_hinted.Goals as goal

pub returns-clause-spells : goal.returns-clause-spells
returns-clause-spells c =
    let w = λ (rs : List Row). let v : Written = record { hinted = true; head = c.args.head.now; rows = rs } in v in
    let log = c.args.log.now in
    let entries : c.as_slice.result.now ≡ log.log.entries = c.as_slice.ensures in
    let hints : c.as_slice-2.result.now ≡ log.hints = c.as_slice-2.ensures in
    let wrote : c.put_log.new.out.items ≡ c.new-out.result.items ++ log_text (w (hinted_rows c.as_slice.result.now c.as_slice-2.result.now)) = c.in_ok-put_log.ensures.text in
    let nothing : c.new-out.result.items ≡ [] = c.new-out.ensures.items in
    let first = wrote ∙ ap (λ o. o ++ log_text (w (hinted_rows c.as_slice.result.now c.as_slice-2.result.now))) nothing in
    let all = first ∙ (ap (λ (es : List Entry). log_text (w (hinted_rows es c.as_slice-2.result.now))) entries ∙ ap (λ (hs : List (List Hint)). log_text (w (hinted_rows log.log.entries hs))) hints) in
    let some = subst (λ (es : List Entry). AllByRecursion (HasRowNumbers true) (hinted_rows es c.as_slice-2.result.now)) entries c.in_ok-put_log.ensures.numbers in
    let numbers = subst (λ (hs : List (List Hint)). AllByRecursion (HasRowNumbers true) (hinted_rows log.log.entries hs)) hints some in
    spells_hinted c.args.head.now log c.from_vec.result c.requires.log c.requires.hints c.in_ok-put_log.ensures.head_numbers numbers (c.from_vec.ensures ∙ all)
