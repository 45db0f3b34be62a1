use Rattle.std.proofs.Common.{◌≡◌, ◌++◌, map, ap, subst, ◌∙◌}
use Rattle.std.specs.Prelude.{codes, flat_map}
use Rattle.c_check.specs.PlainNames.{cell_names}
use Rattle.std.specs.List.{AllByRecursion}
use Rattle.witness_text.specs.Spelling.{HasEventNumbers, HasNumbers, HasPairNumbers, HasThreadNumbers}
use Rattle.line_text.specs.Lines.{text_of}
use Rattle.witness_text.specs.Witness.{co_lines, rf_line, thread_lines, witness_text}
use Rattle.line_text.proofs.Texts.{on_ok, then_part}
use Rattle.witness_text.proofs.Texts.{whole_text}
use Rattle.witness_text.proofs.printing.put_witness.Goals as goal

pub returns-clause-text : goal.returns-clause-text
returns-clause-text c = on_ok c.put-2.result _ _ whole c.put-2.ensures.appended
  where
    whole : c.put-2.new.out.items ≡ c.put_orders.new.out.items ++ codes "end\n" → c.put-2.new.out.items ≡ c.args.out.now.items ++ witness_text c.args.checked.now.functions (cell_names c.args.checked.now.cells) c.args.candidate.now
    whole e =
        let functions = c.args.checked.now.functions in
        let cells = cell_names c.args.checked.now.cells in
        let threads = flat_map (thread_lines functions) c.args.candidate.now.threads in
        let sources = map rf_line c.args.candidate.now.rf in
        let orders = co_lines cells 0 c.args.candidate.now.co in
        let one = then_part (text_of threads) c.in_ok-put.ensures.appended
        (c.in_ok-put_threads.ensures.text ∙ (ap (λ l. c.put.new.out.items ++ text_of (flat_map (thread_lines l) c.as_slice-2.result.now)) c.as_slice.ensures ∙ ap (λ l. c.put.new.out.items ++ text_of (flat_map (thread_lines functions) l)) c.as_slice-2.ensures)) in
        let two = then_part (text_of sources) one (c.in_ok-put_sources.ensures.text ∙ ap (λ l. c.put_threads.new.out.items ++ text_of (map rf_line l)) c.as_slice-3.ensures) in
        let three = then_part (text_of orders) two
        (c.in_ok-put_orders.ensures.text ∙ (ap (λ l. c.put_sources.new.out.items ++ text_of (co_lines (cell_names l) 0 c.as_slice-5.result.now)) c.as_slice-4.ensures ∙ ap (λ l. c.put_sources.new.out.items ++ text_of (co_lines cells 0 l)) c.as_slice-5.ensures)) in
        then_part (codes "end\n") three e ∙ whole_text c.args.out.now.items threads sources orders

pub returns-clause-numbers : goal.returns-clause-numbers
returns-clause-numbers c = on_ok c.put-2.result _ _ numbers c.put-2.ensures.appended
  where
    numbers : c.put-2.new.out.items ≡ c.put_orders.new.out.items ++ codes "end\n" → HasNumbers c.args.candidate.now
    numbers e = record {
      threads = subst (AllByRecursion HasThreadNumbers) c.as_slice-2.ensures c.in_ok-put_threads.ensures.numbers;
      rf = subst (AllByRecursion HasPairNumbers) c.as_slice-3.ensures c.in_ok-put_sources.ensures.numbers;
      co = subst (AllByRecursion (AllByRecursion HasEventNumbers)) c.as_slice-5.ensures c.in_ok-put_orders.ensures.numbers;
    }
