use Rattle.std.proofs.Common.{◌≡◌, List, [], ◌∷◌, ◌++◌, length, ap, sym, ◌∙◌}
use Rattle.lemma_log.specs.declared.Entry.{Entry}
use Rattle.lemma_log.specs.declared.hints.Hint.{Hint}
use Rattle.log_text.specs.Fed.{ReaderView}
use Rattle.log_text.specs.Spelling.{hinted_rows, rows_of}
use Rattle.log_text.proofs.Logs.{one_more_each, take_turn}
use Rattle.log_text.proofs.whole.take_all.Goals as goal

pub loop-entry-preserved : goal.loop-entry-preserved
loop-entry-preserved c =
    let e = c.in-Some.entry in
    let h = c.in-Some.hints in
    let es = c.loop-entry.entries in
    let hs = c.loop-entry.lists in
    let rest = c.next_hints.new.self.ready in
    let next = c.in-Some.ensures.next in
    let was = c.loop-entry.invariant in
    let entries : c.push.new.self ≡ es ++ e ∷ [] = c.in_ok-push.ensures.ok in
    let lists : c.push-in-Some.new.self ≡ hs ++ h ∷ [] = c.in_ok-push-2.ensures.ok in
    let turn = take_turn es hs e h c.loop-entry.reader.ready rest (rows_of c.args.reader.now.ready) was.one_each next.0 was.rows in
    record {
      rows = ap (λ (l : List Entry). hinted_rows l c.push-in-Some.new.self ++ rows_of rest) entries ∙ (ap (λ (l : List (List Hint)). hinted_rows (es ++ e ∷ []) l ++ rows_of rest) lists ∙ turn);
      one_each = ap (λ (l : List (List Hint)). length l) lists ∙ (one_more_each es hs e h was.one_each ∙ sym (ap (λ (l : List Entry). length l) entries));
      same = next.1 ∙ ap (λ (r : ReaderView). let v : ReaderView = record r { ready = rest } in v) was.same;
    }
