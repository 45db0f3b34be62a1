use Rattle.std.proofs.Common.{◌≡◌, ◌++◌, ◌∷◌, [], false, Some, sym, ap, ◌∙◌}
use Rattle.std.specs.Prelude.{bytes_eq}
use Rattle.line_text.specs.Words.{Cut, next_word, words_behind}
use Rattle.line_text.proofs.Worded.{next_words}
use Rattle.log_text.specs.Lines.{hints_from, is_zero}
use Rattle.log_text.proofs.Taking.{before, hints_step}
use Rattle.log_text.proofs.lines.hints.Goals as goal

pub loop-word-preserved : goal.loop-word-preserved
loop-word-preserved c =
    let p : Cut = record { front = c.in-Some.word.now; behind = c.in-Some.behind.now } in
    let word : next_word c.loop-word.rest.now ≡ Some p = c.in-Some.ensures.word in
    let hint = c.in-Some-hint.hint in
    let zero : is_zero p.front ≡ false = ap (λ t. bytes_eq p.front t) (sym c.as_slice.ensures) ∙ sym c.if-eq.ensures in
    let one = hints_step c.loop-word.hints c.loop-word.rest.now p hint word zero (sym c.in-Some-hint.ensures) in
    let pushed : c.push.new.self ≡ c.loop-word.hints ++ hint ∷ [] = c.in_ok-push.ensures.ok in
    record {
      spaced = (next_words c.loop-word.rest.now p word).opens_behind;
      same = ap (λ l. before l (hints_from (words_behind p.behind))) pushed ∙ (sym one ∙ c.loop-word.invariant.same);
    }
