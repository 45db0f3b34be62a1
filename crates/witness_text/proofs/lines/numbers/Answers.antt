use Rattle.std.proofs.Common.{◌≡◌, ◌++◌, ◌∷◌, [], Some, sym, ap, ◌∙◌}
use Rattle.line_text.specs.Words.{Cut, number_in, next_word, words_in}
use Rattle.line_text.proofs.Worded.{ahead, ahead_step}
use Rattle.witness_text.proofs.lines.numbers.Goals as goal

pub loop-word-preserved : goal.loop-word-preserved
loop-word-preserved c =
    let p : Cut = record { front = c.in-Some.word.now; behind = c.in-Some.behind.now } in
    let word : next_word c.loop-word.rest.now ≡ Some p = cc c.in-Some.ensures.word in
    let one = ahead_step number_in c.loop-word.read c.in-Some-number.n c.loop-word.rest.now p word (sym c.in-Some-number.ensures) in
    let pushed : c.push.new.self ≡ c.loop-word.read ++ c.in-Some-number.n ∷ [] = c.in_ok-push-in-Some-number.ensures.ok in
    ap (λ l. ahead l (words_in number_in p.behind)) pushed ∙ (sym one ∙ c.loop-word.invariant)
