use Rattle.std.proofs.Common.{◌≡◌, ◌<◌, ◌++◌, ◌∷◌, [], false, Some, sym, ap, ◌∙◌, arith}
use Rattle.cnf_problem.specs.Literals.{var}
use Rattle.std.specs.Prelude.{bytes_eq}
use Rattle.line_text.specs.Words.{Cut, next_word, words_behind}
use Rattle.line_text.proofs.Worded.{next_words}
use Rattle.log_text.specs.Lines.{is_zero, lits_from}
use Rattle.log_text.proofs.Taking.{before, lits_step}
use Rattle.log_text.proofs.lines.literals.Goals as goal

pub loop-word-preserved : goal.loop-word-preserved
loop-word-preserved c =
    let p : Cut = record { front = c.in-Some.word.now; behind = c.in-Some.behind.now } in
    let word : next_word c.loop-word.rest.now ≡ Some p = c.in-Some.ensures.word in
    let lit = c.in-Some-literal.lit in
    let zero : is_zero p.front ≡ false = ap (λ t. bytes_eq p.front t) (sym c.as_slice.ensures) ∙ sym c.if-eq.ensures in
    let rises : c.loop-word.last < var lit = omega (arith, c.var.ensures, c.if-var-last.false) in
    let one = lits_step c.loop-word.lits c.loop-word.last c.loop-word.rest.now p lit word zero (sym c.in-Some-literal.ensures) rises in
    let pushed : c.push.new.self ≡ c.loop-word.lits ++ lit ∷ [] = c.in_ok-push.ensures.ok in
    let last : c.var-last.result ≡ var lit = c.var-last.ensures in
    record {
      spaced = (next_words c.loop-word.rest.now p word).opens_behind;
      same = ap (λ l. before l (lits_from c.var-last.result (words_behind p.behind))) pushed ∙ (ap (λ v. before (c.loop-word.lits ++ lit ∷ []) (lits_from v (words_behind p.behind))) last ∙ (sym one ∙ c.loop-word.invariant.same));
    }
