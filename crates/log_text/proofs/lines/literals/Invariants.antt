use Rattle.std.proofs.Common.{◌≡◌, true, length}
use Rattle.line_text.specs.Words.{opens, words_behind}
use Rattle.log_text.specs.Lines.{lits_from}
use Rattle.log_text.proofs.Taking.{before}
use Rattle.log_text.proofs.lines.literals.Given as goal

-- what was read, with what the rest holds, is what the text holds
abbrev pub invariant-loop-word : goal.invariant-loop-word
invariant-loop-word l = record {
  spaced : opens l.rest ≡ true;
  same : before l.lits (lits_from l.last (words_behind l.rest)) ≡ lits_from 0 (words_behind l.text);
}

abbrev pub decreases-loop-word : goal.decreases-loop-word
decreases-loop-word l = length l.rest
