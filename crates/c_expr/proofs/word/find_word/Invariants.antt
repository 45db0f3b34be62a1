use Rattle.std.proofs.Common.{◌≡◌, drop}
use Rattle.c_expr.specs.Words as spelling
use Rattle.c_expr.proofs.word.find_word.Given as goal

abbrev pub invariant-loop-word : goal.invariant-loop-word
invariant-loop-word l = spelling.find_word (drop l.word-index l.words) l.text ≡ spelling.find_word l.words l.text
