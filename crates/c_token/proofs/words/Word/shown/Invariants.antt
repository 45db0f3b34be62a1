use Rattle.std.proofs.Common.{◌≡◌, ◌++◌, drop}
use Rattle.c_token.specs.Tokens.{shown}
use Rattle.c_token.proofs.words.Word.shown.Given as goal

abbrev pub invariant-loop-b : goal.invariant-loop-b
invariant-loop-b l = l.shown ++ shown (drop l.b-index l.b-items) ≡ shown l.b-items
