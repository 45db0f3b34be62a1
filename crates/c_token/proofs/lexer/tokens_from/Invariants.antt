use Rattle.std.proofs.Common.{◌≡◌, map, take}
use Rattle.c_token.specs.Seen.{token}
use Rattle.c_token.specs.Tokens.{meant}
use Rattle.c_token.proofs.lexer.tokens_from.Given as goal

abbrev pub invariant-loop-word : goal.invariant-loop-word
invariant-loop-word l = l.list ≡ map meant (map token (take l.word-index l.words))
