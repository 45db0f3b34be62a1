use Rattle.std.proofs.Common.{inr, ◌∙◌}
use Rattle.c_token.proofs.Answering.{long_text_is, short_text_is}
use Rattle.c_token.proofs.lexer.tokens.Goals as goal

pub returns-then-text-gt-MAX_TEXT : goal.returns-then-text-gt-MAX_TEXT
returns-then-text-gt-MAX_TEXT c = inr (long_text_is c.args.text.now _ c.if-text-gt-MAX_TEXT.true c.capped-count.ensures)

pub returns-in-Ok : goal.returns-in-Ok
returns-in-Ok c = inr (c.in-Ok.ensures ∙ short_text_is c.args.text.now c.if-text-gt-MAX_TEXT.false)
