use Rattle.std.proofs.Common.{List, map, ap, ◌∙◌}
use Rattle.c_token.specs.Seen.{token}
use Rattle.c_token.specs.Tokens.{meant}
use Rattle.c_token.specs.declared.words.Word.{Word}
use Rattle.c_token.proofs.Answering.{limited_many, limited_few}
use Rattle.c_token.proofs.lexer.limited.Goals as goal

pub returns-then-sieve-gt-MAX_TOKENS : goal.returns-then-sieve-gt-MAX_TOKENS
returns-then-sieve-gt-MAX_TOKENS c = λ words w n. limited_many c.args.end words c.args.sieve.now.count _ n c.if-sieve-gt-MAX_TOKENS.true c.capped-count.ensures

pub returns : goal.returns
returns c = λ words w n.
    limited_few c.args.end words _ c.in_ok-list.list c.args.sieve.now.count n c.if-sieve-gt-MAX_TOKENS.false w
    (c.in_ok-list.ensures ∙ ap (λ (ws : List Word). map meant (map token ws)) c.as_slice.ensures.value)
