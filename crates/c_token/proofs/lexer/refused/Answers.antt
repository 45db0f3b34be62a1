use Rattle.std.proofs.Common.{Err, subst}
use Rattle.c_token.specs.declared.segments.Stuck.{Stuck}
use Rattle.c_token.specs.Seen.{GivesSegments}
use Rattle.c_token.proofs.Answering.{bad_byte_is}
use Rattle.c_token.proofs.lexer.refused.Goals as goal

pub returns-in-BadByte : goal.returns-in-BadByte
returns-in-BadByte c = λ end r g. bad_byte_is end c.in-BadByte.place r (subst (λ (s : Stuck). GivesSegments (Err s) r) c.in-BadByte.is g)
