use Rattle.c_token.specs.Bytes.{mark_len}
use Rattle.c_token.proofs.bytes.mark_len.Goals as goal

pub returns-clause-value : goal.returns-clause-value
unfolding mark_len
returns-clause-value c = c.first_front.ensures.value
