use Rattle.encode_order.proofs.Choosing.{choice_made}
use Rattle.encode_order.proofs.laws.choices_can_be_made.Goals as goal

pub returns : goal.returns
returns c = choice_made
