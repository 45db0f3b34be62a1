use Rattle.encode_match.proofs.CycleLaw.{cycles_agree}
use Rattle.encode_match.proofs.laws.cycles_agree.Goals as goal

pub returns : goal.returns
returns c = cycles_agree
