use Rattle.full_bound.proofs.Full.{suffices}
use Rattle.full_bound.proofs.laws.full_bound_suffices.Goals as goal

pub returns : goal.returns
returns c = λ p q m d up f. suffices p q m up d f
