use Rattle.run_laws.proofs.Besides.{higher_goes_on}
use Rattle.run_laws.proofs.laws.higher_bounds_go_on.Goals as goal

pub returns : goal.returns
returns c = λ p q same low f handle arg script o more d e. higher_goes_on p q handle low f arg script same o more d e
