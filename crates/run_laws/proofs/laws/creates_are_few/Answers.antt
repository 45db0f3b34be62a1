use Rattle.run_laws.proofs.Reached.{all_few}
use Rattle.run_laws.proofs.laws.creates_are_few.Goals as goal

pub returns : goal.returns
returns c = all_few
