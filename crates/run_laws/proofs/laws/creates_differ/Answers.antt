use Rattle.run_model.proofs.Creates.{creates_once}
use Rattle.run_laws.proofs.Reached.{all_few}
use Rattle.run_laws.proofs.laws.creates_differ.Goals as goal

pub returns : goal.returns
returns c = λ p k rs checked runs made. creates_once p k rs runs (all_few p k rs checked runs made)
