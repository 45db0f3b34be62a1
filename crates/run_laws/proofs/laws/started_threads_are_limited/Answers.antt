use Rattle.run_laws.proofs.Started.{started_create_few, started_shallow, started_handles_low}
use Rattle.run_laws.proofs.laws.started_threads_are_limited.Goals as goal

pub returns-clause-few : goal.returns-clause-few
returns-clause-few c = λ p d f handle arg script r checked started e. started_create_few p checked d f handle arg script r started e

pub returns-clause-shallow : goal.returns-clause-shallow
returns-clause-shallow c = λ p d f checked started. started_shallow p checked d f started

pub returns-clause-low_handles : goal.returns-clause-low_handles
returns-clause-low_handles c = λ p d f handle arg script r checked started low e h g v made. started_handles_low p checked d f handle arg script r started low e h g v made
