use Rattle.run_laws.proofs.Started.{started_creates_differ, creates_differ_in_a_run}
use Rattle.run_laws.proofs.laws.started_creates_differ.Goals as goal

pub returns-clause-of_two_runs : goal.returns-clause-of_two_runs
returns-clause-of_two_runs c = λ p d e f g own other arg val script more r q checked s t is that h a b v w made again.
    started_creates_differ p checked d e f g own other arg val script more r q s t is that h a b v w made again

pub returns-clause-of_one_run : goal.returns-clause-of_one_run
returns-clause-of_one_run c = creates_differ_in_a_run
