use Rattle.flat_prog.proofs.Scripts.{run_uses_first}
use Rattle.flat_prog.proofs.laws.runs_use_first_numbers.Goals as goal

pub returns : goal.returns
returns c = run_uses_first
