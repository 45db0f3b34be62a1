use Rattle.bound_laws.proofs.Covered.{safe_covers, safe_is_of_program}
use Rattle.bound_laws.proofs.laws.safe_is_covered.Goals as goal

pub returns-clause-accepted : goal.returns-clause-accepted
returns-clause-accepted c = safe_is_of_program

pub returns-clause-covered : goal.returns-clause-covered
returns-clause-covered c = safe_covers c.one_checked.ensures c.no_failure_is_covered.ensures
