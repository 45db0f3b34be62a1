use Rattle.consistency.proofs.Excluding.{none_broken, one_broken}
use Rattle.consistency.proofs.laws.answers_exclude_each_other.Goals as goal

pub returns-clause-consistent : goal.returns-clause-consistent
returns-clause-consistent c = none_broken

pub returns-clause-one : goal.returns-clause-one
returns-clause-one c = one_broken
