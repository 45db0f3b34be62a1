use Rattle.encode_match.proofs.Whole.{no_assignment_means_safe, spelled_fails}
use Rattle.encode_match.proofs.laws.encodings_decide.Goals as goal

pub returns-clause-without : goal.returns-clause-without
returns-clause-without c = no_assignment_means_safe

pub returns-clause-with : goal.returns-clause-with
returns-clause-with c = spelled_fails
