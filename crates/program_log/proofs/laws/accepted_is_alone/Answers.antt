use Rattle.program_log.proofs.Alone.{accepted_is_alone}
use Rattle.program_log.proofs.laws.accepted_is_alone.Goals as goal

pub returns : goal.returns
returns c = accepted_is_alone c.one_log.ensures c.evidence_suffices.ensures.log c.evidence_suffices.ensures.hinted
