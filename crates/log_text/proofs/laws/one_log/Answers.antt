use Rattle.line_text.proofs.Reading.{one_value}
use Rattle.log_text.specs.Spelling.{Spells}
use Rattle.log_text.proofs.Spelled.{machine, reads_logs}
use Rattle.log_text.proofs.laws.one_log.Goals as goal

pub returns : goal.returns
returns c = λ plain_only. one_value (machine plain_only) (Spells plain_only) (reads_logs plain_only)
