use Rattle.line_text.proofs.Reading.{no_proper_prefix}
use Rattle.log_text.specs.Spelling.{Spells}
use Rattle.log_text.proofs.Spelled.{machine, reads_logs}
use Rattle.log_text.proofs.laws.no_proper_prefix.Goals as goal

pub returns : goal.returns
returns c = λ plain_only. no_proper_prefix (machine plain_only) (Spells plain_only) (reads_logs plain_only)
