use Rattle.line_text.proofs.Digits.{reads_decimals}
use Rattle.line_text.proofs.laws.reads_decimals.Goals as goal

pub returns : goal.returns
returns c = reads_decimals
