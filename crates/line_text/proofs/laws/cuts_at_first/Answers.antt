use Rattle.line_text.proofs.Bytes.{cuts_at_first}
use Rattle.line_text.proofs.laws.cuts_at_first.Goals as goal

pub returns : goal.returns
returns c = cuts_at_first
