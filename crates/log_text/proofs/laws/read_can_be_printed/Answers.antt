use Rattle.log_text.proofs.Logs.{read_can_be_printed}
use Rattle.log_text.proofs.laws.read_can_be_printed.Goals as goal

pub returns : goal.returns
returns c = read_can_be_printed
