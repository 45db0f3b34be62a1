use Rattle.std.proofs.Common.{false}
use Rattle.log_text.proofs.Logs.{read_can_be_printed}
use Rattle.log_tests.proofs.texts.again.Goals as goal

pub printed-requires : goal.printed-requires
printed-requires c = read_can_be_printed false c.in_ok-head.head c.in_ok-head.log c.args.text.now c.in_ok-head.ensures.read
