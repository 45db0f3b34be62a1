use Rattle.std.proofs.lemmas.Result.{IfOk-weaker}
use Rattle.word_settings.proofs.command_line.with.Goals as goal

pub returns : goal.returns
returns c = IfOk-weaker c.arg.result _ _ (λ d h. h.shape c.requires) c.arg.ensures
