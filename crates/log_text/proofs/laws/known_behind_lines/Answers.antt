use Rattle.log_text.proofs.Spelled.{known_behind}
use Rattle.log_text.proofs.laws.known_behind_lines.Goals as goal

pub returns : goal.returns
returns c = λ plain_only r fed given h. known_behind plain_only h.lines (record { stage = r.stage; rows = _ }) h.read
