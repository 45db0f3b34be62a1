use Rattle.std.proofs.Common.{refl}
use Rattle.log_text.proofs.Feeding.{read_nothing}
use Rattle.log_text.proofs.reading.LogReader.of.Goals as goal

pub returns : goal.returns
returns c = read_nothing c.args.plain_only _ refl refl c.new.ensures.items c.new-2.ensures.items refl
