use Rattle.std.proofs.Common.{arith, rules}
use Rattle.std.proofs.lemmas.Grind.{common_steps}
use Rattle.dg_top.proofs.text.put_reads.Goals as goal

pub loop-count-init : goal.loop-count-init
loop-count-init c = record { text = search rules }

pub loop-count-preserved : goal.loop-count-preserved
loop-count-preserved c = record { text = grind (arith, common_steps) }
