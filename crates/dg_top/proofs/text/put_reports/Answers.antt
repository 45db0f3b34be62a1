use Rattle.std.proofs.Common.{arith, rules}
use Rattle.std.proofs.lemmas.Grind.{common_steps}
use Rattle.dg_top.proofs.text.put_reports.Goals as goal

pub loop-report-init : goal.loop-report-init
loop-report-init c = record { text = search rules }

pub loop-report-preserved : goal.loop-report-preserved
loop-report-preserved c = record { text = grind (arith, common_steps) }
