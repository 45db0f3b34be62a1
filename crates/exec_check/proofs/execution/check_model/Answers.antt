use Rattle.std.proofs.Common.{sym, subst}
use Rattle.axiom_model.specs.WellMade.{WellMade}
use Rattle.consistency.specs.Seen.{execution_seen}
use Rattle.exec_check.specs.Running.{shape}
use Rattle.exec_check.proofs.Whole.{well_made}
use Rattle.exec_check.proofs.execution.check_model.Goals as goal

pub check_consistent-requires : goal.check_consistent-requires
check_consistent-requires c =
    let s = shape c.args.checked.now in
    let k = c.args.candidate.now in
    let ts = c.args.threads.now in
    let w = subst (WellMade s) (sym c.requires.seen) (well_made c.args.checked.now k c.requires.whole) in
    (s, subst (λ rf. WellMade s (execution_seen ts rf c.as_slice.result.now)) (sym c.as_slice-rf.ensures) (subst (λ co. WellMade s (execution_seen ts k.rf co)) (sym c.as_slice.ensures) w))
