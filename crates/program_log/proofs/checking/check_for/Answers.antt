use Rattle.std.proofs.Common.{ℕ, false, subst, sym}
use Rattle.log_text.specs.Faults.{IsFaultOf}
use Rattle.program_log.specs.declared.answers.LogAnswer.TheVariants.{BadLog}
use Rattle.program_log.specs.Logs.{IsAnswerFor}
use Rattle.program_log.proofs.Answering.{bad_text}
use Rattle.program_log.proofs.checking.check_for.Goals as goal

pub returns-in-Err-LogText : goal.returns-in-Err-LogText
returns-in-Err-LogText c =
    let p = c.args.checked.now in
    let x = c.args.encoded.now in
    let text = c.args.text.now in
    let fault = c.in-Err-LogText in
    subst (λ (n : ℕ). IsAnswerFor p x text (BadLog n)) (sym fault.line-is) (bad_text p x text fault.line (subst (IsFaultOf false text) fault.field-0-is fault.ensures.refused)).0
