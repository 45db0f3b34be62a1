use Rattle.std.proofs.lemmas.Result.{IfOk-weaker}
use Rattle.program_log.specs.Logs.{IsAnswerFor, IsCheck}
use Rattle.program_log.proofs.checking.check_text.Goals as goal

pub returns : goal.returns
returns c =
    let p = c.args.checked.now in
    let x = c.in_ok-encoded in
    IfOk-weaker c.check_for.result (IsAnswerFor p x.encoded c.args.text.now) (IsCheck c.args.model p c.args.text.now) (λ a h. record { encoded = x.encoded; chain = x.ensures.chain; answer = h }) c.check_for.ensures
