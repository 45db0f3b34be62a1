use Rattle.std.proofs.Common.{◌≢◌, ℕ}
use Rattle.std.proofs.lemmas.Result.{IfErr-weaker}
use Rattle.dg_base.specs.declared.refusal.Refusal.TheVariants.{OutOfMemory}
use Rattle.c_stmt.specs.Programs.{HasCause}
use Rattle.c_token.specs.Tokens.{answer}
use Rattle.c_program.specs.Accepting.{IsRefused, no_tokens}
use Rattle.c_program.proofs.Refusing.{lexed, unlexed, unread}
use Rattle.c_program.proofs.reading.read.Goals as goal

pub returns-in-Ok-clause-refused : goal.returns-in-Ok-clause-refused
returns-in-Ok-clause-refused c =
    let text = c.args.text.now in
    let tokens = c.in-Ok.tokens in
    IfErr-weaker c.parse.result (HasCause tokens) (λ e. e ≢ OutOfMemory → (bound : ℕ) → IsRefused bound text e) (unread text tokens (lexed c.tokens.result (answer text) tokens c.tokens.ensures c.in-Ok.is)) c.parse.ensures.refused

pub returns-in-Err-clause-refused : goal.returns-in-Err-clause-refused
returns-in-Err-clause-refused c = λ n bound. no_tokens c.in-Err.refusal (unlexed c.tokens.result (answer c.args.text.now) c.in-Err.refusal c.tokens.ensures c.in-Err.is n)
