use Rattle.std.proofs.Common.{◌≢◌}
use Rattle.std.proofs.lemmas.Result.{IfErr-weaker}
use Rattle.dg_base.specs.declared.refusal.Refusal.TheVariants.{OutOfMemory}
use Rattle.c_check.specs.WellFormed.{IsFirstRefusal}
use Rattle.c_program.specs.Accepting.{IsRefused, broken}
use Rattle.c_program.proofs.reading.read_program.Goals as goal

pub returns-in-Ok-clause-refused : goal.returns-in-Ok-clause-refused
returns-in-Ok-clause-refused c =
    let program = c.in-Ok.program in
    let bound = c.args.bound in
    IfErr-weaker c.check.result (IsFirstRefusal bound program) (λ e. e ≢ OutOfMemory → IsRefused bound c.args.text.now e) (λ e h n. broken program e c.in-Ok.ensures.read h n) c.check.ensures.refused
