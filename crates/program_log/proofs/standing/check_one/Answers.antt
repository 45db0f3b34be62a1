use Rattle.std.proofs.Common.{List, ◌∷◌, [], ◌++◌}
use Rattle.lemma_log.specs.declared.Entry.{Entry}
use Rattle.log_checker.specs.Checking.{HasTaken}
use Rattle.program_log.specs.declared.standing.Standing.TheVariants.{Failed}
use Rattle.program_log.specs.Pieces.{IsChecked}
use Rattle.program_log.proofs.Standings.{last_fails, told_so}
use Rattle.program_log.proofs.standing.check_one.Goals as goal

pub returns-in-Err : goal.returns-in-Err
returns-in-Err c =
    let q = c.args.problem.now in
    let e = c.args.entry.now in
    let why = c.in-Err.why in
    told_so c.failed.result (Failed why) why (λ s. (entries : List Entry) → HasTaken q entries c.args.checker → IsChecked q (entries ++ e ∷ []) s) c.failed.ensures.is c.failed.ensures.told
    (λ told entries taken. last_fails q entries e why taken.good (c.in-Err.ensures.refused entries taken) told)
