use Rattle.std.proofs.Common.{◌+◌, ap, arith}
use Rattle.conflict_learn.proofs.Steps.{no_marks}
use Rattle.conflict_learn.proofs.resolvent.Resolvent.new.Goals as goal

pub returns-clause-marks : goal.returns-clause-marks
returns-clause-marks c =
    let fresh = c.in_ok-vec.ensures.items_if_clones_equal (λ y e. e) in
    rw fresh (no_marks c.args.trail.now (c.vars.result + 1) (ap (λ n. n + 1) c.vars.ensures) (omega arith))
