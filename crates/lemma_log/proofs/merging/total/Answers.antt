use Rattle.std.proofs.Common.{◌≡◌, ◌+◌, length, sum_by, take, ap, sym, arith}
use Rattle.std.proofs.lemmas.List.Sums.{sum_by-take-le, sum_by_more}
use Rattle.lemma_log.proofs.merging.total.Goals as goal
use Rattle.lemma_log.proofs.merging.total.Goals.{After-len-total}

grown : (c : After-len-total) → sum_by length (take (c.loop-log.log-index + 1) c.args.logs.now) ≡ c.loop-log.total + c.len-total.result
grown c =
    let more = sum_by_more length c.args.logs.now c.loop-log.log-index c.log-item.result c.loop-log-test.true in
    let item = ap length c.log-item.is in
    omega (arith, more, item, c.loop-log.invariant, c.len-total.ensures)

pub overflow_add-total : goal.overflow_add-total
overflow_add-total c = omega (arith, grown c, sum_by-take-le length c.args.logs.now (c.loop-log.log-index + 1), c.requires)

pub loop-log-preserved : goal.loop-log-preserved
loop-log-preserved c = sym (grown c)
