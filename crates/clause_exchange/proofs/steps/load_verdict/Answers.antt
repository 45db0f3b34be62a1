use Rattle.std.proofs.Common.{arith}
use Rattle.clause_exchange.proofs.Offering.{sees}
use Rattle.clause_exchange.proofs.steps.load_verdict.Goals as goal

pub load-requires : goal.load-requires
load-requires g c =
    let k = c.args.board.now.table.shared.key in
    let z = c.args.board.now.table.shared.table_id in
    (c.requires.0, (let s = c.args.board.now.sized.0 in omega arith), sees k.problem.now k.workers k.share_words z.slots c.args.seat.now.id c.args.seat.now.me g.told c.requires.1)
