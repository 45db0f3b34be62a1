use Rattle.std.proofs.Common.{arith}
use Rattle.clause_exchange.proofs.Stepping.{agrees}
use Rattle.clause_exchange.proofs.steps.tell_numbers.Goals as goal

pub load-found-requires : goal.load-found-requires
load-found-requires c =
    let k = c.args.board.now.table.shared.key in
    let z = c.args.board.now.table.shared.table_id in
    (c.requires.same, (let s = c.args.board.now.sized.0 in omega arith), agrees k.problem.now k.workers k.share_words z.slots c.args.seat.now.id c.args.seat.now.me c.requires.live)
