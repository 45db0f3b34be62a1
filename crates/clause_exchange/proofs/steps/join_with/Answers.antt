use Rattle.std.proofs.Common.{arith}
use Rattle.clause_exchange.proofs.Splitting.{joins}
use Rattle.clause_exchange.proofs.steps.join_with.Goals as goal

pub join_seat-requires : goal.join_seat-requires
join_seat-requires c =
    let k = c.args.board.now.table.shared.key in
    (c.requires.same.0, c.requires.same.1, c.requires.slots, (let s = c.args.board.now.sized.0 in omega arith), joins k.problem.now k.workers k.share_words c.args.seat.now.id c.args.other.id c.args.seat.now.me.0 c.args.other.me.0 c.requires.live.0 c.requires.live.1)
