use Rattle.std.proofs.Common.{arith}
use Rattle.clause_exchange.proofs.Stepping.{tells}
use Rattle.clause_exchange.proofs.steps.tell_lemma.Goals as goal

pub compare_exchange_with-found-requires : goal.compare_exchange_with-found-requires
compare_exchange_with-found-requires c =
    let k = c.args.board.now.table.shared.key in
    let z = c.args.board.now.table.shared.table_id in
    (c.requires.same, (let s = c.args.board.now.sized.0 in omega arith), tells k.problem.now k.workers k.share_words z.slots c.args.seat.now.id c.args.seat.now.me c.args.lemma.now c.requires.live)
