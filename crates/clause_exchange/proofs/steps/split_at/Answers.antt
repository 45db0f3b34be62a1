use Rattle.std.proofs.Common.{arith, ap, ◌∙◌}
use Rattle.clause_exchange.specs.declared.rule.View.{View}
use Rattle.clause_exchange.proofs.Stepping.{cuts}
use Rattle.clause_exchange.proofs.Splitting.{splits}
use Rattle.clause_exchange.proofs.steps.split_at.Goals as goal

pub load-found-requires : goal.load-found-requires
load-found-requires c =
    let k = c.args.board.now.table.shared.key in
    let z = c.args.board.now.table.shared.table_id in
    (c.requires.same, (let s = c.args.board.now.sized.0 in let w = c.requires.within in omega arith), cuts k.problem.now k.workers k.share_words z.slots c.args.seat.now.id c.args.seat.now.me c.args.at c.requires.live)

pub split_seat-requires : goal.split_seat-requires
split_seat-requires c =
    let k = c.args.board.now.table.shared.key in
    let seat = c.load-found.new.seat in
    (c.load-found.ensures.0 ∙ c.requires.same, (let s = c.args.board.now.sized.0 in omega arith), splits k.problem.now k.workers k.share_words seat.id seat.me.0 (ap (λ (v : View). v.spent) c.load-found.ensures.2.1 ∙ c.requires.live))
