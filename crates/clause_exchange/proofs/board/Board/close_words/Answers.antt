use Rattle.std.proofs.Common.{arith, subst}
use Rattle.std.specs.Prelude.{slice_index}
use Rattle.std.specs.Slots.{slots_items}
use Rattle.clause_exchange.specs.Rule.{verdict_of}
use Rattle.clause_exchange.specs.Closing.{IsClosed}
use Rattle.clause_exchange.proofs.Opening.{closed_with, index_of}
use Rattle.clause_exchange.proofs.board.Board.close_words.Goals as goal

pub free-requires : goal.free-requires
free-requires c k lt = absurd (let a = c.close_with-closed.ensures.counts.1 in let b = c.args.self.no_slots in omega arith)

pub returns-clause-closed : goal.returns-clause-closed
returns-clause-closed c =
    let k = c.args.self.table.shared.key in
    let words = slots_items c.close_with-closed.result.words in
    let r = closed_with k.problem.now k.workers k.share_words c.args.seat.id c.args.seat.me.0 words (slots_items c.close_with-closed.result.slots) c.requires.live c.close_with-closed.ensures.values.2 in
    let ticket = index_of words 0 c.word-ticket.result c.word-ticket.ensures in
    let verdict = index_of words 1 c.word-verdict.result c.word-verdict.ensures in
    subst (λ n. IsClosed c.args.seat.me.0 n (verdict_of c.word-verdict.result)) ticket
    (subst (λ m. IsClosed c.args.seat.me.0 (slice_index words 0) (verdict_of m)) verdict r.1)

pub returns-clause-ticket : goal.returns-clause-ticket
returns-clause-ticket c =
    let k = c.args.self.table.shared.key in
    let words = slots_items c.close_with-closed.result.words in
    let r = closed_with k.problem.now k.workers k.share_words c.args.seat.id c.args.seat.me.0 words (slots_items c.close_with-closed.result.slots) c.requires.live c.close_with-closed.ensures.values.2 in
    let ticket = index_of words 0 c.word-ticket.result c.word-ticket.ensures in
    let small = r.3 in
    omega arith
