use Rattle.std.proofs.Common.{ap, sym, subst}
use Rattle.clause_exchange.specs.declared.rule.View.{View}
use Rattle.clause_exchange.specs.Seats.{SeatState}
use Rattle.clause_exchange.specs.Rule.{verdict_of}
use Rattle.clause_exchange.specs.Closing.{IsClosed}
use Rattle.clause_exchange.proofs.ClosingLaws.{tickets_in, entries_follow, safe_is_empty, reads_were_shared}
use Rattle.clause_exchange.proofs.exchange.Exchange.close.Goals as goal

pub returns-clause-tickets : goal.returns-clause-tickets
returns-clause-tickets c =
    let v = c.args.seat.view in
    let closed = subst (λ u. IsClosed v c.close_words-ticket.result.0 u) (sym c.verdict_in.ensures) (subst (λ (u : View). IsClosed u c.close_words-ticket.result.0 (verdict_of c.close_words-ticket.result.1)) (ap (λ (q : SeatState). q.view) c.seat.view_is) c.close_words-ticket.ensures.closed) in
    tickets_in v c.close_words-ticket.result.0 c.verdict_in.result closed.state c.requires.all

pub returns-clause-follows : goal.returns-clause-follows
returns-clause-follows c =
    let v = c.args.seat.view in
    let closed = subst (λ u. IsClosed v c.close_words-ticket.result.0 u) (sym c.verdict_in.ensures) (subst (λ (u : View). IsClosed u c.close_words-ticket.result.0 (verdict_of c.close_words-ticket.result.1)) (ap (λ (q : SeatState). q.view) c.seat.view_is) c.close_words-ticket.ensures.closed) in
    entries_follow v c.close_words-ticket.result.0 c.verdict_in.result closed.state c.requires.all

pub returns-clause-only_if_offered : goal.returns-clause-only_if_offered
returns-clause-only_if_offered c =
    let v = c.args.seat.view in
    let closed = subst (λ u. IsClosed v c.close_words-ticket.result.0 u) (sym c.verdict_in.ensures) (subst (λ (u : View). IsClosed u c.close_words-ticket.result.0 (verdict_of c.close_words-ticket.result.1)) (ap (λ (q : SeatState). q.view) c.seat.view_is) c.close_words-ticket.ensures.closed) in
    closed.unsafe c.requires.all

pub returns-clause-only_if_empty : goal.returns-clause-only_if_empty
returns-clause-only_if_empty c =
    let v = c.args.seat.view in
    let closed = subst (λ u. IsClosed v c.close_words-ticket.result.0 u) (sym c.verdict_in.ensures) (subst (λ (u : View). IsClosed u c.close_words-ticket.result.0 (verdict_of c.close_words-ticket.result.1)) (ap (λ (q : SeatState). q.view) c.seat.view_is) c.close_words-ticket.ensures.closed) in
    safe_is_empty v c.close_words-ticket.result.0 c.verdict_in.result closed.state c.requires.all

pub returns-clause-seen : goal.returns-clause-seen
returns-clause-seen c =
    let v = c.args.seat.view in
    let closed = subst (λ u. IsClosed v c.close_words-ticket.result.0 u) (sym c.verdict_in.ensures) (subst (λ (u : View). IsClosed u c.close_words-ticket.result.0 (verdict_of c.close_words-ticket.result.1)) (ap (λ (q : SeatState). q.view) c.seat.view_is) c.close_words-ticket.ensures.closed) in
    closed.seen

pub returns-clause-offered : goal.returns-clause-offered
returns-clause-offered c =
    let v = c.args.seat.view in
    let closed = subst (λ u. IsClosed v c.close_words-ticket.result.0 u) (sym c.verdict_in.ensures) (subst (λ (u : View). IsClosed u c.close_words-ticket.result.0 (verdict_of c.close_words-ticket.result.1)) (ap (λ (q : SeatState). q.view) c.seat.view_is) c.close_words-ticket.ensures.closed) in
    closed.offered

pub returns-clause-reads : goal.returns-clause-reads
returns-clause-reads c =
    let v = c.args.seat.view in
    let closed = subst (λ u. IsClosed v c.close_words-ticket.result.0 u) (sym c.verdict_in.ensures) (subst (λ (u : View). IsClosed u c.close_words-ticket.result.0 (verdict_of c.close_words-ticket.result.1)) (ap (λ (q : SeatState). q.view) c.seat.view_is) c.close_words-ticket.ensures.closed) in
    reads_were_shared v c.close_words-ticket.result.0 c.verdict_in.result closed
