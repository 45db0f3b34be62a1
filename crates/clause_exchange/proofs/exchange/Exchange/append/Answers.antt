use Rattle.std.proofs.Common.{ap, sym, ◌∙◌, subst}
use Rattle.clause_exchange.specs.Seats.{SeatState, IsTied}
use Rattle.clause_exchange.specs.Calls.{HasOne}
use Rattle.clause_exchange.specs.Steps.{mine, with_entry, IsAbove}
use Rattle.clause_exchange.proofs.Tying.{tied_same}
use Rattle.clause_exchange.proofs.exchange.Exchange.append.Goals as goal

pub invariant_of-seat : goal.invariant_of-seat
invariant_of-seat c =
    let s = c.seat.inside in
    let one = subst HasOne (sym (ap (λ (q : SeatState). q.view) c.seat.view_is)) c.requires.one in
    let v = s.token.me.0 in
    let told = c.append_lemma.ensures in
    let now = with_entry (mine v) c.append_lemma.result c.args.lemma.now in (
      subst (λ u. IsTied u s.number s.counters) (sym told.log) (tied_same v s.number s.counters c.seat.invariant.0 one now.log now.seen now.offers now.loads),
      told.slots ∙ c.seat.invariant.1,
    )

pub returns-clause-fresh : goal.returns-clause-fresh
returns-clause-fresh c = subst (λ (q : SeatState). IsAbove c.append_lemma.result (mine q.view).log) c.seat.view_is c.append_lemma.ensures.fresh
