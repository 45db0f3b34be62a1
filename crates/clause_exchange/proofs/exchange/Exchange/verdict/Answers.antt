use Rattle.std.proofs.Common.{ap, sym, ◌∙◌, subst}
use Rattle.clause_exchange.specs.Seats.{SeatState, IsTied}
use Rattle.clause_exchange.specs.Calls.{HasOne}
use Rattle.clause_exchange.specs.Steps.{mine, seeing}
use Rattle.clause_exchange.specs.Rule.{verdict_of}
use Rattle.clause_exchange.proofs.Tying.{tied_same}
use Rattle.clause_exchange.proofs.exchange.Exchange.verdict.Goals as goal

pub invariant_of-seat : goal.invariant_of-seat
invariant_of-seat c =
    let s = c.seat.inside in
    let one = subst HasOne (sym (ap (λ (q : SeatState). q.view) c.seat.view_is)) c.requires.one in
    let v = s.token.me.0 in
    let told = c.load_verdict-word.ensures in
    let now = seeing (mine v) (verdict_of c.load_verdict-word.result) in (
      subst (λ u. IsTied u s.number s.counters) (sym told.seen) (tied_same v s.number s.counters c.seat.invariant.0 one now.log now.seen now.offers now.loads),
      told.slots ∙ c.seat.invariant.1,
    )
