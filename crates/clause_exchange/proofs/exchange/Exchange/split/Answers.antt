use Rattle.std.proofs.Common.{ap, sym, ◌∙◌, subst, refl, arith}
use Rattle.clause_exchange.specs.declared.rule.View.{View}
use Rattle.clause_exchange.specs.declared.counters.Counters.{Counters}
use Rattle.clause_exchange.specs.Seats.{SeatState, ExchangeId, IsTied, exchange_of}
use Rattle.clause_exchange.specs.Calls.{Cuts}
use Rattle.clause_exchange.proofs.Seating.{tied_below, tied_from}
use Rattle.clause_exchange.proofs.exchange.Exchange.split.Goals as goal

-- the place of the cut is below 16
pub split_at-token-requires-clause-within : goal.split_at-token-requires-clause-within
split_at-token-requires-clause-within c =
    let cut = subst (λ (u : View). Cuts u c.args.at) (sym (ap (λ (q : SeatState). q.view) c.seat.view_is)) c.requires.within in
    let h = (c.seat.invariant.0.parts cut.1.0 cut.1.1).within in
    let at = cut.1.2 in
    let e = ap (λ (x : ExchangeId). x.workers) (ap exchange_of c.seat.view_is ∙ (c.requires.same ∙ sym c.self.view_is)) in
    omega arith

pub without-owns-requires-clause-within : goal.without-owns-requires-clause-within
without-owns-requires-clause-within c =
    let cut = subst (λ (u : View). Cuts u c.args.at) (sym (ap (λ (q : SeatState). q.view) c.seat.view_is)) c.requires.within in
    let h = (c.seat.invariant.0.parts cut.1.0 cut.1.1).within in
    let at = cut.1.2 in
    let few = c.seat.invariant.0.few in
    omega arith

pub without-seat-inside-requires-clause-order : goal.without-seat-inside-requires-clause-order
without-seat-inside-requires-clause-order c =
    let cut = subst (λ (u : View). Cuts u c.args.at) (sym (ap (λ (q : SeatState). q.view) c.seat.view_is)) c.requires.within in
    let h = (c.seat.invariant.0.parts cut.1.0 cut.1.1).within in
    let at = cut.1.2 in
    let few = c.seat.invariant.0.few in
    omega arith

-- each half has a number
pub first_number-seat-inside-requires : goal.first_number-seat-inside-requires
first_number-seat-inside-requires c =
    let cut = subst (λ (u : View). Cuts u c.args.at) (sym (ap (λ (q : SeatState). q.view) c.seat.view_is)) c.requires.within in
    let a = cut.0.0 in
    (a.number, c.without-seat-inside.ensures.before a.number cut.0.2 ∙ (c.seat.invariant.0.parts a cut.0.1).own)

pub first_number-requires : goal.first_number-requires
first_number-requires c =
    let cut = subst (λ (u : View). Cuts u c.args.at) (sym (ap (λ (q : SeatState). q.view) c.seat.view_is)) c.requires.within in
    let b = cut.1.0 in
    (b.number, c.without-owns.ensures.behind b.number cut.1.2 ∙ (c.seat.invariant.0.parts b cut.1.1).own)

pub invariant_of-seat : goal.invariant_of-seat
invariant_of-seat c =
    let s = c.seat.inside in
    let told = c.split_at-token.ensures in
    let out = c.without-seat-inside in
    let least = c.first_number-seat-inside.result in
    let d : Counters = record { owns = out.result; written = s.counters.written; looked = s.counters.looked; loaded = s.counters.loaded } in (
      subst (λ u. IsTied u least d) (sym told.left)
          (tied_below s.token.me.0 s.number s.counters c.seat.invariant.0 c.args.at least d refl refl refl out.ensures.before out.ensures.inside out.ensures.behind c.first_number-seat-inside.ensures),
      told.slots.0 ∙ c.seat.invariant.1,
    )

pub invariant_of-result : goal.invariant_of-result
invariant_of-result c =
    let s = c.seat.inside in
    let told = c.split_at-token.ensures in
    let out = c.without-owns in
    let least = c.first_number.result in
    let d : Counters = record { owns = out.result; written = s.counters.written; looked = s.counters.looked; loaded = s.counters.loaded } in (
      subst (λ u. IsTied u least d) (sym told.right)
          (tied_from s.token.me.0 s.number s.counters c.seat.invariant.0 c.args.at least d refl refl refl (λ k lt. out.ensures.inside k (omega arith) lt) out.ensures.behind c.first_number.ensures),
      told.slots.1,
    )
