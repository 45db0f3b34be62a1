use Rattle.std.proofs.Common.{ap, sym, ◌∙◌, subst}
use Rattle.std.specs.Prelude.{Contains}
use Rattle.clause_exchange.specs.declared.rule.View.{View}
use Rattle.clause_exchange.specs.Seats.{ExchangeId, IsTied, exchange_of}
use Rattle.clause_exchange.proofs.Seating.{tied_both}
use Rattle.clause_exchange.proofs.exchange.Exchange.join.Goals as goal

pub invariant_of-seat : goal.invariant_of-seat
invariant_of-seat c =
    let v = c.seat.inside.token.me.0 in
    let w = c.other.inside.token.me.0 in
    let ours = ap exchange_of c.seat.view_is ∙ c.requires.same in
    let theirs = ap exchange_of c.other.view_is ∙ c.requires.other in
    let both = theirs ∙ sym ours in
    let told = c.tell_numbers.ensures in
    let joined = c.join_with.ensures in (
      subst (λ u. IsTied u c.seat.inside.number c.take_over.new.self) (sym (told.view ∙ joined.joined))
          (tied_both v w c.seat.inside.number c.other.inside.number c.seat.inside.counters c.other.inside.counters c.take_over.new.self c.seat.invariant.0 c.other.invariant.0
          (ap (λ (x : ExchangeId). x.workers) both) (ap (λ (x : ExchangeId). x.share_words) both) c.take_over.ensures
          (λ a b ha hb e. told.agree a b (subst (λ (u : View). Contains u.parts a) (sym joined.joined) ha) (subst (λ (u : View). Contains u.parts b) (sym joined.joined) hb) e)),
      told.slots ∙ (joined.slots ∙ c.seat.invariant.1),
    )
