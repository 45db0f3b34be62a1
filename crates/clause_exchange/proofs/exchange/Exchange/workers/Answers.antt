use Rattle.std.proofs.Common.{subst}
use Rattle.std.specs.Prelude.{Contains}
use Rattle.clause_exchange.specs.declared.rule.Part.{Part}
use Rattle.clause_exchange.specs.Seats.{SeatState}
use Rattle.clause_exchange.specs.Calls.{IsNumbered}
use Rattle.clause_exchange.proofs.exchange.Exchange.workers.Goals as goal

pub returns-clause-numbers : goal.returns-clause-numbers
returns-clause-numbers c =
    subst (λ (q : SeatState). (part : Part) → Contains q.view.parts part → IsNumbered q.view.workers part) c.seat.view_is
    (λ part h. let tied = c.seat.invariant.0.parts part h in record { within = tied.within; wide = tied.wide; own = tied.blank })
