use Rattle.std.proofs.Common.{sym, subst}
use Rattle.clause_exchange.specs.Seats.{IsTied}
use Rattle.clause_exchange.proofs.Seating.{tied_new}
use Rattle.clause_exchange.proofs.exchange.Exchange.new.Goals as goal

pub invariant_of-seat : goal.invariant_of-seat
invariant_of-seat c =
    let told = c.in_ok-board.ensures in (
      subst (λ v. IsTied v 0 c.new.result) (sym told.view) (tied_new c.args.problem.now c.args.workers c.args.share_words c.new.result c.requires.some c.requires.few c.requires.words c.new.ensures),
      told.slots,
    )
