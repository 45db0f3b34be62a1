use Rattle.std.proofs.Common.{eqb, sym, subst, arith}
use mathlib.Core.Option.{none}
use prog.Atomic.{either}
use Rattle.atomic_table.specs.Table.{Allows, step}
use Rattle.clause_exchange.specs.Rule.{HoldsFor}
use Rattle.clause_exchange.specs.Steps.{Offers}
use Rattle.clause_exchange.proofs.Offering.{offers}
use Rattle.clause_exchange.proofs.steps.offer_verdict.Goals as goal

pub compare_exchange-requires : goal.compare_exchange-requires
compare_exchange-requires g c =
    let k = c.args.board.now.table.shared.key in
    let z = c.args.board.now.table.shared.table_id in (
      c.requires.0,
      (let s = c.args.board.now.sized.0 in omega arith),
      subst (λ code. Allows (HoldsFor k.problem.now k.workers k.share_words) z.slots c.args.seat.now.id c.args.seat.now.me 1 (λ m. either (eqb m 0) code m) (Offers (step z.slots 1 0 code none) c.args.seat.now.me)) (sym c.verdict_code-code.ensures)
          (offers k.problem.now k.workers k.share_words z.slots c.args.seat.now.id c.args.seat.now.me g.told c.args.verdict c.requires.1),
    )
