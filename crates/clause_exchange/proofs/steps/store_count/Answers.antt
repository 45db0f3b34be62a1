use Rattle.std.proofs.Common.{◌+◌, arith, sym, subst}
use mathlib.Core.Option.{none}
use Rattle.atomic_table.specs.Table.{Allows, step}
use Rattle.clause_exchange.specs.Rule.{HoldsFor}
use Rattle.clause_exchange.specs.Steps.{Shares}
use Rattle.clause_exchange.proofs.Storing.{shares}
use Rattle.clause_exchange.proofs.steps.store_count.Goals as goal

pub store-requires : goal.store-requires
store-requires g c =
    let k = c.args.board.now.table.shared.key in
    let z = c.args.board.now.table.shared.table_id in
    let me = c.args.seat.now.me in
    let r = c.requires.1.1 in (
      c.requires.0,
      (let s = c.args.board.now.sized.0 in let w = r.1.0 in omega arith),
      subst (λ i. Allows (HoldsFor k.problem.now k.workers k.share_words) z.slots c.args.seat.now.id me (2 + i) (λ _. c.args.written) (λ _. Shares (step z.slots (2 + i) c.args.written 0 none) me c.args.written)) (sym r.0)
          (subst (λ x. Allows (HoldsFor k.problem.now k.workers k.share_words) z.slots c.args.seat.now.id me (2 + g.told.number) (λ _. x) (λ _. Shares (step z.slots (2 + g.told.number) x 0 none) me x)) (sym r.1.1)
          (shares k.problem.now k.workers k.share_words z.slots c.args.seat.now.id me g.told c.requires.1.0.0 c.requires.1.0.1)),
    )
