use Rattle.std.proofs.Common.{◌≡◌, ◌+◌, ℕ, length, arith, sym, ap, subst, ◌∙◌}
use mathlib.Core.Option.{none}
use Rattle.atomic_table.specs.Table.{Allows, step}
use Rattle.clause_exchange.specs.Rule.{HoldsFor, row_start, row_words}
use Rattle.clause_exchange.specs.Steps.{Stores}
use Rattle.clause_exchange.proofs.Storing.{stores}
use Rattle.clause_exchange.proofs.steps.store_word.Goals as goal

where_it_goes : (n w a b k number place written result : ℕ) → a ≡ n → b ≡ w → number ≡ k → written ≡ place → result ≡ row_start n w number + written → result ≡ row_start a b k + place
where_it_goes n w a b k number place written result e f q p r = r ∙ ap (λ m. row_start n w number + m) p ∙ ap (λ m. row_start n w m + place) q ∙ ap (λ m. row_start m w k + place) (sym e) ∙ ap (λ m. row_start a m k + place) (sym f)

pub store-requires : goal.store-requires
store-requires g c =
    let k = c.args.board.now.table.shared.key in
    let z = c.args.board.now.table.shared.table_id in
    let me = c.args.seat.now.me in
    let part = g.told in
    let r = c.requires.1.1 in
    let at = where_it_goes c.args.board.now.workers c.args.board.now.share_words me.0.workers me.0.share_words part.number c.args.number (length (row_words part)) c.args.written c.place.result r.0.0 r.0.1 r.1.0 r.1.1.1.0 c.place.ensures.place in (
      c.requires.0,
      c.place.ensures.inside,
      subst (λ i. Allows (HoldsFor k.problem.now k.workers k.share_words) z.slots c.args.seat.now.id me i (λ _. c.args.word) (λ _. Stores (step z.slots i c.args.word 0 none) me c.args.word)) (sym at)
          (stores k.problem.now k.workers k.share_words z.slots c.args.seat.now.id me part c.args.word c.requires.1.0 (let a = r.1.1.1.1 in let b = r.0.1 in let d = r.1.1.1.0 in omega arith)),
    )
