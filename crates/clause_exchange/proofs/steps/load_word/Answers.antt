use Rattle.std.proofs.Common.{◌≡◌, ◌+◌, ℕ, sym, ap, subst, ◌∙◌}
use mathlib.Core.Option.{none}
use Rattle.atomic_table.specs.Table.{Allows, step}
use Rattle.clause_exchange.specs.Rule.{HoldsFor, row_start}
use Rattle.clause_exchange.specs.Steps.{Loads}
use Rattle.clause_exchange.proofs.Looking.{loads}
use Rattle.clause_exchange.proofs.steps.load_word.Goals as goal

-- the word that is loaded is the next one of the row
where_it_is : (n w a b row place loaded result : ℕ) → a ≡ n → b ≡ w → place ≡ loaded → result ≡ row_start n w row + place → result ≡ row_start a b row + loaded
where_it_is n w a b row place loaded result e f p r = r ∙ ap (λ m. row_start n w row + m) p ∙ ap (λ m. row_start m w row + loaded) (sym e) ∙ ap (λ m. row_start a m row + loaded) (sym f)

pub load-requires : goal.load-requires
load-requires g c =
    let k = c.args.board.now.table.shared.key in
    let z = c.args.board.now.table.shared.table_id in
    let me = c.args.seat.now.me in
    let at = where_it_is c.args.board.now.workers c.args.board.now.share_words me.0.workers me.0.share_words c.args.row c.args.place g.told.1.loaded c.place.result c.requires.1.1.0.0 c.requires.1.1.0.1 c.requires.1.1.1.1.1.0 c.place.ensures.place in (
      c.requires.0,
      c.place.ensures.inside,
      subst (λ i. Allows (HoldsFor k.problem.now k.workers k.share_words) z.slots c.args.seat.now.id me i (λ n. n) (Loads (step z.slots i 0 0 none) me)) (sym at)
          (loads k.problem.now k.workers k.share_words z.slots c.args.seat.now.id me g.told.0 c.args.row g.told.1 c.requires.1.0 c.requires.1.1.1.0 c.requires.1.1.1.1.1.1.0),
    )

pub returns-clause-word : goal.returns-clause-word
returns-clause-word g c =
    let me = c.args.seat.now.me in
    let at = where_it_is c.args.board.now.workers c.args.board.now.share_words me.0.workers me.0.share_words c.args.row c.args.place g.told.1.loaded c.place.result c.requires.1.1.0.0 c.requires.1.1.0.1 c.requires.1.1.1.1.1.0 c.place.ensures.place in
    (c.load.ensures.2.1 c.args.row g.told.0 g.told.1 at c.requires.1.0.one c.requires.1.1.1.0 c.requires.1.1.1.1.1.1.0).0

pub returns-clause-plain : goal.returns-clause-plain
returns-clause-plain g c =
    let me = c.args.seat.now.me in
    let at = where_it_is c.args.board.now.workers c.args.board.now.share_words me.0.workers me.0.share_words c.args.row c.args.place g.told.1.loaded c.place.result c.requires.1.1.0.0 c.requires.1.1.0.1 c.requires.1.1.1.1.1.0 c.place.ensures.place in
    (c.load.ensures.2.1 c.args.row g.told.0 g.told.1 at c.requires.1.0.one c.requires.1.1.1.0 c.requires.1.1.1.1.1.1.0).1

pub returns-clause-over : goal.returns-clause-over
returns-clause-over g c =
    let me = c.args.seat.now.me in
    let at = where_it_is c.args.board.now.workers c.args.board.now.share_words me.0.workers me.0.share_words c.args.row c.args.place g.told.1.loaded c.place.result c.requires.1.1.0.0 c.requires.1.1.0.1 c.requires.1.1.1.1.1.0 c.place.ensures.place in
    (c.load.ensures.2.1 c.args.row g.told.0 g.told.1 at c.requires.1.0.one c.requires.1.1.1.0 c.requires.1.1.1.1.1.1.0).2
