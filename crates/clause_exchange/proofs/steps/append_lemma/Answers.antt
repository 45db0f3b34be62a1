use Rattle.std.proofs.Common.{◌≡◌, Some, arith, ap, sym, ◌∙◌, subst}
use Rattle.cnf_problem.specs.declared.problem.Problem.{Problem}
use Rattle.cnf_problem.specs.declared.problem.Lemma.{Lemma}
use Rattle.clause_exchange.specs.declared.rule.Part.{Part}
use Rattle.clause_exchange.specs.declared.rule.View.{View}
use Rattle.clause_exchange.specs.Steps.{MayAppend}
use Rattle.clause_exchange.proofs.Appending.{appends}
use Rattle.clause_exchange.proofs.steps.append_lemma.Goals as goal

-- what is announced has no part in whether the lemma may be appended
still_may : (p : Problem) (v w : View) (part : Part) (lemma : Lemma) → w ≡ record v { announced = Some lemma } → MayAppend p v part lemma → MayAppend p w part lemma
still_may p v w part lemma is may = subst (λ u. MayAppend p u part lemma) (sym is) (record {
  one = record { live = may.one.live; one = may.one.one };
  room = may.room;
  follows = may.follows;
  read = may.read;
  looked = may.looked;
})

pub fetch_add-requires : goal.fetch_add-requires
fetch_add-requires g c =
    let k = c.args.board.now.table.shared.key in
    let z = c.args.board.now.table.shared.table_id in
    let seat = c.tell_lemma.new.seat in
    let told = c.tell_lemma.ensures in (
      told.same ∙ c.requires.0,
      (let s = c.args.board.now.sized.0 in omega arith),
      appends k.problem.now k.workers k.share_words z.slots seat.id seat.me c.args.lemma.now g.told (still_may k.problem.now c.args.seat.now.me.0 seat.me.0 g.told c.args.lemma.now told.announced c.requires.1) (ap (λ (v : View). v.announced) told.announced),
    )

pub returns-clause-fresh : goal.returns-clause-fresh
returns-clause-fresh g c = c.fetch_add.ensures.2.2 g.told (ap (λ (v : View). v.parts) c.tell_lemma.ensures.announced ∙ c.requires.1.one.one)
