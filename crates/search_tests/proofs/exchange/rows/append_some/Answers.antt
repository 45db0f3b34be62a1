use Rattle.std.proofs.Common.{suc, ◌+◌, [], ◌∷◌, ap, sym, ◌∙◌, subst, arith}
use Rattle.cnf_problem.specs.declared.problem.Problem.{Problem}
use Rattle.cnf_problem.specs.Formulas.{true_lit}
use Rattle.cnf_problem.specs.Problems.{Follows}
use Rattle.clause_exchange.specs.Seats.{ExchangeId}
use Rattle.search_tests.proofs.Readiness.{follows_clause, ready_less}
use Rattle.search_tests.proofs.exchange.rows.append_some.Goals as goal

pub append_and_share-requires-clause-ready : goal.append_and_share-requires-clause-ready
append_and_share-requires-clause-ready c = c.loop-i.invariant.ready 1 (ready_less _ c.args.times (c.loop-i._i + 1) (omega arith) c.requires.ready)

pub append_and_share-requires-clause-follows : goal.append_and_share-requires-clause-follows
append_and_share-requires-clause-follows c =
    subst (λ (p : Problem). Follows p [] c.in_ok-lemma.lemma) (sym (ap (λ (x : ExchangeId). x.problem) c.loop-i.invariant.same))
    (follows_clause _ c.in_ok-lemma.lemma (true_lit ∷ []) c.requires.listed c.in_ok-lemma.ensures.1 c.in_ok-lemma.ensures.0)

pub loop-i-preserved : goal.loop-i-preserved
loop-i-preserved c = record {
  same = c.append_and_share.ensures.same ∙ c.loop-i.invariant.same;
  number = c.append_and_share.ensures.on.number ∙ c.loop-i.invariant.number;
  ready = λ n r. c.append_and_share.ensures.on.ready n (c.loop-i.invariant.ready (suc n) (ready_less _ (c.loop-i._i + 1 + n) (c.loop-i._i + suc n) (omega arith) r));
}

pub returns-clause-ready : goal.returns-clause-ready
returns-clause-ready c = λ n r. c.loop-i.invariant.ready n (ready_less _ (c.args.times + n) (c.loop-i._i + n) (omega arith) r)
