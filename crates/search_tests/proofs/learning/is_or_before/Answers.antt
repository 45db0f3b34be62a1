use Rattle.std.proofs.Common.{inl, inr, take, subst}
use Rattle.std.specs.Prelude.{Contains}
use Rattle.cnf_problem.proofs.LiteralLaws.{tested_same}
use Rattle.trail_state.specs.Trails.{true_lits}
use Rattle.search_tests.proofs.learning.is_or_before.Goals as goal

pub returns-then-eq : goal.returns-then-eq
returns-then-eq c = λ _. inl (tested_same c.args.other c.args.lit c.eq.result c.eq.ensures c.if-eq.true)

pub returns : goal.returns
returns c = λ yes. inr (subst (λ z. Contains (true_lits (take c.args.n c.args.trail.now.entries)) z) c.negated.ensures.value (c.stands_before.ensures yes))
