use Rattle.std.proofs.Common.{ap, ◌∙◌, arith}
use Rattle.std.specs.Prelude.{Some}
use Rattle.cnf_problem.proofs.LiteralLaws.{tested_same}
use Rattle.trail_state.specs.Trails.{lit_of}
use Rattle.conflict_learn.proofs.Resolving.{in_front}
use Rattle.search_tests.proofs.learning.stands_before.Goals as goal

pub returns-then-eq : goal.returns-then-eq
returns-then-eq c =
    let same = tested_same c.lit_at.result c.args.lit c.eq.result c.eq.ensures c.if-eq.true in
    λ _. in_front lit_of c.args.trail.now.entries c.args.n c.loop-k.k c.args.lit (c.lit_at.ensures ∙ ap Some same) (omega arith)
