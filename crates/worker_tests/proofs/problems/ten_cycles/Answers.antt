use Rattle.std.proofs.Common.{arith}
use Rattle.std.proofs.lemmas.List.Elements.{All-push}
use Rattle.cnf_problem.specs.Literals.{IsOver}
use Rattle.worker_tests.proofs.problems.ten_cycles.Goals as goal

pub loop-i-preserved : goal.loop-i-preserved
loop-i-preserved c =
    let third : IsOver 31 c.negated.result = (omega (arith, c.negated.ensures.variable, c.part.ensures.third.0), omega (arith, c.negated.ensures.variable, c.part.ensures.third.1)) in
    record {
      vars = c.in_ok-add_part.ensures.vars;
      atoms = c.in_ok-add_part.ensures.atoms;
      thirds = rw c.in_ok-push.ensures.ok (All-push (IsOver 31) c.loop-i.thirds _ c.loop-i.invariant.thirds third);
    }
