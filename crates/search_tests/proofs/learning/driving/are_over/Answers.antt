use Rattle.std.proofs.Common.{arith}
use Rattle.dg_base.specs.declared.Lit.{Lit}
use Rattle.cnf_problem.specs.Literals.{IsOver}
use Rattle.conflict_learn.proofs.Places.{each_before_next, each_of_all}
use Rattle.search_tests.proofs.learning.driving.are_over.Goals as goal

pub loop-i-preserved : goal.loop-i-preserved
loop-i-preserved c =
    let zero_lit : Lit = record { 0 = 0 } in
    each_before_next c.args.lits.now (IsOver c.args.vars) c.loop-i.i zero_lit (omega arith) c.loop-i.invariant (omega arith, omega arith)

pub returns : goal.returns
returns c = λ _.
    each_of_all c.args.lits.now (IsOver c.args.vars) c.loop-i.i (omega arith) c.loop-i.invariant
