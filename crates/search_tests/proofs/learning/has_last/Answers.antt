use Rattle.std.proofs.Common.{get_or, arith}
use Rattle.std.proofs.lemmas.List.Elements.{Contains-get_or}
use Rattle.dg_base.specs.declared.Lit.{Lit}
use Rattle.cnf_problem.specs.Literals.{negated}
use Rattle.cnf_problem.proofs.LiteralLaws.{var-negated}
use Rattle.search_tests.proofs.learning.has_last.Goals as goal

pub level_of-requires : goal.level_of-requires
level_of-requires c =
    let zero_lit : Lit = record { 0 = 0 } in
    let m : Lit = get_or c.args.clause.now c.loop-i.i zero_lit in
    (negated m, c.requires m (Contains-get_or c.args.clause.now c.loop-i.i zero_lit (omega arith)), var-negated m)
