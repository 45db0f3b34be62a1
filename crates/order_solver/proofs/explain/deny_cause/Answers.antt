use Rattle.std.proofs.Common.{subst}
use Rattle.order_solver.specs.declared.caused.Cause.{Cause}
use Rattle.order_solver.specs.Parts.{IsNamed}
use Rattle.order_solver.proofs.Cycles.{own_denied, pair_denied}
use Rattle.order_solver.proofs.explain.deny_cause.Goals as goal

pub returns-in_ok-deny-in-Own-clause-denies : goal.returns-in_ok-deny-in-Own-clause-denies
returns-in_ok-deny-in-Own-clause-denies c =
    let d = own_denied c.args.problem.now c.in-Own.atom c.args.clause.now c.deny.new.clause (subst (λ (z : Cause). IsNamed c.args.problem.now z) c.in-Own.is c.requires) c.in_ok-deny-in-Own.ensures.ok in
    rw c.in-Own.is d.denies

pub returns-in_ok-deny-in-Own-clause-more : goal.returns-in_ok-deny-in-Own-clause-more
returns-in_ok-deny-in-Own-clause-more c =
    let d = own_denied c.args.problem.now c.in-Own.atom c.args.clause.now c.deny.new.clause (subst (λ (z : Cause). IsNamed c.args.problem.now z) c.in-Own.is c.requires) c.in_ok-deny-in-Own.ensures.ok in
    d.more

pub returns-in_ok-deny-in-Own-clause-denying : goal.returns-in_ok-deny-in-Own-clause-denying
returns-in_ok-deny-in-Own-clause-denying c =
    let d = own_denied c.args.problem.now c.in-Own.atom c.args.clause.now c.deny.new.clause (subst (λ (z : Cause). IsNamed c.args.problem.now z) c.in-Own.is c.requires) c.in_ok-deny-in-Own.ensures.ok in
    rw c.in-Own.is d.denying

pub returns-in_ok-deny-in-Pair-2-clause-denies : goal.returns-in_ok-deny-in-Pair-2-clause-denies
returns-in_ok-deny-in-Pair-2-clause-denies c =
    let d = pair_denied c.args.problem.now c.in-Pair.read_from c.in-Pair.write_order c.args.clause.now c.deny-in-Pair.new.clause c.deny-in-Pair-2.new.clause (subst (λ (z : Cause). IsNamed c.args.problem.now z) c.in-Pair.is c.requires) c.in_ok-deny-in-Pair.ensures.ok c.in_ok-deny-in-Pair-2.ensures.ok in
    rw c.in-Pair.is d.denies

pub returns-in_ok-deny-in-Pair-2-clause-more : goal.returns-in_ok-deny-in-Pair-2-clause-more
returns-in_ok-deny-in-Pair-2-clause-more c =
    let d = pair_denied c.args.problem.now c.in-Pair.read_from c.in-Pair.write_order c.args.clause.now c.deny-in-Pair.new.clause c.deny-in-Pair-2.new.clause (subst (λ (z : Cause). IsNamed c.args.problem.now z) c.in-Pair.is c.requires) c.in_ok-deny-in-Pair.ensures.ok c.in_ok-deny-in-Pair-2.ensures.ok in
    d.more

pub returns-in_ok-deny-in-Pair-2-clause-denying : goal.returns-in_ok-deny-in-Pair-2-clause-denying
returns-in_ok-deny-in-Pair-2-clause-denying c =
    let d = pair_denied c.args.problem.now c.in-Pair.read_from c.in-Pair.write_order c.args.clause.now c.deny-in-Pair.new.clause c.deny-in-Pair-2.new.clause (subst (λ (z : Cause). IsNamed c.args.problem.now z) c.in-Pair.is c.requires) c.in_ok-deny-in-Pair.ensures.ok c.in_ok-deny-in-Pair-2.ensures.ok in
    rw c.in-Pair.is d.denying
