use Rattle.std.proofs.Common.{◌≡◌, ◌⊎◌, take, arith}
use Rattle.dg_base.specs.declared.Lit.{Lit}
use Rattle.cnf_problem.specs.Chains.{IsFalse}
use Rattle.trail_state.specs.Trails.{true_lits}
use Rattle.conflict_learn.proofs.Places.{each_before_next, each_of_all}
use Rattle.search_tests.proofs.learning.others_before.Goals as goal

pub loop-i-preserved : goal.loop-i-preserved
loop-i-preserved c =
    let zero_lit : Lit = record { 0 = 0 } in
    each_before_next c.args.clause.now (λ m. (m ≡ c.args.lit) ⊎ IsFalse (true_lits (take c.args.n c.args.trail.now.entries)) m) c.loop-i.i zero_lit (omega arith) c.loop-i.invariant (c.is_or_before.ensures c.if-not-is_or_before.false)

pub returns : goal.returns
returns c = λ _.
    each_of_all c.args.clause.now (λ m. (m ≡ c.args.lit) ⊎ IsFalse (true_lits (take c.args.n c.args.trail.now.entries)) m) c.loop-i.i (omega arith) c.loop-i.invariant
