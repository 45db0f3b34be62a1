use Rattle.std.proofs.Common.{subst, arith}
use Rattle.dg_base.specs.declared.Lit.{Lit}
use Rattle.cnf_problem.specs.Chains.{IsFalse}
use Rattle.std.specs.Prelude.{Contains}
use Rattle.dg_base.proofs.Lists.{contains_place}
use Rattle.trail_state.specs.Trails.{true_lits, lit_of}
use Rattle.conflict_learn.proofs.Places.{each_before_next, each_of_all, place_in_front}
use Rattle.search_tests.proofs.learning.all_false.Goals as goal

pub loop-i-preserved : goal.loop-i-preserved
loop-i-preserved c =
    let zero_lit : Lit = record { 0 = 0 } in
    let entries = c.args.trail.now.entries in
    let front = c.stands_before.ensures c.if-not-stands_before.false in
    let p = place_in_front lit_of entries c.len.result _ front in
    let now = contains_place (true_lits entries) p.0 _ p.2 in
    each_before_next c.args.clause.now (λ m. IsFalse (true_lits entries) m) c.loop-i.i zero_lit (omega arith) c.loop-i.invariant (subst (λ z. Contains (true_lits entries) z) c.negated.ensures.value now)

pub returns : goal.returns
returns c = λ _.
    each_of_all c.args.clause.now (λ m. IsFalse (true_lits c.args.trail.now.entries) m) c.loop-i.i (omega arith) c.loop-i.invariant
