use Rattle.std.proofs.Common.{true, false, ◌∙◌}
use Rattle.cnf_problem.proofs.LiteralLaws.{tested_same}
use Rattle.cnf_problem.proofs.Assignments.{over-negated}
use Rattle.cnf_problem.proofs.Folding.{IsConstant, xor_equal, xor_negated, xor_with_false, xor_with_true, xor_by_false, xor_by_true}
use Rattle.cnf_problem.proofs.gates.Gates.fold_xor.Goals as goal

pub returns-then-eq : goal.returns-then-eq
returns-then-eq c =
    let k : IsConstant c.args.self.now c.constant-no.result false = record { over = c.constant-no.ensures.over; exact = c.constant-no.ensures.exact } in
    xor_equal c.args.self.now c.constant-no.result c.args.a c.args.b k (tested_same c.args.a c.args.b c.eq.result c.eq.ensures c.if-eq.true)

pub returns-then-eq-2 : goal.returns-then-eq-2
returns-then-eq-2 c =
    let k : IsConstant c.args.self.now c.constant-yes.result true = record { over = c.constant-yes.ensures.over; exact = c.constant-yes.ensures.exact } in
    xor_negated c.args.self.now c.constant-yes.result c.args.a c.args.b k (tested_same c.args.a c.negated.result c.eq-else-eq.result c.eq-else-eq.ensures c.if-eq-2.true ∙ c.negated.ensures.value)

pub returns-then-eq-3 : goal.returns-then-eq-3
returns-then-eq-3 c =
    let k : IsConstant c.args.self.now c.constant-no.result false = record { over = c.constant-no.ensures.over; exact = c.constant-no.ensures.exact } in
    xor_with_false c.args.self.now c.constant-no.result c.args.a c.args.b k (tested_same c.args.a c.constant-no.result c.eq-else-eq-2.result c.eq-else-eq-2.ensures c.if-eq-3.true) c.requires.second

pub returns-then-eq-4 : goal.returns-then-eq-4
returns-then-eq-4 c =
    let k : IsConstant c.args.self.now c.constant-yes.result true = record { over = c.constant-yes.ensures.over; exact = c.constant-yes.ensures.exact } in
    rw c.negated-then-eq-4.ensures.value (xor_with_true c.args.self.now c.constant-yes.result c.args.a c.args.b k (tested_same c.args.a c.constant-yes.result c.eq-else-eq-3.result c.eq-else-eq-3.ensures c.if-eq-4.true) (over-negated c.args.self.now.vars c.args.b c.requires.second))

pub returns-then-eq-5 : goal.returns-then-eq-5
returns-then-eq-5 c =
    let k : IsConstant c.args.self.now c.constant-no.result false = record { over = c.constant-no.ensures.over; exact = c.constant-no.ensures.exact } in
    xor_by_false c.args.self.now c.constant-no.result c.args.a c.args.b k (tested_same c.args.b c.constant-no.result c.eq-else-eq-4.result c.eq-else-eq-4.ensures c.if-eq-5.true) c.requires.first

pub returns-then-eq-6 : goal.returns-then-eq-6
returns-then-eq-6 c =
    let k : IsConstant c.args.self.now c.constant-yes.result true = record { over = c.constant-yes.ensures.over; exact = c.constant-yes.ensures.exact } in
    rw c.negated-then-eq-6.ensures.value (xor_by_true c.args.self.now c.constant-yes.result c.args.a c.args.b k (tested_same c.args.b c.constant-yes.result c.eq-else-eq-5.result c.eq-else-eq-5.ensures c.if-eq-6.true) (over-negated c.args.self.now.vars c.args.a c.requires.first))
