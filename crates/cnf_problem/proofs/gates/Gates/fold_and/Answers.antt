use Rattle.std.proofs.Common.{true, false, ◌∙◌, sym}
use Rattle.cnf_problem.proofs.LiteralLaws.{tested_same}
use Rattle.cnf_problem.proofs.Folding.{IsConstant, and_false_first, and_false_second, and_false_opposite, and_with_true, and_equal, and_by_true}
use Rattle.cnf_problem.proofs.gates.Gates.fold_and.Goals as goal
use Rattle.cnf_problem.proofs.gates.Gates.fold_and.Goals.{then-eq, else-eq, then-eq-2, else-eq-2, then-eq-4, else-eq-4}

pub returns-then-eq-3 : goal.returns-then-eq-3
returns-then-eq-3 c =
    let never : IsConstant c.args.self.now c.constant-no.result false = record { over = c.constant-no.ensures.over; exact = c.constant-no.ensures.exact } in
    elim c.if-eq-2.branch [
      | then-eq-2 w ↦ elim c.if-eq.branch [
        | then-eq v ↦ and_false_first c.args.self.now c.constant-no.result c.args.a c.args.b never (tested_same c.args.a c.constant-no.result c.eq.result c.eq.ensures v.if-eq.true)
        | else-eq v ↦ and_false_second c.args.self.now c.constant-no.result c.args.a c.args.b never (tested_same c.args.b c.constant-no.result v.eq-else-eq.result v.eq-else-eq.ensures (sym v.value-is ∙ w.if-eq-2.true))
      ]
      | else-eq-2 w ↦ and_false_opposite c.args.self.now c.constant-no.result c.args.a c.args.b never
          (tested_same c.args.a w.negated.result w.eq-else-eq-2.result w.eq-else-eq-2.ensures (sym w.value-is ∙ c.if-eq-3.true) ∙ w.negated.ensures.value)
    ]

pub returns-then-eq-5 : goal.returns-then-eq-5
returns-then-eq-5 c =
    let k : IsConstant c.args.self.now c.constant-yes.result true = record { over = c.constant-yes.ensures.over; exact = c.constant-yes.ensures.exact } in
    elim c.if-eq-4.branch [
      | then-eq-4 w ↦ and_with_true c.args.self.now c.constant-yes.result c.args.a c.args.b k (tested_same c.args.a c.constant-yes.result c.eq-else-eq-3.result c.eq-else-eq-3.ensures w.if-eq-4.true) c.requires.second
      | else-eq-4 w ↦ and_equal c.args.self.now c.args.a c.args.b (tested_same c.args.a c.args.b w.eq-else-eq-4.result w.eq-else-eq-4.ensures (sym w.value-is ∙ c.if-eq-5.true)) c.requires.second
    ]

pub returns-then-eq-6 : goal.returns-then-eq-6
returns-then-eq-6 c =
    let k : IsConstant c.args.self.now c.constant-yes.result true = record { over = c.constant-yes.ensures.over; exact = c.constant-yes.ensures.exact } in
    and_by_true c.args.self.now c.constant-yes.result c.args.a c.args.b k
    (tested_same c.args.b c.constant-yes.result c.eq-else-eq-5.result c.eq-else-eq-5.ensures c.if-eq-6.true) c.requires.first
