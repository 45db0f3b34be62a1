use Rattle.std.proofs.Common.{true, false, sym, ◌∙◌}
use Rattle.cnf_problem.proofs.LiteralLaws.{tested_same}
use Rattle.cnf_problem.proofs.Folding.{IsConstant, mux_by_true, mux_equal, mux_by_false}
use Rattle.cnf_problem.proofs.gates.Gates.fold_mux.Goals as goal
use Rattle.cnf_problem.proofs.gates.Gates.fold_mux.Goals.{then-eq, else-eq}

pub returns-then-eq-2 : goal.returns-then-eq-2
returns-then-eq-2 c =
    let k : IsConstant c.args.self.now c.constant.result true = record { over = c.constant.ensures.over; exact = c.constant.ensures.exact } in
    elim c.if-eq.branch [
      | then-eq w ↦ mux_by_true c.args.self.now c.constant.result c.args.c c.args.a c.args.b k (tested_same c.args.c c.constant.result c.eq.result c.eq.ensures w.if-eq.true) c.requires.first
      | else-eq w ↦ mux_equal c.args.self.now c.args.c c.args.a c.args.b (tested_same c.args.a c.args.b w.eq-else-eq.result w.eq-else-eq.ensures (sym w.value-is ∙ c.if-eq-2.true)) c.requires.first
    ]

pub returns-then-eq-3 : goal.returns-then-eq-3
returns-then-eq-3 c =
    let k : IsConstant c.args.self.now c.constant-else-eq-2.result false = record { over = c.constant-else-eq-2.ensures.over; exact = c.constant-else-eq-2.ensures.exact } in
    mux_by_false c.args.self.now c.constant-else-eq-2.result c.args.c c.args.a c.args.b k
    (tested_same c.args.c c.constant-else-eq-2.result c.eq-else-eq-2.result c.eq-else-eq-2.ensures c.if-eq-3.true) c.requires.second
