use Rattle.std.proofs.Common.{◌≡◌, List, ap, sym, ◌∙◌, subst}
use Rattle.std.specs.Prelude.{IfOk}
use Rattle.dg_base.specs.declared.Lit.{Lit}
use Rattle.cnf_problem.specs.declared.problem.Graph.{Graph}
use Rattle.order_solver.specs.Ordering.{GraphView, SolverView, IsCause}
use Rattle.order_solver.specs.Parts.{graph_in, AreCaused, IsExplained}
use Rattle.order_solver.proofs.solver.OrderSolver.explain.Goals as goal

pub returns-in-Local-clause-explained : goal.returns-in-Local-clause-explained
returns-in-Local-clause-explained c =
    let e : c.self.inside.local ≡ graph_in c.args.self.now c.args.closing.edge.graph = ap (λ (s : SolverView). s.local) c.self.view_is ∙ sym (ap (λ (g : Graph). graph_in c.args.self.now g) c.in-Local.is) in
    subst (λ (g : GraphView). IfOk c.explain.result (λ clause. (lits : List Lit) → AreCaused c.args.problem.now lits c.args.closing.edge.graph g.edges g.causes → IsCause c.args.problem.now lits c.args.closing.edge c.args.closing.cause → IsExplained c.args.problem.now lits clause)) e c.explain.ensures.explained

pub returns-in-Global-clause-explained : goal.returns-in-Global-clause-explained
returns-in-Global-clause-explained c =
    let e : c.self.inside.global ≡ graph_in c.args.self.now c.args.closing.edge.graph = ap (λ (s : SolverView). s.global) c.self.view_is ∙ sym (ap (λ (g : Graph). graph_in c.args.self.now g) c.in-Global.is) in
    subst (λ (g : GraphView). IfOk c.explain-in-Global.result (λ clause. (lits : List Lit) → AreCaused c.args.problem.now lits c.args.closing.edge.graph g.edges g.causes → IsCause c.args.problem.now lits c.args.closing.edge c.args.closing.cause → IsExplained c.args.problem.now lits clause)) e c.explain-in-Global.ensures.explained
