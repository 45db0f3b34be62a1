use Rattle.std.proofs.Common.{List, sym, subst}
use Rattle.std.specs.Prelude.{OnOk}
use Rattle.dg_base.specs.declared.Lit.{Lit}
use Rattle.cnf_problem.specs.Edges.{IsCyclic}
use Rattle.cnf_problem.specs.Problems.{FollowsBy}
use Rattle.cnf_problem.specs.declared.problem.LemmaKind.{LemmaKind}
use Rattle.unit_refuter.specs.Refuting.{IsReady}
use Rattle.log_checker.specs.Graphs.{IsDenied}
use Rattle.log_checker.specs.Refusals.{IsEntryRefusal}
use Rattle.log_checker.specs.declared.refused.Refused.{Refused}
use Rattle.log_checker.proofs.Outcomes.{if_err, on_ok}
use Rattle.log_checker.proofs.checker.Checker.follows.Goals as goal

pub returns-in-Unit-clause-follows : goal.returns-in-Unit-clause-follows
returns-in-Unit-clause-follows c =
    let p = c.args.problem.now in
    subst (λ (k : LemmaKind). OnOk c.unit.result ((clauses : List (List Lit)) → IsReady p clauses c.args.self.now.refuter → FollowsBy k p clauses c.args.entry.now.lemma.lits)) (sym c.in-Unit.is) c.unit.ensures.follows

pub returns-in-Cycle-clause-follows : goal.returns-in-Cycle-clause-follows
returns-in-Cycle-clause-follows c =
    let p = c.args.problem.now in
    let lits = c.args.entry.now.lemma.lits in
    subst (λ (k : LemmaKind). OnOk c.cycle.result ((clauses : List (List Lit)) → IsReady p clauses c.args.self.now.refuter → FollowsBy k p clauses lits)) (sym c.in-Cycle.is)
    (on_ok c.cycle.result (IsCyclic p (IsDenied lits)) ((clauses : List (List Lit)) → IsReady p clauses c.args.self.now.refuter → IsCyclic p (IsDenied lits)) (λ h clauses ready. h) c.cycle.ensures.follows)

pub returns-in-Cycle-clause-refused : goal.returns-in-Cycle-clause-refused
returns-in-Cycle-clause-refused c =
    let p = c.args.problem.now in
    let e = c.args.entry.now in
    if_err c.cycle.result (λ (r : Refused). (clauses : List (List Lit)) → IsEntryRefusal p clauses e r) (λ (r : Refused). (clauses : List (List Lit)) → IsReady p clauses c.args.self.now.refuter → IsEntryRefusal p clauses e r) (λ r h clauses ready. h clauses) c.cycle.ensures.refused
