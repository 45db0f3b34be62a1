use Rattle.std.proofs.Common.{List, Option, ap, sym, subst}
use Rattle.std.specs.Prelude.{All, MatchOption}
use Rattle.dg_base.specs.declared.Lit.{Lit}
use Rattle.cnf_problem.specs.Edges.{IsCyclic}
use Rattle.cnf_problem.specs.Literals.{IsOver}
use Rattle.cnf_problem.specs.declared.problem.Graph.TheVariants.{Local, Global}
use Rattle.log_checker.specs.Checking.{CheckerView}
use Rattle.log_checker.specs.Graphs.{AreFound, AtomsView, IsDenied}
use Rattle.log_checker.specs.Refusals.{IsOrder}
use Rattle.log_checker.specs.Refusals.EntryFails.{no_cycle}
use Rattle.log_checker.specs.declared.denied.Orders.{Orders}
use Rattle.log_checker.proofs.checker.Checker.cycle.Goals as goal

pub orders-requires-clause-found : goal.orders-requires-clause-found
orders-requires-clause-found c = subst (λ (v : AtomsView). AreFound c.args.problem.now v) (ap (λ (v : CheckerView). v.atoms) (sym c.self.view_is)) c.requires.found

pub orders-requires-clause-over : goal.orders-requires-clause-over
orders-requires-clause-over c = subst (λ z. All (IsOver c.args.problem.now.vars) z) (sym c.as_slice-lits.ensures) c.requires.over

pub returns-in-None-clause-follows : goal.returns-in-None-clause-follows
returns-in-None-clause-follows c =
    let p = c.args.problem.now in
    let lits = c.as_slice-lits.result.now in
    let cyclic : IsCyclic p (IsDenied lits) = subst (λ (o : Option Orders). MatchOption o (IsCyclic p (IsDenied lits)) (λ s. IsOrder p lits Local s.local × IsOrder p lits Global s.global)) c.in-None.is c.in_ok-orders.ensures in
    subst (λ (z : List Lit). IsCyclic p (IsDenied z)) c.as_slice-lits.ensures cyclic

pub returns-in-Some-clause-refused : goal.returns-in-Some-clause-refused
returns-in-Some-clause-refused c clauses =
    let p = c.args.problem.now in
    let lits = c.as_slice-lits.result.now in
    let orders = subst (λ (o : Option Orders). MatchOption o (IsCyclic p (IsDenied lits)) (λ s. IsOrder p lits Local s.local × IsOrder p lits Global s.global)) c.in-Some.is c.in_ok-orders.ensures in
    let own = λ (z : List Lit). IsOrder p z Local c.in-Some.orders.local × IsOrder p z Global c.in-Some.orders.global in
    let both = subst own c.as_slice-lits.ensures orders in
    no_cycle c.in-Some.orders.local c.in-Some.orders.global c.requires.over c.requires.kind both.0 both.1
