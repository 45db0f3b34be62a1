use Rattle.std.proofs.Common.{List, Option, subst}
use Rattle.std.specs.Prelude.{MatchOption}
use Rattle.dg_base.specs.declared.Lit.{Lit}
use Rattle.cnf_problem.specs.Edges.{IsCyclic}
use Rattle.cnf_problem.specs.declared.problem.Graph.TheVariants.{Local, Global}
use Rattle.log_checker.specs.Graphs.{IsDenied}
use Rattle.log_checker.specs.Refusals.{IsOrder}
use Rattle.log_checker.specs.Refusals.HintedEntryFails.{no_cycle}
use Rattle.log_checker.specs.declared.denied.Orders.{Orders}
use Rattle.hint_checker.proofs.hinted.HintChecker.cycle.Goals as goal

pub returns-in-Some-clause-refused : goal.returns-in-Some-clause-refused
returns-in-Some-clause-refused c before hints =
    let p = c.args.problem.now in
    let lits = c.as_slice-lits.result.now in
    let orders = subst (λ (o : Option Orders). MatchOption o (IsCyclic p (IsDenied lits)) (λ s. IsOrder p lits Local s.local × IsOrder p lits Global s.global)) c.in-Some.is c.in_ok-orders.ensures in
    let own = λ (z : List Lit). IsOrder p z Local c.in-Some.orders.local × IsOrder p z Global c.in-Some.orders.global in
    let both = subst own c.as_slice-lits.ensures orders in
    no_cycle c.in-Some.orders.local c.in-Some.orders.global c.requires.over c.requires.kind both.0 both.1
