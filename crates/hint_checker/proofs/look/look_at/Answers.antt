use Rattle.std.proofs.Common.{Option, List, ap, sym, ◌∙◌, ◌+◌, subst}
use Rattle.std.specs.Prelude.{All}
use Rattle.dg_base.specs.declared.Lit.{Lit}
use Rattle.cnf_problem.specs.Literals.{IsOver}
use Rattle.trail_state.specs.Trails.{true_lits}
use Rattle.log_checker.specs.Goodness.{clauses_of}
use Rattle.hint_checker.specs.Counting.{length_of}
use Rattle.hint_checker.proofs.Following.{named_over}
use Rattle.hint_checker.proofs.Looks.{found_at, not_named}
use Rattle.hint_checker.proofs.look.look_at.Goals as goal

pub look-requires : goal.look-requires
look-requires g c =
    subst (λ n. All (IsOver n) c.in-Some.clause.now) (sym c.requires.vars) (named_over c.args.problem.now (clauses_of c.args.before.now) c.args.hint c.in-Some.clause.now c.requires.over c.in-Some.ensures)

pub returns-in-Some-clause-finding : goal.returns-in-Some-clause-finding
returns-in-Some-clause-finding g c =
    found_at c.args.problem.now (clauses_of c.args.before.now) (true_lits c.args.set.now.entries) c.in-Some.clause.now c.args.hint c.look.result c.in-Some.ensures c.look.ensures.finding

pub returns-in-Some-clause-steps : goal.returns-in-Some-clause-steps
returns-in-Some-clause-steps g c = c.look.ensures.steps ∙ ap (λ (o : Option (List Lit)). c.args.steps.now + length_of o) (sym c.in-Some.ensures)

pub returns-in-None-clause-finding : goal.returns-in-None-clause-finding
returns-in-None-clause-finding g c = not_named c.args.problem.now (clauses_of c.args.before.now) (true_lits c.args.set.now.entries) c.args.hint c.in-None.ensures
