use Rattle.std.proofs.Common.{List, subst}
use Rattle.dg_base.specs.declared.Lit.{Lit}
use Rattle.log_checker.specs.Refusals.{IsBadNumber}
use Rattle.log_checker.specs.Refusals.HintedEntryFails.{bad_number}
use Rattle.hint_checker.proofs.hinted.HintChecker.entry.Goals as goal

pub returns-in-Some-clause-refused : goal.returns-in-Some-clause-refused
returns-in-Some-clause-refused g c = bad_number c.in-Some.var (subst (λ (z : List Lit). IsBadNumber c.args.problem.now.vars z c.in-Some.var) c.as_slice.ensures c.in-Some.ensures)
