use Rattle.std.specs.Prelude.{Contains}
use Rattle.std.proofs.lemmas.List.Elements.{All-weaker, All-contains_itself}
use Rattle.cnf_problem.specs.Literals.{IsOver}
use Rattle.search_tests.proofs.learning.driving.problem_of.Goals as goal

pub clause-requires : goal.clause-requires
clause-requires c =
    let lits = c.as_slice-lits.result.now in
    rw c.loop-row.invariant (All-weaker (Contains lits) (IsOver 4) (c.are_over.ensures c.if-not-are_over.false) lits (All-contains_itself lits))
