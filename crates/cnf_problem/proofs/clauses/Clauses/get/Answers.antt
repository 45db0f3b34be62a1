use Rattle.cnf_problem.proofs.FlatLaws.{cut_within}
use Rattle.cnf_problem.proofs.clauses.Clauses.get.Goals as goal

pub piece-requires-clause-within : goal.piece-requires-clause-within
piece-requires-clause-within c =
    rw c.deref-2.ensures.value (cut_within c.self.inside.lits.items c.self.inside.ends.items c.args.self.now c.args.i c.self.view_is c.requires)
