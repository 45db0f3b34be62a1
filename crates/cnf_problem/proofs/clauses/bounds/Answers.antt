use Rattle.cnf_problem.proofs.FlatLaws.{piece_within}
use Rattle.cnf_problem.proofs.clauses.bounds.Goals as goal

pub returns-clause-rise : goal.returns-clause-rise
returns-clause-rise c =
    rw c.start_of.ensures ((piece_within c.args.lits.now 0 c.args.ends.now c.args.i c.requires.cut c.requires.within).0)

pub returns-clause-inside : goal.returns-clause-inside
returns-clause-inside c = (piece_within c.args.lits.now 0 c.args.ends.now c.args.i c.requires.cut c.requires.within).1
