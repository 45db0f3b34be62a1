use Rattle.std.proofs.lemmas.List.Elements.{All-push}
use Rattle.cnf_problem.specs.Bounds.{IsAtomOver}
use Rattle.worker_tests.proofs.problems.add_part.Goals as goal

pub returns-clause-atoms : goal.returns-clause-atoms
returns-clause-atoms c =
    rw c.in_ok-push-2.ensures.ok (All-push (IsAtomOver 31 20) c.push.new.self _ (rw c.in_ok-push.ensures.ok (All-push (IsAtomOver 31 20) c.args.atoms.now _ c.requires.atoms c.in_ok-atom.ensures)) c.in_ok-atom-2.ensures)
