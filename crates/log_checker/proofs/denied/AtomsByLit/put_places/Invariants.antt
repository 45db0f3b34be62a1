use Rattle.log_checker.proofs.Atoms.{IsWalked}
use Rattle.log_checker.proofs.denied.AtomsByLit.put_places.Given as goal

-- on the way back, the atoms passed were put
abbrev pub invariant-loop-next : goal.invariant-loop-next
invariant-loop-next l = IsWalked l.problem.atoms l.fn.lit l.fn.places.items l.places.items l.next

abbrev pub decreases-loop-next : goal.decreases-loop-next
decreases-loop-next l = l.next
