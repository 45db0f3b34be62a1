use Rattle.std.proofs.Common.{◌≡◌, ◌+◌, ◌*◌, length}
use Rattle.log_checker.proofs.Atoms.{AreHeads, AreLinks}
use Rattle.log_checker.proofs.denied.AtomsByLit.new.Given as goal

-- the chains are those of the atoms passed
abbrev pub invariant-loop-i : goal.invariant-loop-i
invariant-loop-i l = record {
  codes : length l.last.items ≡ 2 * l.problem.vars + 2;
  long : length l.earlier.items ≡ l.i;
  heads : AreHeads l.problem.atoms l.last.items l.i;
  links : AreLinks l.problem.atoms l.earlier.items;
}
