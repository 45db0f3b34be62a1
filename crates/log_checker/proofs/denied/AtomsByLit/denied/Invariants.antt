use Rattle.std.proofs.Common.{take}
use Rattle.log_checker.specs.Graphs.{AreDenied}
use Rattle.log_checker.proofs.denied.AtomsByLit.denied.Given as goal

-- the atoms are those that the literals passed deny
abbrev pub invariant-loop-lit : goal.invariant-loop-lit
invariant-loop-lit l = AreDenied l.problem (take l.lit-index l.lits) l.places.items
