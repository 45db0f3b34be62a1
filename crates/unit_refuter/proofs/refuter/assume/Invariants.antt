use Rattle.unit_refuter.proofs.Denying.{IsPassed}
use Rattle.unit_refuter.proofs.refuter.assume.Given as goal

-- the negations of the literals passed are true
abbrev pub invariant-loop-lit : goal.invariant-loop-lit
invariant-loop-lit l = IsPassed l.lits l.fn.trail l.trail l.lit-index
