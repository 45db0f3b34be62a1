use Rattle.std.proofs.Common.{take}
use Rattle.hint_maker.specs.Walking.{AddsMarks}
use Rattle.hint_maker.proofs.listed.mark.Given as goal

-- the variables of the literals passed are marked
abbrev pub invariant-loop-lit : goal.invariant-loop-lit
invariant-loop-lit l = AddsMarks l.lits (take l.lit-index l.clause) l.fn.marks l.marks
