use Rattle.std.proofs.Common.{take}
use Rattle.std.specs.Prelude.{Contains}
use Rattle.hint_maker.proofs.listed.is_listed.Given as goal

-- the literals passed are others
abbrev pub invariant-loop-other : goal.invariant-loop-other
invariant-loop-other l = ¬ Contains (take l.other-index l.lits) l.lit
