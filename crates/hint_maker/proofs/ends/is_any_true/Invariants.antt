use Rattle.std.proofs.Common.{take}
use Rattle.std.specs.Prelude.{Contains}
use Rattle.dg_base.specs.declared.Lit.{Lit}
use Rattle.trail_state.specs.Trails.{true_lits}
use Rattle.hint_maker.proofs.ends.is_any_true.Given as goal

-- none of the literals passed is true
abbrev pub invariant-loop-lit : goal.invariant-loop-lit
invariant-loop-lit l = (m : Lit) → Contains (take l.lit-index l.lits) m → ¬ Contains (true_lits l.trail.entries) m
