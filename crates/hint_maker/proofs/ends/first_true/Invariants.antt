use Rattle.std.proofs.Common.{take}
use Rattle.std.specs.Prelude.{Contains}
use Rattle.dg_base.specs.declared.Lit.{Lit}
use Rattle.trail_state.specs.Trails.{true_lits}
use Rattle.hint_maker.proofs.ends.first_true.Given as goal

-- none of the literals passed is the lemma's
abbrev pub invariant-loop-i : goal.invariant-loop-i
invariant-loop-i l = (m : Lit) → Contains (true_lits (take l.i l.trail.entries)) m → ¬ Contains l.lits m
