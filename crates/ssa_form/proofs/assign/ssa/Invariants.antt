use Rattle.std.proofs.Common.{take}
use Rattle.ssa_form.proofs.Parting.{AreWalked}
use Rattle.ssa_form.proofs.assign.ssa.Given as goal

abbrev pub invariant-loop-instance : goal.invariant-loop-instance
invariant-loop-instance l = AreWalked (take l.instance-index l.flat.instances) l.walk l.parts
