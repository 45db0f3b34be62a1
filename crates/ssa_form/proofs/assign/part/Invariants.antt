use Rattle.std.proofs.Common.{take}
use Rattle.ssa_form.proofs.Parting.{IsWalking}
use Rattle.ssa_form.proofs.assign.part.Given as goal

abbrev pub invariant-loop-step : goal.invariant-loop-step
invariant-loop-step l = IsWalking l.fn.walk l.walk l.instance.locals l.begin (take l.step-index l.instance.steps)
