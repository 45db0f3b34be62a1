use Rattle.std.proofs.Common.{◌≡◌, map, take, get_or}
use Rattle.ssa_form.proofs.walk.Walk.applied.Given as goal

abbrev pub invariant-loop-arg : goal.invariant-loop-arg
invariant-loop-arg l = l.terms ≡ map (λ a. get_or l.self.values a (record { 0 = 0 })) (take l.arg-index l.args)
