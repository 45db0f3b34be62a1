use Rattle.std.proofs.Common.{◌≡◌, ◌++◌, map, take}
use Rattle.memory_models.specs.Roles.{fence}
use Rattle.memory_models.proofs.pass.fence_all.Given as goal

abbrev pub invariant-loop-to : goal.invariant-loop-to
invariant-loop-to l = l.fences ≡ l.initial.fences ++ map (fence l.guard l.place) (take l.to-index l.ahead)
