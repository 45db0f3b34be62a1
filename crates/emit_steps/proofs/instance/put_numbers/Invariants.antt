use Rattle.std.proofs.Common.{◌≡◌, ◌++◌, drop}
use Rattle.emit_steps.specs.Instances.{put_numbers}
use Rattle.emit_steps.proofs.instance.put_numbers.Given as goal

abbrev pub invariant-loop-number : goal.invariant-loop-number
invariant-loop-number l = l.steps ++ put_numbers (drop l.number-index l.numbers) ≡ put_numbers l.numbers
