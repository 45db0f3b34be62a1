use Rattle.std.proofs.Common.{◌≡◌, ◌++◌, drop}
use Rattle.encode_match.specs.Parts.{taken_in}
use Rattle.encode.proofs.parts.script_of.Given as goal

abbrev pub invariant-loop-step : goal.invariant-loop-step
invariant-loop-step l = l.script ++ taken_in l.words (drop l.step-index l.steps) ≡ taken_in l.words l.steps
