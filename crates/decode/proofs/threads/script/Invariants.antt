use Rattle.std.proofs.Common.{◌≡◌, ◌++◌, drop}
use Rattle.encode_match.specs.Spelling.{script_in}
use Rattle.decode.proofs.threads.script.Given as goal

abbrev pub invariant-loop-item : goal.invariant-loop-item
invariant-loop-item l = l.numbers ++ script_in l.truths (drop l.item-index l.taken) ≡ script_in l.truths l.taken
