use Rattle.std.proofs.Common.{◌≡◌, ◌++◌, drop}
use Rattle.decode.specs.Tables.{threads_with}
use Rattle.decode.proofs.threads.threads.Given as goal

abbrev pub invariant-loop-place : goal.invariant-loop-place
invariant-loop-place l = l.threads ++ threads_with l.truths (drop l.place l.handles) (drop l.place l.parts) ≡ threads_with l.truths l.handles l.parts
