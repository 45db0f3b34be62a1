use Rattle.std.proofs.Common.{◌≡◌, drop}
use Rattle.bit_gates.specs.Words.{number}
use Rattle.decode.proofs.values.word_number.Given as goal

abbrev pub invariant-loop-place : goal.invariant-loop-place
invariant-loop-place l = l.number ≡ number l.truths (drop l.place l.word)
