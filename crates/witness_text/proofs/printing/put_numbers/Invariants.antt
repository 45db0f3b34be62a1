use Rattle.std.proofs.Common.{◌≡◌, ◌++◌, drop}
use Rattle.witness_text.specs.Witness.{numbers_text}
use Rattle.witness_text.proofs.printing.put_numbers.Given as goal

-- what is written, with what is still to be written, is what was there with all
abbrev pub invariant-loop-number : goal.invariant-loop-number
invariant-loop-number l = l.out.items ++ numbers_text (drop l.number-index l.numbers) ≡ l.fn.out.items ++ numbers_text l.numbers
