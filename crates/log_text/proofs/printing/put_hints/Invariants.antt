use Rattle.std.proofs.Common.{◌≡◌, ◌++◌, drop}
use Rattle.std.specs.List.{AllByRecursion}
use Rattle.log_text.specs.Numbers.{IsHintNumber}
use Rattle.line_text.specs.Words.{shown}
use Rattle.log_text.specs.Formats.{hint_text}
use Rattle.log_text.proofs.printing.put_hints.Given as goal

-- what is written, with what is still to be written, is what was there with all; and if the numbers to come have 32 bits, all have
abbrev pub invariant-loop-hint : goal.invariant-loop-hint
invariant-loop-hint l = record {
  text : l.out.items ++ shown hint_text (drop l.hint-index l.hints) ≡ l.fn.out.items ++ shown hint_text l.hints;
  numbers : AllByRecursion IsHintNumber (drop l.hint-index l.hints) → AllByRecursion IsHintNumber l.hints;
}
