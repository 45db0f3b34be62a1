use Rattle.std.proofs.Common.{◌≡◌, length}
use Rattle.line_text.specs.Words.{words_in}
use Rattle.witness_text.specs.Lines.{event_in}
use Rattle.line_text.proofs.Worded.{ahead}
use Rattle.witness_text.proofs.lines.events.Given as goal

-- what was read, with what the rest holds, is what the text holds
abbrev pub invariant-loop-word : goal.invariant-loop-word
invariant-loop-word l = ahead l.read (words_in event_in l.rest) ≡ words_in event_in l.text

abbrev pub decreases-loop-word : goal.decreases-loop-word
decreases-loop-word l = length l.rest
