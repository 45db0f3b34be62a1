use Rattle.std.proofs.Common.{◌≡◌, map, take}
use Rattle.word_settings.proofs.read.words_of.Given as goal

abbrev pub invariant-loop-text : goal.invariant-loop-text
invariant-loop-text l = l.words ≡ map (λ s. s.now) (take l.text-index l.texts)
