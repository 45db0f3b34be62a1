use Rattle.std.proofs.Common.{◌∙◌, ap, map, refl, length}
use Rattle.word_settings.proofs.Places.{all_taken}
use Rattle.word_settings.proofs.read.words_of.Goals as goal

pub returns : goal.returns
returns c = c.loop-text.invariant ∙ ap (map (λ s. s.now)) (all_taken c.args.texts.now c.loop-text.text-index (length c.args.texts.now) refl c.loop-text-test.false c.loop-text.auto.text-index-end)
