use Rattle.std.proofs.Common.{◌∙◌}
use Rattle.word_settings.proofs.Places.{all_taken, one_more}
use Rattle.word_settings.proofs.read.texts_of.Goals as goal

pub loop-i-preserved : goal.loop-i-preserved
loop-i-preserved c = one_more (λ s. s.now) c.loop-i.texts.items c.push.new.self.items c.word.result c.args.words.now c.loop-i.i c.loop-i.invariant c.in_ok-push.ensures.items c.word.ensures

pub returns : goal.returns
returns c = c.loop-i.invariant ∙ all_taken c.args.words.now c.loop-i.i c.len-i-end.result c.len-i-end.ensures c.loop-i-test.false c.loop-i.auto.i-end
