use Rattle.std.proofs.Common.{◌∙◌}
use Rattle.word_settings.proofs.Numbers.{number_parsed}
use Rattle.word_settings.proofs.read.number_named.Goals as goal

pub returns : goal.returns
returns c = c.unwrap_or.ensures ∙ number_parsed c.args.word.now c.parse.result c.parse.ensures.value.0
