-- The command with its rules.
use Rattle.std.proofs.Common.{◌≡◌, ◌∙◌, ap, ap₂, refl}
use Rattle.clap.specs.Simple.{App, with_rule}
use Rattle.clap.specs.Walk.{Rule}
use Rattle.word_settings.specs.CommandLine.{bare_app, deagle, rules, with_rules}

pub one_rule : (now before p : App) (r s : Rule) → now ≡ with_rule before r → before ≡ p → r ≡ s → now ≡ with_rule p s
one_rule now before p r s step same rule = step ∙ ap₂ with_rule same rule

pub all_rules : with_rules rules bare_app ≡ deagle
unfolding deagle
all_rules = refl
