use Rattle.std.proofs.Common.{◌≡◌, ◌∙◌, codes, rules}
use Rattle.std.proofs.lemmas.Result.{IfOk-weaker}
use Rattle.clap.specs.Walk.{rule_of}
use Rattle.word_settings.specs.CommandLine.{bare_app, flag_rule, job_rule, name_rule, number_rule, option_rule, words_rule}
use Rattle.word_settings.proofs.Commands.{all_rules, one_rule}
use Rattle.word_settings.proofs.command_line.command.Goals as goal

pub returns : goal.returns
returns c =
    let model : rule_of c.option.result ≡ option_rule (codes "model") (codes "sc") = search rules in
    let unroll : rule_of c.number.result ≡ number_rule (codes "unroll") (codes "2") 1 64 = search rules in
    let workers : rule_of c.number-2.result ≡ number_rule (codes "workers") (codes "4") 1 16 = search rules in
    let budget : rule_of c.number-3.result ≡ number_rule (codes "budget") (codes "20000") 1 1000000 = search rules in
    let share : rule_of c.number-4.result ≡ number_rule (codes "share") (codes "65536") 0 1048576 = search rules in
    let full : rule_of c.flag.result ≡ flag_rule (codes "full") = search rules in
    let log : rule_of c.name.result ≡ name_rule (codes "log") = search rules in
    let witness : rule_of c.name-2.result ≡ name_rule (codes "witness") = search rules in
    let run : rule_of c.flag-2.result ≡ flag_rule (codes "run") = search rules in
    let one = one_rule _ _ bare_app _ job_rule c.in_ok-one.ensures c.bare.ensures c.job.ensures.rule in
    let two = one_rule _ _ _ _ words_rule c.in_ok-two.ensures one c.words.ensures.rule in
    let three = one_rule _ _ _ _ _ c.in_ok-three.ensures two model in
    let four = one_rule _ _ _ _ _ c.in_ok-four.ensures three unroll in
    let five = one_rule _ _ _ _ _ c.in_ok-five.ensures four workers in
    let six = one_rule _ _ _ _ _ c.in_ok-six.ensures five budget in
    let seven = one_rule _ _ _ _ _ c.in_ok-seven.ensures six share in
    let eight = one_rule _ _ _ _ _ c.in_ok-eight.ensures seven full in
    let nine = one_rule _ _ _ _ _ c.in_ok-nine.ensures eight log in
    let ten = one_rule _ _ _ _ _ c.in_ok-ten.ensures nine witness in
    IfOk-weaker c.with-11.result _ _ (λ d h. one_rule _ _ _ _ _ h ten run ∙ all_rules) c.with-11.ensures
