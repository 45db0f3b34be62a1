use Rattle.std.proofs.Common.{◌∙◌}
use Rattle.std.proofs.lemmas.List.{length-set}
use Rattle.std.proofs.lemmas.List.Elements.{All-set}
use Rattle.cnf_problem.specs.Literals.{IsOver}
use Rattle.bit_gates.proofs.Steps.{first_written}
use Rattle.bit_gates.proofs.words.flag.Goals as goal

pub returns-clause-over : goal.returns-clause-over
returns-clause-over c = (
  length-set c.constant_word-word.result 0 c.args.lit ∙ c.constant_word-word.ensures.over.0,
  All-set (IsOver c.args.gates.now.vars) c.constant_word-word.result 0 c.args.lit c.requires c.constant_word-word.ensures.over.1,
)

pub returns-clause-exact : goal.returns-clause-exact
returns-clause-exact c = first_written c.args.gates.now c.constant_word-word.result c.args.lit c.constant_word-word.ensures.over.0 c.constant_word-word.ensures.exact
