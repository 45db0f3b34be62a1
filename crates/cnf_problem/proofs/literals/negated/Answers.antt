use Rattle.std.specs.Prelude.{bit_xor}
use Rattle.cnf_problem.specs.Literals.{negated}
use Rattle.cnf_problem.proofs.LiteralLaws.{same_lit, negation_code, var-negated}
use Rattle.cnf_problem.proofs.literals.negated.Goals as goal

pub returns-clause-value : goal.returns-clause-value
returns-clause-value c = same_lit (record { 0 = bit_xor c.args.lit.0 1 }) (negated c.args.lit) (negation_code c.args.lit)

pub returns-clause-variable : goal.returns-clause-variable
returns-clause-variable c = rw negation_code (var-negated c.args.lit)
