use Rattle.std.proofs.Common.{◌+◌, [], ◌∷◌}
use Rattle.std.specs.Prelude.{All}
use Rattle.cnf_problem.specs.Literals.{IsOver}
use Rattle.cnf_problem.proofs.XorGate.{xor_over, xor_gate}
use Rattle.cnf_problem.proofs.gates.Gates.xor.Goals as goal

pub define-requires-clause-over : goal.define-requires-clause-over
define-requires-clause-over c =
    let over : All (All (IsOver (c.args.self.now.vars + 1))) ((c.negated.result ∷ c.args.a ∷ c.args.b ∷ []) ∷ (c.negated-2.result ∷ c.negated-3.result ∷ c.negated-4.result ∷ []) ∷ (c.in_ok-out.out ∷ c.negated-5.result ∷ c.args.b ∷ []) ∷ (c.in_ok-out.out ∷ c.args.a ∷ c.negated-6.result ∷ []) ∷ []) =
    rw (c.negated.ensures.value, c.negated-2.ensures.value, c.negated-3.ensures.value, c.negated-4.ensures.value, c.negated-5.ensures.value, c.negated-6.ensures.value, c.in_ok-out.ensures.lit)
    (xor_over c.args.self.now c.args.a c.args.b c.requires.first c.requires.second) in
    over

pub returns-clause-gate : goal.returns-clause-gate
returns-clause-gate c =
    rw (c.in_ok-define.ensures.ok, c.negated.ensures.value, c.negated-2.ensures.value, c.negated-3.ensures.value, c.negated-4.ensures.value, c.negated-5.ensures.value, c.negated-6.ensures.value, c.in_ok-out.ensures.lit)
    (xor_gate c.args.self.now c.args.a c.args.b c.in_ok-out.ensures.built c.requires.first c.requires.second)
