use Rattle.std.proofs.Common.{◌+◌, [], ◌∷◌}
use Rattle.std.specs.Prelude.{All}
use Rattle.cnf_problem.specs.Literals.{IsOver}
use Rattle.cnf_problem.proofs.AndGate.{and_over, and_gate}
use Rattle.cnf_problem.proofs.gates.Gates.and.Goals as goal

pub define-requires-clause-over : goal.define-requires-clause-over
define-requires-clause-over c =
    let over : All (All (IsOver (c.args.self.now.vars + 1))) ((c.negated.result ∷ c.args.a ∷ []) ∷ (c.negated-2.result ∷ c.args.b ∷ []) ∷ (c.in_ok-out.out ∷ c.negated-3.result ∷ c.negated-4.result ∷ []) ∷ []) =
    rw (c.negated.ensures.value, c.negated-2.ensures.value, c.negated-3.ensures.value, c.negated-4.ensures.value, c.in_ok-out.ensures.lit)
    (and_over c.args.self.now c.args.a c.args.b c.requires.first c.requires.second) in
    over

pub returns-clause-gate : goal.returns-clause-gate
returns-clause-gate c =
    rw (c.in_ok-define.ensures.ok, c.negated.ensures.value, c.negated-2.ensures.value, c.negated-3.ensures.value, c.negated-4.ensures.value, c.in_ok-out.ensures.lit)
    (and_gate c.args.self.now c.args.a c.args.b c.in_ok-out.ensures.built c.requires.first c.requires.second)
