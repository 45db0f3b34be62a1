use Rattle.std.proofs.Common.{◌+◌, [], ◌∷◌}
use Rattle.std.specs.Prelude.{All}
use Rattle.cnf_problem.specs.Literals.{IsOver}
use Rattle.cnf_problem.proofs.MuxGate.{mux_over, mux_gate}
use Rattle.cnf_problem.proofs.gates.Gates.mux.Goals as goal

pub define-requires-clause-over : goal.define-requires-clause-over
define-requires-clause-over c =
    let over : All (All (IsOver (c.args.self.now.vars + 1))) ((c.negated.result ∷ c.negated-2.result ∷ c.in_ok-out.out ∷ []) ∷ (c.negated-3.result ∷ c.args.a ∷ c.negated-4.result ∷ []) ∷ (c.args.c ∷ c.negated-5.result ∷ c.in_ok-out.out ∷ []) ∷ (c.args.c ∷ c.args.b ∷ c.negated-6.result ∷ []) ∷ []) =
    rw (c.negated.ensures.value, c.negated-2.ensures.value, c.negated-3.ensures.value, c.negated-4.ensures.value, c.negated-5.ensures.value, c.negated-6.ensures.value, c.in_ok-out.ensures.lit)
    (mux_over c.args.self.now c.args.c c.args.a c.args.b c.requires.choice c.requires.first c.requires.second) in
    over

pub returns-clause-gate : goal.returns-clause-gate
returns-clause-gate c =
    rw (c.in_ok-define.ensures.ok, c.negated.ensures.value, c.negated-2.ensures.value, c.negated-3.ensures.value, c.negated-4.ensures.value, c.negated-5.ensures.value, c.negated-6.ensures.value, c.in_ok-out.ensures.lit)
    (mux_gate c.args.self.now c.args.c c.args.a c.args.b c.in_ok-out.ensures.built c.requires.choice c.requires.first c.requires.second)
