use Rattle.std.proofs.Common.{◌≡◌, ℕ, ◌<◌, Some}
use Rattle.std.specs.Prelude.{slice_get}
use Rattle.dg_base.specs.declared.Lit.{Lit}
use Rattle.cnf_problem.specs.Literals.{IsOver}
use Rattle.log_checker.proofs.numbers.bad_number.Given as goal

-- the literals passed are the problem's
abbrev pub invariant-loop-lit : goal.invariant-loop-lit
invariant-loop-lit l = (k : ℕ) (m : Lit) → k < l.lit-index → slice_get l.lits k ≡ Some m → IsOver l.vars m
