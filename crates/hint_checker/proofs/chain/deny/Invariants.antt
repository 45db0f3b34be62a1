use Rattle.std.proofs.Common.{◌≡◌, ◌+◌, [], map, take}
use Rattle.cnf_problem.specs.Literals.{negated}
use Rattle.trail_state.specs.Trails.{true_lits, up_to}
use Rattle.hint_checker.proofs.chain.deny.Given as goal

-- the set is the negations of the literals passed
abbrev pub invariant-loop-lit : goal.invariant-loop-lit
invariant-loop-lit g l = record {
  lits : true_lits l.set.entries ≡ map negated (take l.lit-index l.lits);
  above : up_to 0 l.set.entries ≡ [];
  vars : l.set.vars ≡ l.fn.set.vars;
  steps : l.steps ≡ l.fn.steps + l.lit-index;
}
