use Rattle.std.proofs.Common.{◌≡◌, ◌+◌, [], length, map, take}
use Rattle.cnf_problem.specs.Literals.{negated}
use Rattle.trail_state.specs.Trails.{true_lits, up_to}
use Rattle.log_checker.specs.Goodness.{clauses_of}
use Rattle.hint_checker.specs.Counting.{literals_of_hints}
use Rattle.hint_checker.proofs.Following.{IsRightSoFar}
use Rattle.hint_checker.proofs.chain.wrong_hint.Given as goal

-- the hints passed are right, and lead to the set
abbrev pub invariant-loop-hint : goal.invariant-loop-hint
invariant-loop-hint g l = record {
  so_far : IsRightSoFar l.problem (clauses_of l.before) (map negated l.lits) (take l.hint-index l.front) (true_lits l.set.entries);
  count : length l.set.entries ≡ length l.lits + l.hint-index;
  above : up_to 0 l.set.entries ≡ [];
  vars : l.set.vars ≡ l.problem.vars;
  steps : l.steps ≡ l.fn.steps + (length l.lits + literals_of_hints l.problem (clauses_of l.before) (take l.hint-index l.front));
}
