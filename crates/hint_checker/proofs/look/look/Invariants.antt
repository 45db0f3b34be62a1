use Rattle.std.proofs.Common.{◌≡◌, ◌+◌, take}
use Rattle.trail_state.specs.Trails.{true_lits}
use Rattle.hint_checker.specs.Findings.{IsFinding}
use Rattle.hint_checker.proofs.look.look.Given as goal

-- what was found is so of the literals passed
abbrev pub invariant-loop-lit : goal.invariant-loop-lit
invariant-loop-lit g l = record {
  finding : IsFinding (true_lits l.set.entries) (take l.lit-index l.clause) l.finding;
  steps : l.steps ≡ l.fn.steps + l.lit-index;
}
