use Rattle.std.proofs.Common.{◌≡◌, ℕ, ◌<◌, ◌⊎◌, get_or}
use Rattle.cnf_problem.specs.Chains.{IsFalse}
use Rattle.dg_base.specs.declared.Lit.{Lit}
use Rattle.trail_state.specs.Trails.{true_lits}
use Rattle.clause_store.proofs.new_watch.look.Given as goal

-- each literal so far is the other watched one, or false
abbrev pub invariant-loop-i : goal.invariant-loop-i
invariant-loop-i l =
    (k : ℕ) (d : Lit) → k < l.i → (get_or l.clause k d ≡ l.other) ⊎ IsFalse (true_lits l.trail.entries) (get_or l.clause k d)
