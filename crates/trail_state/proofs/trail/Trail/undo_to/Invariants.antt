use Rattle.std.proofs.Common.{◌≡◌, length, min}
use Rattle.trail_state.specs.Trails.{up_to}
use Rattle.trail_state.proofs.trail.Trail.undo_to.Given as goal

abbrev pub invariant-loop-self : goal.invariant-loop-self
invariant-loop-self l = record {
  entries_stay : up_to l.level l.self.entries ≡ up_to l.level l.fn.self.entries;
  taken_stay : l.self.taken ≡ min l.fn.self.taken (length l.self.entries);
  vars_stay : l.self.vars ≡ l.fn.self.vars;
}

abbrev pub decreases-loop-self : goal.decreases-loop-self
decreases-loop-self l = length l.self.entries
