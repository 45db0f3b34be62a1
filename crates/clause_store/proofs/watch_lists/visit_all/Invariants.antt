use Rattle.std.proofs.Common.{◌≡◌, ◌-◌, ◌++◌, length}
use Rattle.std.specs.Prelude.{is_some}
use Rattle.trail_state.specs.Forcing.{AddsForced}
use Rattle.clause_store.specs.Watching.{IsRoomy}
use Rattle.clause_store.specs.Visiting.{IsAt, IsVisiting, IsRefuted}
use Rattle.clause_store.proofs.watch_lists.visit_all.Given as goal

abbrev pub invariant-loop-i : goal.invariant-loop-i
invariant-loop-i l = record {
  room : l.count ≡ length l.links.next;
  roomy : IsRoomy (l.first ++ l.added) l.trail.vars l.links.next l.links.heads;
  at : IsAt l.trail.entries l.trail.taken l.p;
  visiting : IsVisiting (l.first ++ l.added) l.trail.entries l.trail.taken l.p l.links.next l.links.heads l.links.owner_of l.link (l.count - l.i) (is_some l.conflict);
  refuted : IsRefuted (l.first ++ l.added) l.trail.entries l.conflict;
  forced : AddsForced (l.first ++ l.added) l.initial.trail.entries l.trail.entries;
  taken : l.trail.taken ≡ l.initial.trail.taken;
  vars : l.trail.vars ≡ l.initial.trail.vars;
}
