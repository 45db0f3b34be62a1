use Rattle.std.proofs.Common.{◌≡◌, length, nat_eq}
use Rattle.std.specs.HashMap.{get}
use Rattle.memory_models.specs.Ahead.{Stands, From}
use Rattle.memory_models.proofs.static_edges.Given as goal

abbrev pub invariant-loop-place : goal.invariant-loop-place
invariant-loop-place l = record {
  long : l.count ≡ length l.events;
  stands : Stands l.model l.events l.place (From l.events l.place) l.edges.fixed l.edges.fences l.ahead.strong l.ahead.weak (get nat_eq l.ahead.next);
}
