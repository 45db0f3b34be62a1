use Rattle.std.proofs.Common.{◌≡◌, ◌≤◌, List, ◌++◌, reverse, length}
use Rattle.dg_base.specs.declared.Lit.{Lit}
use Rattle.hint_maker.specs.Walking.{AreMarked, IsTail}
use Rattle.hint_maker.proofs.chain.chain.Given as goal

-- the hints so far lead from this place to the end
abbrev pub invariant-loop-place : goal.invariant-loop-place
invariant-loop-place l = record {
  below : l.place ≤ l.fn.end.before;
  sized : length l.marks ≡ length l.fn.marks;
  marked : AreMarked l.lits l.refuter.trail.entries l.marks l.place;
  tail : (further : List (List Lit)) → IsTail l.problem (l.refuter.store.added ++ further) l.lits l.refuter.trail.entries l.marks l.place (reverse l.back.items);
}
