use Rattle.std.proofs.Common.{◌≡◌, ◌<◌}
use Rattle.trail_state.proofs.Terms.{IsAt}
use Rattle.trail_state.proofs.restarts.luby.Given as goal

abbrev pub invariant-loop-rest : goal.invariant-loop-rest
invariant-loop-rest l = record {
  none_left : l.rest ≡ 0 → l.i ≡ 0;
  here : 0 < l.rest → IsAt l.i l.power l.rest;
}

abbrev pub decreases-loop-rest : goal.decreases-loop-rest
decreases-loop-rest l = l.power
