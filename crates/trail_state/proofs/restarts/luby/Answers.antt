use Rattle.std.proofs.Common.{◌<◌, arith}
use Rattle.trail_state.proofs.Terms.{at_start, at_found, at_lower, at_later, power_positive}
use Rattle.trail_state.proofs.restarts.luby.Goals as goal
use Rattle.trail_state.proofs.restarts.luby.Goals.{then-rest-power+else-rest-power-2, else-rest-power}

pub loop-rest-init : goal.loop-rest-init
loop-rest-init c = record { none_left = λ e. e; here = λ low. at_start c.args.i low (omega arith) }

pub loop-rest-preserved : goal.loop-rest-preserved
loop-rest-preserved c =
    let low : 0 < c.loop-rest.rest = omega arith in
    let at = c.loop-rest.invariant.here low in
    let p = power_positive c.args.i c.loop-rest.power c.loop-rest.rest low at in
    elim c.if-rest-power.branch [
      | then-rest-power+else-rest-power-2 w ↦ record {
        none_left = λ e. absurd (omega (arith, w.rest-is, w.if-rest-power.true));
        here = λ h. rw w.rest-is (at_later c.args.i c.loop-rest.power c.loop-rest.rest low at w.if-rest-power.true w.if-rest-power-2.false);
      }
      | else-rest-power w ↦ record {
        none_left = λ e. absurd (omega (arith, w.rest-is));
        here = λ h. rw w.rest-is (at_lower c.args.i c.loop-rest.power c.loop-rest.rest low at w.if-rest-power.false);
      }
    ]

pub returns-then-rest-power-2 : goal.returns-then-rest-power-2
returns-then-rest-power-2 c =
    let low : 0 < c.loop-rest.rest = omega arith in
    at_found c.args.i c.loop-rest.power c.loop-rest.rest low (c.loop-rest.invariant.here low) c.if-rest-power.true c.if-rest-power-2.true

pub loop-rest-smaller : goal.loop-rest-smaller
loop-rest-smaller c = let low : 0 < c.loop-rest.rest = omega arith in let p = power_positive c.args.i c.loop-rest.power c.loop-rest.rest low (c.loop-rest.invariant.here low) in omega arith
