use Rattle.std.proofs.Common.{below_more, arith}
use Rattle.models_tests.proofs.Listing.{listed_static}
use Rattle.models_tests.proofs.listed.are_static.Goals as goal

pub loop-place-preserved : goal.loop-place-preserved
loop-place-preserved c = below_more _ _ c.loop-place.invariant (c.is_placed.ensures c.if-not-is_placed.false)

pub returns : goal.returns
returns c = λ _. listed_static c.args.events.now (λ n h. c.loop-place.invariant n (omega arith))
