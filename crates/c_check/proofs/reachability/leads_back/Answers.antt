use Rattle.c_check.proofs.Searches.{begins, goes_on, falls, ends}
use Rattle.c_check.proofs.reachability.leads_back.Goals as goal

pub loop-number-init : goal.loop-number-init
loop-number-init c =
    let h = c.in_ok-no_marks in
    begins c.args.rows.now c.args.root c.visit.new.self _ c.new.result c.requires.closed
    h.ensures c.new.ensures c.in_ok-visit.ensures

pub loop-number-smaller : goal.loop-number-smaller
loop-number-smaller c = falls c.args.rows.now c.args.root c.loop-number.search c.visit-in-Some.new.self _ _ c.requires.closed c.in-Some.ensures c.in_ok-visit-2.ensures c.loop-number.invariant

pub loop-number-preserved : goal.loop-number-preserved
loop-number-preserved c = goes_on c.args.rows.now c.args.root c.loop-number.search c.visit-in-Some.new.self _ _ c.requires.closed c.in-Some.ensures c.in_ok-visit-2.ensures c.loop-number.invariant

pub returns : goal.returns
returns c =
    ends c.args.rows.now c.args.root c.loop-number.search c.as_slice.result.now (let h = c.in_default.ensures in h.0) c.as_slice.ensures c.loop-number.invariant
