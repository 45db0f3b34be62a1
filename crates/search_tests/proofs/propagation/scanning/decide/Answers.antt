use Rattle.search_tests.proofs.propagation.scanning.decide.Goals as goal

pub returns : goal.returns
returns c p s watching settled =
    rw c.decide.ensures (c.watches_are_kept.ensures.deciding p s c.args.trail.now c.in-Some.lit watching settled c.len-count.ensures.well)
