use Rattle.c_token.proofs.Ends.{effects_from, effects_from_none, got_or, got_past}
use Rattle.c_token.proofs.search.effects_left.Goals as goal

pub returns-in-Some : goal.returns-in-Some
returns-in-Some c = λ bodies t h.
    let here = got_or c.args.macros.now c.args.number c.in-Some.begun.now c.in-Some.ensures.lookup.3.0 c.in-Some.ensures.lookup.1 in
    effects_from c.args.macros.now bodies c.args.number c.in-Some.begun.now _ _ c.args.first c.effects_behind.result t here c.as_slice.ensures c.as_slice-in-Some.ensures (c.effects_behind.ensures bodies) h

pub returns-in-None : goal.returns-in-None
returns-in-None c = λ bodies t h.
    let here = got_past c.args.macros.now c.args.number c.in-None.ensures.lookup.3 in
    effects_from_none c.args.macros.now bodies c.args.number c.args.first c.nothing.result here c.nothing.ensures
