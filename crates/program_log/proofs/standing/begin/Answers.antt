use Rattle.std.proofs.Common.{[], subst}
use Rattle.program_log.specs.Pieces.{IsBegun}
use Rattle.program_log.proofs.standing.begin.Goals as goal

pub take_all-requires : goal.take_all-requires
take_all-requires c =
    let ours = c.args.ours.now in
    let fed = c.requires.0 in
    let read = c.requires.1 in
    (ours, (fed, record { given = []; read = read; standing = subst (IsBegun c.args.problem.now ours c.args.reader.now fed) c.in-Some.is (c.in_ok-standing.ensures fed read) }))

pub returns-in_ok-take_all-in-Some : goal.returns-in_ok-take_all-in-Some
returns-in_ok-take_all-in-Some c fed read =
    let ours = c.args.ours.now in
    let begun = subst (IsBegun c.args.problem.now ours c.args.reader.now fed) c.in-Some.is (c.in_ok-standing.ensures fed read) in
    (c.in_ok-take_all-in-Some.ensures.standing ours fed (record { given = []; read = read; standing = begun }), c.in_ok-take_all-in-Some.ensures.taken)

pub returns-in-None : goal.returns-in-None
returns-in-None c fed read = (read, subst (IsBegun c.args.problem.now c.args.ours.now c.args.reader.now fed) c.in-None.is (c.in_ok-standing.ensures fed read))
