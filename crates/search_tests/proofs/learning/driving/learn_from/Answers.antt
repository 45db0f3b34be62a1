use Rattle.std.proofs.Common.{arith}
use Rattle.search_tests.proofs.learning.driving.learn_from.Goals as goal

pub add-requires-clause-watching : goal.add-requires-clause-watching
add-requires-clause-watching c =
    let undone = c.undo_to.ensures in
    (c.requires.0, c.requires.1 0 c.undo_to.new.self (omega arith) (record { entries = undone.entries; taken = undone.taken; vars = undone.vars }))

pub returns : goal.returns
returns c = λ p below.
    let undone = c.undo_to.ensures in
    c.in_ok-add.ensures.watching p (below 0 c.undo_to.new.self (omega arith) (record { entries = undone.entries; taken = undone.taken; vars = undone.vars }))
