use Rattle.search_tests.proofs.propagation.scanning.go_back.Goals as goal

pub add_some-requires : goal.add_some-requires
add_some-requires c =
    let undone = c.undo_some.ensures c.if-not-undo_some.false in
    (c.requires.0, c.requires.1 undone.0 c.undo_some.new.trail undone.1 undone.2)

pub returns : goal.returns
returns c = λ _ p below.
    let undone = c.undo_some.ensures c.if-not-undo_some.false in
    c.in_ok-add_some.ensures p (below undone.0 c.undo_some.new.trail undone.1 undone.2)
