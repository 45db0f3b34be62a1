use Rattle.from_read.proofs.tests.edges_go_with_their_atoms.Goals as goal

pub raise-requires-4-clause-below : goal.raise-requires-4-clause-below
raise-requires-4-clause-below g c = c.cut.ensures.below 3 c.raise-3.ensures.below
