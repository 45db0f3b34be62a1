use Rattle.search_tests.proofs.propagation.an_added_clause_is_looked_at.Goals as goal

pub add-requires-clause-watching : goal.add-requires-clause-watching
add-requires-clause-watching g c = (c.in_ok-problem.problem, rw c.in_ok-trail.ensures c.in_ok-store.ensures.watching)
