use Rattle.clause_store.specs.Stores.{IsWatching}
use Rattle.search_tests.proofs.propagation.scanning.search.Given as goal

abbrev pub invariant-steps : goal.invariant-steps
invariant-steps l = IsWatching l.problem l.store l.trail
