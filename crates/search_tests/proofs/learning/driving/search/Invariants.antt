use Rattle.clause_store.specs.Stores.{IsWatching}
use Rattle.search_tests.proofs.learning.driving.search.Given as goal

abbrev pub invariant-loop-round : goal.invariant-loop-round
invariant-loop-round l = IsWatching l.problem l.store l.trail
