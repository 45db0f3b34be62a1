use Rattle.std.proofs.Common.{◌+◌, length}
use Rattle.c_check.specs.Searching.{unmarked}
use Rattle.c_check.proofs.Searches.{Searches}
use Rattle.c_check.proofs.reachability.leads_back.Given as goal

abbrev pub invariant-loop-number : goal.invariant-loop-number
invariant-loop-number l = Searches l.rows l.root l.search

abbrev pub decreases-loop-number : goal.decreases-loop-number
decreases-loop-number l = unmarked l.search.marks + length l.search.pending
