use Rattle.std.proofs.Common.{◌≡◌, ◌≤◌, []}
use Rattle.search_tests.proofs.learning.driving.trail_of.Given as goal

abbrev pub invariant-loop-last : goal.invariant-loop-last
invariant-loop-last l = l.trail ≡ record { vars = l.vars; entries = []; taken = 0 }

abbrev pub invariant-loop-var : goal.invariant-loop-var
invariant-loop-var l = (l.trail ≡ record { vars = l.vars; entries = []; taken = 0 }) × (l.last ≤ l.vars)
