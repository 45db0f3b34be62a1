use Rattle.std.proofs.Common.{◌≡◌, ◌++◌, ℕ, drop, map}
use Rattle.c_check.proofs.recursion.push_edges.Given as goal

abbrev pub invariant-loop-to : goal.invariant-loop-to
invariant-loop-to l = l.edges ++ map (λ (j : ℕ). (l.from, j)) (drop l.to-index l.row) ≡ l.fn.edges ++ map (λ (j : ℕ). (l.from, j)) l.row
