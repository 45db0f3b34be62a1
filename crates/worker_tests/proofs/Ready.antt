-- The seats of one worker and of two are new.
use Rattle.std.proofs.Common.{◌≡◌, ℕ, [], ◌∷◌, refl, ap, sym, ◌∙◌, subst}
use Rattle.cnf_problem.specs.declared.problem.Problem.{Problem}
use Rattle.clause_exchange.specs.declared.rule.View.{View}
use Rattle.clause_exchange.specs.Rule.{new_view, blank_part}
use Rattle.clause_exchange.specs.Splits.{with_parts, below, from_on}
use Rattle.worker_log.specs.Logs.{empty_log}
use Rattle.worker_log.proofs.Beginning.{unused_blank}
use Rattle.worker_tests.specs.Seats.{IsNewSeat}

new_blank : (p : Problem) (n words k : ℕ) (v : View) → v ≡ with_parts (new_view p n words) (blank_part n k ∷ []) → IsNewSeat p k n v
new_blank p n words k v e = subst (IsNewSeat p k n) (sym e) (record {
  problem = refl;
  number_is = refl;
  workers_are = refl;
  idle = (unused_blank p n words k (empty_log k n) (with_parts (new_view p n words) (blank_part n k ∷ [])) refl refl).1;
})

pub alone_new : (p : Problem) (words : ℕ) (v : View) → v ≡ new_view p 1 words → IsNewSeat p 0 1 v
alone_new p words v e = new_blank p 1 words 0 v e

pub left_new : (p : Problem) (words : ℕ) (v l : View) → v ≡ new_view p 2 words → l ≡ with_parts v (below 1 v.parts) → IsNewSeat p 0 2 l
left_new p words v l e is = new_blank p 2 words 0 l (is ∙ ap (λ (u : View). with_parts u (below 1 u.parts)) e)

pub right_new : (p : Problem) (words : ℕ) (v r : View) → v ≡ new_view p 2 words → r ≡ with_parts v (from_on 1 v.parts) → IsNewSeat p 1 2 r
right_new p words v r e is = new_blank p 2 words 1 r (is ∙ ap (λ (u : View). with_parts u (from_on 1 u.parts)) e)
