-- What is known goes on to hold when the trail is undone.
use Rattle.std.proofs.Common.{◌≡◌, ℕ, ◌≤◌, List, length, take, ap, sym, ◌∙◌, subst, arith}
use Rattle.std.specs.Prelude.{All}
use Rattle.std.proofs.lemmas.List.{take-map, take-take, length-take-le}
use Rattle.dg_base.specs.declared.Lit.{Lit}
use Rattle.cnf_problem.specs.declared.problem.Problem.{Problem}
use Rattle.cnf_problem.specs.Literals.{IsOver}
use Rattle.cnf_problem.specs.Laws.{IsWithin}
use Rattle.trail_state.specs.Trails.{Assigned, lit_of, true_lits, up_to}
use Rattle.trail_state.specs.Forcing.{AreForced}
use Rattle.trail_state.proofs.Cuts.{up_to_take}
use Rattle.clause_store.specs.Stores.{StoreView, IsUndone, clauses_of}
use Rattle.order_solver.specs.Ordering.{IsOrdering}
use Rattle.clause_exchange.specs.declared.rule.Part.{Part}
use Rattle.worker_log.specs.Newness.{knows}
use Rattle.cdcl_worker.specs.Outcomes.{WorkerView}
use Rattle.cdcl_worker.specs.Searching.{IsThinking}
use Rattle.cdcl_worker.proofs.Reasons.{forced_up_to}

-- a beginning of the trail that is cut with it is a beginning of what is left
beginning_cut : (n k : ℕ) (es : List Assigned) (front_lits left_lits : List Lit) → front_lits ≡ take (length front_lits) (true_lits es) → k ≤ length front_lits → k ≤ length (up_to n es) → left_lits ≡ take k front_lits → left_lits ≡ take (length left_lits) (true_lits (up_to n es))
beginning_cut n k es front_lits left_lits front few short cut =
    let m = length (up_to n es) in
    let long : length left_lits ≡ k = ap length cut ∙ length-take-le k front_lits few in
    let left : true_lits (up_to n es) ≡ take m (true_lits es) = ap true_lits (up_to_take n es) ∙ sym (take-map lit_of m es) in
    let here : left_lits ≡ take k (true_lits es) = cut ∙ ap (λ xs. take k xs) front ∙ take-take k (length front_lits) (true_lits es) few in
    here ∙ sym (take-take k m (true_lits es) short) ∙ ap (λ xs. take k xs) (sym left) ∙ ap (λ j. take j (true_lits (up_to n es))) (sym long)

-- where the orders are cut with the trail
pub thinking_undone : (p : Problem) (w y : WorkerView) (part : Part) (n k : ℕ) → IsUndone n w.trail y.trail → y.store ≡ w.store → y.choice ≡ w.choice → k ≤ length w.order.asserted → k ≤ length y.trail.entries
    → y.order.asserted ≡ take k w.order.asserted → (IsOrdering p w.order → IsOrdering p y.order) → IsThinking p w part → IsThinking p y part
thinking_undone p w y part n k un store choice few short cut ordering thinking = record {
  vars = un.vars ∙ thinking.vars;
  forced = subst (λ (s : StoreView). AreForced (clauses_of p s) y.trail.entries) (sym store)
      (subst (λ es. AreForced (clauses_of p w.store) es) (sym un.entries) (forced_up_to (clauses_of p w.store) n w.trail.entries thinking.forced));
  holds = subst (λ (s : StoreView). IsWithin (knows part) s.added) (sym store) thinking.holds;
  only = subst (λ (s : StoreView). IsWithin s.added (knows part)) (sym store) thinking.only;
  ordering = ordering thinking.ordering;
  asserted = subst (λ es. y.order.asserted ≡ take (length y.order.asserted) (true_lits es)) (sym un.entries)
      (beginning_cut n k w.trail.entries w.order.asserted y.order.asserted thinking.asserted few (subst (λ es. k ≤ length es) un.entries short) cut);
  choice = subst (λ ls. All (IsOver p.vars) ls) (sym choice) thinking.choice;
}
