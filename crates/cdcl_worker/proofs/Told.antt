-- How the solver of orders is told the literals of the trail.
use Rattle.std.proofs.Common.{◌≡◌, ℕ, ◌+◌, ◌<◌, ◌≤◌, List, [], ◌∷◌, ◌++◌, length, take, get_or, refl, ap, sym, ◌∙◌, subst, arith, Some, slice_get}
use Rattle.std.specs.Prelude.{Contains, All}
use Rattle.std.proofs.lemmas.List.{take_more, take_all, length-map, length-take}
use Rattle.std.proofs.lemmas.Option.{get_or_from_slice_get, slice_get_within}
use Rattle.dg_base.proofs.Lists.{place_of, contains_place}
use Rattle.dg_base.specs.declared.Lit.{Lit}
use Rattle.cnf_problem.specs.declared.problem.Problem.{Problem}
use Rattle.cnf_problem.specs.Literals.{var, negated, IsOver}
use Rattle.cnf_problem.specs.Laws.{IsWithin}
use Rattle.cnf_problem.specs.Chains.{IsUnassigned}
use Rattle.cnf_problem.proofs.LiteralLaws.{var-negated}
use Rattle.trail_state.specs.Trails.{Assigned, TrailView, lit_of, true_lits, IsWell}
use Rattle.trail_state.specs.Forcing.{AreForced}
use Rattle.clause_store.specs.Stores.{StoreView, clauses_of}
use Rattle.order_solver.specs.Ordering.{SolverView, IsOrdering}
use Rattle.clause_exchange.specs.declared.rule.Part.{Part}
use Rattle.worker_log.specs.Newness.{knows}
use Rattle.cdcl_worker.specs.Outcomes.{WorkerView}
use Rattle.cdcl_worker.specs.Searching.{IsThinking}
use Rattle.cdcl_worker.proofs.Reasons.{get_taken}

-- the first so many literals of the trail were told
pub record IsTelling (t : TrailView) (before now : SolverView) (i : ℕ) : Type 0 where
  pub asserted : now.asserted ≡ take i (true_lits t.entries)
  pub fits : (p : Problem) → t.vars ≡ p.vars → IsOrdering p before → IsOrdering p now

-- at first those that it has
pub telling_start : (p : Problem) (w : WorkerView) (part : Part) (i : ℕ) → i ≡ length w.order.asserted → IsThinking p w part → IsTelling w.trail w.order w.order i
telling_start p w part i same thinking = record {
  asserted = subst (λ n. w.order.asserted ≡ take n (true_lits w.trail.entries)) (sym same) thinking.asserted;
  fits = λ q vars fits. fits;
}

module _ (t : TrailView) (before now : SolverView) (i : ℕ) (lit : Lit) (well : IsWell t) (telling : IsTelling t before now i) (at : slice_get (true_lits t.entries) i ≡ Some lit) where
  -- the next one is over the variables
  pub next_over : (p : Problem) → t.vars ≡ p.vars → IsOver p.vars lit
  next_over p vars = subst (λ n. IsOver n lit) vars (well.range lit (contains_place (true_lits t.entries) i lit at))

  -- no literal of its variable was told
  none_told : (m : Lit) → var m ≡ var lit → Contains now.asserted m → ⊥
  none_told m same has =
      let r = place_of (take i (true_lits t.entries)) m (subst (λ ls. Contains ls m) telling.asserted has) in
      let f = get_taken i (true_lits t.entries) r.0 m r.1 in
      let e = well.once r.0 i m lit f.1 at same in
      let lt = f.0 in
      omega arith

  pub next_free : IsUnassigned now.asserted lit
  next_free = (λ has. none_told lit refl has, λ has. none_told (negated lit) (var-negated lit) has)

  -- once it is told there are more
  pub telling_next : (next : SolverView) → next.asserted ≡ now.asserted ++ lit ∷ [] → ((p : Problem) → IsOrdering p now → IsOver p.vars lit → IsOrdering p next) → IsTelling t before next (i + 1)
  telling_next next asserted fits =
      let within = slice_get_within (true_lits t.entries) i lit at in
      let one : get_or (true_lits t.entries) i lit ≡ lit = get_or_from_slice_get (true_lits t.entries) i lit lit at in
      record {
        asserted = asserted ∙ ap (λ ls. ls ++ lit ∷ []) telling.asserted ∙ ap (λ (l : Lit). take i (true_lits t.entries) ++ l ∷ []) (sym one) ∙ sym (take_more (true_lits t.entries) i lit within);
        fits = λ p vars old. fits p (telling.fits p vars old) (next_over p vars);
      }

-- at last all were
pub told_all : (t : TrailView) (before now : SolverView) (i : ℕ) → length t.entries ≤ i → IsTelling t before now i → now.asserted ≡ true_lits t.entries
told_all t before now i long telling = telling.asserted ∙ take_all i (true_lits t.entries) (let e = length-map t.entries lit_of in omega arith)

-- and what is known goes on to hold
pub thinking_told : (p : Problem) (w u : WorkerView) (part : Part) → IsThinking p w part → u.trail ≡ w.trail → u.store ≡ w.store → u.choice ≡ w.choice → u.order.asserted ≡ true_lits u.trail.entries → IsOrdering p u.order → IsThinking p u part
thinking_told p w u part thinking trail store choice asserted ordering = record {
  vars = ap (λ (t : TrailView). t.vars) trail ∙ thinking.vars;
  forced = subst (λ (s : StoreView). AreForced (clauses_of p s) u.trail.entries) (sym store) (subst (λ (t : TrailView). AreForced (clauses_of p w.store) t.entries) (sym trail) thinking.forced);
  holds = subst (λ (s : StoreView). IsWithin (knows part) s.added) (sym store) thinking.holds;
  only = subst (λ (s : StoreView). IsWithin s.added (knows part)) (sym store) thinking.only;
  ordering = ordering;
  asserted =
      let long = ap length asserted in
      asserted ∙ sym (take_all (length u.order.asserted) (true_lits u.trail.entries) (omega arith));
  choice = subst (λ ls. All (IsOver p.vars) ls) (sym choice) thinking.choice;
}
