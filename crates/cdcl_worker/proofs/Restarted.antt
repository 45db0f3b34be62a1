-- What a search has after a restart.
use Rattle.std.proofs.Common.{◌≡◌, ◌≢◌, ℕ, ◌≤◌, inl, inr, List, [], ◌++◌, length, take, refl, ap, sym, ◌∙◌, subst, arith}
use Rattle.std.specs.Prelude.{All, Contains, Result, Ok, Err, OnOk}
use Rattle.std.proofs.lemmas.List.{append_assoc}
use Rattle.std.proofs.lemmas.List.Elements.{Contains-append_left, Contains-append_right, Contains-append_cases}
use Rattle.dg_base.specs.declared.Lit.{Lit}
use Rattle.cnf_problem.specs.declared.problem.Problem.{Problem}
use Rattle.cnf_problem.specs.Literals.{IsOver}
use Rattle.cnf_problem.specs.Laws.{IsWithin}
use Rattle.search_core.specs.declared.Entry.{Entry}
use Rattle.trail_state.specs.Trails.{TrailView, true_lits, IsWell}
use Rattle.trail_state.specs.Forcing.{AreForced}
use Rattle.clause_store.specs.Stores.{IsWatching, clauses_of}
use Rattle.order_solver.specs.Ordering.{SolverView, IsOrdering}
use Rattle.clause_exchange.specs.declared.rule.Part.{Part}
use Rattle.clause_exchange.specs.declared.rule.View.{View}
use Rattle.clause_exchange.specs.Steps.{mine}
use Rattle.worker_log.specs.Newness.{knows}
use Rattle.worker_log.specs.Keeping.{IsLogging, IsHeeding, OnlyReads, AreHeard}
use Rattle.cdcl_worker.specs.Outcomes.{WorkerView}
use Rattle.cdcl_worker.specs.Searching.{IsThinking, IsSearching, MayRestart}
use Rattle.cdcl_worker.proofs.Reasons.{forced_more}
use Rattle.cdcl_worker.proofs.Steps.{HasUndone, watching_undone}

-- clauses came to the store, which were heard, and beside it nothing changed but the log
pub record HasHeard (heard : List (List Lit)) (y z : WorkerView) : Type 0 where
  pub trail : z.trail ≡ y.trail
  pub order : z.order ≡ y.order
  pub choice : z.choice ≡ y.choice
  pub added : z.store.added ≡ y.store.added ++ heard
  pub watching : (p : Problem) → IsWatching p y.store y.trail → IsWatching p z.store z.trail

-- what is known then
thinking_heard : (p : Problem) (y z : WorkerView) (before after : Part) (vars : ℕ) (heard : List (List Lit)) → HasHeard heard y z → AreHeard vars heard (knows before) (knows after) → IsThinking p y before → IsThinking p z after
thinking_heard p y z before after vars heard has are thinking = record {
  vars = ap (λ (t : TrailView). t.vars) has.trail ∙ thinking.vars;
  forced = subst (λ cs. AreForced (p.clauses ++ cs) z.trail.entries) (sym has.added)
      (subst (λ (t : TrailView). AreForced (p.clauses ++ (y.store.added ++ heard)) t.entries) (sym has.trail)
      (subst (λ cs. AreForced cs y.trail.entries) (append_assoc p.clauses y.store.added heard) (forced_more (clauses_of p y.store) heard y.trail.entries thinking.forced)));
  holds = λ c m. subst (λ cs. Contains cs c) (sym has.added) (elim (are.only c m) [
    | inl old ↦ Contains-append_left y.store.added heard c (thinking.holds c old)
    | inr new ↦ Contains-append_right y.store.added heard c new
  ]);
  only = λ c m. elim (Contains-append_cases y.store.added heard c (subst (λ cs. Contains cs c) has.added m)) [
    | inl old ↦ are.kept c (thinking.only c old)
    | inr new ↦ are.added c new
  ];
  ordering = subst (λ (o : SolverView). IsOrdering p o) (sym has.order) thinking.ordering;
  asserted = subst (λ (o : SolverView). o.asserted ≡ take (length o.asserted) (true_lits z.trail.entries)) (sym has.order)
      (subst (λ (t : TrailView). y.order.asserted ≡ take (length y.order.asserted) (true_lits t.entries)) (sym has.trail) thinking.asserted);
  choice = subst (λ ls. All (IsOver p.vars) ls) (sym has.choice) thinking.choice;
}

-- the search begins again
pub restarted : (p : Problem) (budget : ℕ) (w y z : WorkerView) (v x : View) (vars : ℕ) (heard : List (List Lit)) → HasUndone 0 w y → IsWell w.trail → IsLogging z.log x → OnlyReads (mine v) (mine x) → x.problem ≡ v.problem
    → IsHeeding (mine x) (length (mine x).log) → z.since ≡ length (mine x).log → HasHeard heard y z → AreHeard vars heard (knows (mine v)) (knows (mine x)) → MayRestart p budget w v → IsSearching p budget z x
restarted p budget w y z v x vars heard un well logging only problem heeding since has are may = record {
  going = record {
    logging = logging;
    problem = problem ∙ may.problem;
    heeding = subst (λ n. IsHeeding (mine x) n) (sym since) heeding;
    within = subst (λ (es : List Entry). length es ≤ budget) (sym only.log) may.within;
    few = may.few;
    nonempty = subst (λ (es : List Entry). All (λ (e : Entry). e.lemma.lits ≢ []) es) (sym only.log) may.nonempty;
    silent = only.offers ∙ may.silent;
    thinking = thinking_heard p y z (mine v) (mine x) vars heard has are (un.thinking p (mine v) may.thinking);
  };
  watching = has.watching p (watching_undone p w w y 0 may.watching well (record { trail = refl; store = refl; order = refl; choice = refl; since = refl }) un);
}

-- ---- answers of calls

pub any_ok : {T E P : Type 0} (r : Result T E) → P → OnOk r P
any_ok (Ok x) p = p
any_ok (Err e) p = tt

pub both_ok : {T E A B P : Type 0} (r : Result T E) → OnOk r A → OnOk r B → (A → B → P) → OnOk r P
both_ok (Ok x) a b f = f a b
both_ok (Err e) a b f = tt
