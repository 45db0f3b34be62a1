-- What the outcomes of workers say beside the verdict that stands.
use Rattle.std.proofs.Common.{◌≡◌, ◌≢◌, ℕ, ◌<◌, inl, inr, List, [], map, length, get_or, refl, ap, sym, ◌∙◌, subst, arith}
use Rattle.std.specs.Prelude.{slice_get, Option, Some, None, Contains, Bool}
use Rattle.std.proofs.lemmas.List.{same_lists, length-map}
use Rattle.std.proofs.lemmas.Option.{slice_get_within, slice_get-get_or}
use Rattle.dg_base.proofs.Lists.{not_none, one_answer, get_from_map, place_of, contains_place, contains_head, contains_nothing, contains_cases}
use Rattle.cnf_problem.specs.declared.problem.Problem.{Problem}
use Rattle.cnf_problem.specs.Problems.{IsConsistent}
use Rattle.search_core.specs.declared.Verdict.{Verdict}
use Rattle.search_core.specs.declared.Verdict.TheVariants.{Safe, Unsafe}
use Rattle.search_core.specs.Core.{Worker, IsReached, worker}
use Rattle.search_core.specs.Spent.{IsSpent}
use Rattle.clause_exchange.specs.declared.rule.Part.{Part}
use Rattle.clause_exchange.specs.declared.rule.RowView.{RowView}
use Rattle.clause_exchange.specs.declared.rule.View.{View}
use Rattle.clause_exchange.specs.Rule.{worker_of}
use Rattle.clause_exchange.specs.Steps.{code_of}
use Rattle.clause_exchange.specs.Spelling.{all_received, whole_within}
use Rattle.clause_exchange.proofs.CallLaws.{reading_is_all_law}
use mathlib.Core.List.{IsPrefix}
use Rattle.worker_log.specs.Keeping.{HasSpent}
use Rattle.worker_log.specs.Laws.{Shows}
use Rattle.worker_log.proofs.Noting.{heeded_all}
use Rattle.worker_log.proofs.Spending.{spent_shown}
use Rattle.cdcl_worker.specs.declared.worker.Outcome.{Outcome}
use Rattle.cdcl_worker.specs.declared.worker.Outcome.TheVariants.{Unsat, Model, Spent, Followed, OutOfMemory}
use Rattle.cdcl_worker.specs.Outcomes.{IsOutcome}
use Rattle.lemma_log.specs.declared.Entry as Logged
use Rattle.lemma_log.specs.Merging.{IsMerged}
use Rattle.verdict_run.specs.declared.decision.Report.{Report}
use Rattle.verdict_run.specs.declared.jobs.Ended.{Ended}
use Rattle.verdict_run.specs.Decisions.{IsReport, IsUnknown}
use Rattle.verdict_run.specs.Searches.{HasEnded, SomeWant, NoModelFrom, IsFirstModel, AreReports, logs_of}
use Rattle.verdict_run.proofs.Logs.{IsBoth, both, worker_is, log_of_state}

-- lists with the same elements are one
pub list_same : {X : Type 0} (xs ys : List X) → length xs ≡ length ys → ((k : ℕ) (x y : X) → slice_get xs k ≡ Some x → slice_get ys k ≡ Some y → x ≡ y) → xs ≡ ys
list_same xs ys long same =
    same_lists xs ys long (λ k d lt. same k (get_or xs k d) (get_or ys k d) (slice_get-get_or xs k d lt) (slice_get-get_or ys k d (subst (λ n. k < n) long lt)))

safe_not_unsafe : ◌≡◌ {A = Verdict} Safe Unsafe → ⊥
safe_not_unsafe e = let codes = ap code_of e in omega (arith, codes)

-- a worker that ended where no verdict stands, and found memory, is spent
pub spent_outcome : (p : Problem) (budget : ℕ) (before part : Part) (o : Outcome) → IsOutcome p budget before part o → ((u : Verdict) → Contains part.offers u → ⊥) → ((u : Verdict) → part.seen ≡ Some u → ⊥) → (o ≡ OutOfMemory → ⊥) → HasSpent p budget part
spent_outcome p budget before part Unsat is silent unseen memory = absurd (silent Safe (subst (λ us. Contains us Safe) (sym is.1) (contains_head Safe [])))
spent_outcome p budget before part (Model a) is silent unseen memory = absurd (silent Unsafe (subst (λ us. Contains us Unsafe) (sym is.1) (contains_head Unsafe [])))
spent_outcome p budget before part Spent is silent unseen memory = is.0
spent_outcome p budget before part (Followed u) is silent unseen memory = absurd (unseen u is.0)
spent_outcome p budget before part OutOfMemory is silent unseen memory = absurd (memory refl)

-- a worker that offered Unsafe has a model
pub model_outcome : (p : Problem) (budget : ℕ) (before part : Part) (o : Outcome) → IsOutcome p budget before part o → Contains part.offers Unsafe → ((a : List Bool) → o ≢ Model a) → ⊥
model_outcome p budget before part Unsat is offered none =
    elim (contains_cases Safe Unsafe [] (subst (λ us. Contains us Unsafe) is.1 offered)) [ inl e ↦ safe_not_unsafe (sym e) | inr c ↦ contains_nothing Unsafe c ]
model_outcome p budget before part (Model a) is offered none = none a refl
model_outcome p budget before part Spent is offered none = contains_nothing Unsafe (subst (λ us. Contains us Unsafe) is.1 offered)
model_outcome p budget before part (Followed u) is offered none = contains_nothing Unsafe (subst (λ us. Contains us Unsafe) is.2 offered)
model_outcome p budget before part OutOfMemory is offered none = contains_nothing Unsafe (subst (λ us. Contains us Unsafe) is offered)

module _ (p : Problem) (n budget : ℕ) (v : View) (next : ℕ) (verdict : Option Verdict) (ends : List Ended) (h : HasEnded p n budget v next verdict ends) where
  -- where Unsafe stands some worker has a model
  pub some_model : verdict ≡ Some Unsafe → NoModelFrom 0 ends → ⊥
  some_model stands none =
      let o = h.unsafe stands in
      let place = place_of v.parts o.0 o.1 in
      let lt : place.0 < n = subst (λ m. place.0 < m) h.parts (slice_get_within v.parts place.0 o.0 place.1) in
      let b = both p n budget v next verdict ends h place.0 lt in
      let same : b.part ≡ o.0 = one_answer (slice_get v.parts place.0) b.part o.0 b.is_part place.1 in
      model_outcome p budget b.search.before b.part b.ended.outcome b.search.outcome (subst (λ (q : Part). Contains q.offers Unsafe) (sym same) o.2) (λ a. none place.0 b.ended a (omega arith) b.is_ended)

  -- and each model is consistent
  pub model_holds : (a : List Bool) → IsFirstModel 0 ends a → IsConsistent p a
  model_holds a first =
      let lt : first.place < n = subst (λ m. first.place < m) h.long (slice_get_within ends first.place first.ended first.is) in
      let b = both p n budget v next verdict ends h first.place lt in
      let same : b.ended ≡ first.ended = one_answer (slice_get ends first.place) b.ended first.ended b.is_ended first.is in
      (subst (IsOutcome p budget b.search.before b.part) (ap (λ (e : Ended). e.outcome) same ∙ first.model) b.search.outcome).0

  module _ (none : verdict ≡ None) (memory : SomeWant ends → ⊥) where
    -- each worker is spent
    pub has_spent : (k : ℕ) (b : IsBoth p n budget v next verdict ends h k) → HasSpent p budget b.part
    has_spent k b =
        let listed = contains_place v.parts k b.part b.is_part in
        spent_outcome p budget b.search.before b.part b.ended.outcome b.search.outcome
        (λ u offered. h.offered b.part u listed offered none)
        (λ u seen. not_none verdict u none (h.seen b.part u listed seen))
        (λ is. memory (k, b.ended, b.is_ended, is))

    -- what it read of a row is what it knows there
    all_known : (k : ℕ) (b : IsBoth p n budget v next verdict ends h k) (j : ℕ) (r : RowView) → slice_get b.part.rows j ≡ Some r → whole_within r.loaded r.known ≡ r.known
    all_known k b j r at = reading_is_all_law r (heeded_all b.part (length b.part.log) (has_spent k b).heeding j r at)

    wide : (k : ℕ) (b : IsBoth p n budget v next verdict ends h k) → length b.part.rows ≡ n
    wide k b = (h.numbered b.part (contains_place v.parts k b.part b.is_part)).wide ∙ h.workers_are

    -- the state of the core shows it
    shows : (k : ℕ) (b : IsBoth p n budget v next verdict ends h k) → Shows h.state.core b.part
    shows k b = record {
      count = h.state.count ∙ h.workers_are ∙ sym (wide k b);
      own = subst (λ m. worker h.state.core m ≡ worker_of b.part) (sym b.number) (worker_is p n budget v next verdict ends h k b.part b.is_part);
      others = λ j r at.
          let lt : j < n = subst (λ m. j < m) (wide k b) (slice_get_within b.part.rows j r at) in
          let c = both p n budget v next verdict ends h j lt in
          let read = h.reads b.part c.part r (contains_place v.parts k b.part b.is_part) (contains_place v.parts j c.part c.is_part) (subst (λ m. slice_get b.part.rows m ≡ Some r) (sym c.number) at) in
          subst (λ (w : Worker). IsPrefix r.known (all_received w.shared)) (sym (worker_is p n budget v next verdict ends h j c.part c.is_part))
          (subst (λ known. IsPrefix known (all_received c.part.shared)) (all_known k b j r at) read);
    }

    pub is_spent : (k : ℕ) → k < n → IsSpent p h.state.core budget k
    is_spent k lt =
        let b = both p n budget v next verdict ends h k lt in
        subst (IsSpent p h.state.core budget) b.number (spent_shown p budget h.state.core b.part (has_spent k b) (shows k b))

    -- the reports are of the state
    pub is_report : (reports : List Report) → AreReports ends reports → (i : ℕ) (r : Report) → slice_get reports i ≡ Some r → IsReport h.state.core i r
    is_report reports are i r at =
        let lt : i < n = subst (λ m. i < m) (are.count ∙ h.long) (slice_get_within reports i r at) in
        let b = both p n budget v next verdict ends h i lt in
        let told = are.each i b.ended r b.is_ended at in
        let own = sym (worker_is p n budget v next verdict ends h i b.part b.is_part) in
        record {
          worker_is = told.worker_is;
          entries = told.entries ∙ b.search.log.long ∙ ap (λ (w : Worker). length w.log) own;
          reads = told.reads
              ∙ list_same b.ended.worker.log.reads (map (λ (x : RowView). length x.known) b.part.rows)
              (b.search.reads.wide ∙ sym (length-map b.part.rows (λ (x : RowView). length x.known)))
              (λ j x y at_x at_y.
              let row = get_from_map (λ (z : RowView). length z.known) b.part.rows j y at_y in
              sym (b.search.reads.each j x row.0 at_x row.1) ∙ ap length (all_known i b j row.0 row.1) ∙ row.2)
              ∙ ap (λ (w : Worker). w.may_read) own;
        }

    pub is_unknown : (merged : List Logged.Entry) (reports : List Report) → IsMerged (logs_of ends) merged → AreReports ends reports → IsUnknown p n budget merged reports
    is_unknown merged reports is are = record {
      state = h.state.core;
      reached = subst (λ q. IsReached q n h.state.core) h.problem (subst (λ m. IsReached v.problem m h.state.core) h.workers_are h.state.reached);
      undecided = h.state.found ∙ none;
      spent = is_spent;
      log_is = log_of_state p n budget v next verdict ends h merged is;
      count = are.count ∙ h.long;
      each = is_report reports are;
    }
