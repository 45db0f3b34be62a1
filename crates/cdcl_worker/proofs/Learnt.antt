-- That what was learnt may be noted, and kept at its level.
use Rattle.std.proofs.Common.{◌≡◌, ◌≢◌, ℕ, ◌+◌, ◌<◌, ◌≤◌, ◌⊎◌, inl, inr, List, [], ◌∷◌, ◌++◌, map, length, refl, ap, sym, ◌∙◌, subst, arith}
use Rattle.std.specs.Prelude.{Contains, All}
use Rattle.std.proofs.lemmas.List.Elements.{All-same, All-nil, All-weaker, All-contains, All-contains_itself, Contains-append_left, Contains-append_right, Contains-append_cases}
use Rattle.dg_base.specs.declared.Lit.{Lit}
use Rattle.cnf_problem.specs.declared.problem.Lemma.{Lemma}
use Rattle.cnf_problem.specs.declared.problem.LemmaKind.TheVariants.{Unit as ByUnit, Cycle as ByCycle}
use Rattle.cnf_problem.specs.declared.problem.Problem.{Problem}
use Rattle.cnf_problem.specs.Literals.{var, negated, IsOver}
use Rattle.cnf_problem.specs.Laws.{IsWithin}
use Rattle.cnf_problem.specs.Chains.{IsNew, IsFixpoint, AllFalse, ReachesConflict}
use Rattle.cnf_problem.specs.Problems.{Follows, FollowsBy}
use Rattle.cnf_problem.proofs.ChainLaws.{conflict_more}
use Rattle.cnf_problem.proofs.LemmaLaws.{cyclic_more}
use Rattle.cnf_problem.proofs.LiteralLaws.{var-negated, negated-negated}
use Rattle.trail_state.specs.Trails.{Assigned, true_lits, level, level_of, up_to, IsWell}
use Rattle.trail_state.proofs.Cuts.{level-up_to_min}
use Rattle.clause_store.specs.Stores.{CanBeWatched, clauses_of}
use Rattle.conflict_learn.proofs.Asserting.{false_up_to}
use Rattle.order_solver.specs.Ordering.{IsCycleClause}
use Rattle.clause_exchange.specs.declared.rule.Part.{Part}
use Rattle.clause_exchange.specs.declared.rule.View.{View}
use Rattle.clause_exchange.specs.Steps.{mine}
use Rattle.worker_log.specs.Newness.{knows}
use Rattle.worker_log.specs.Keeping.{IsHeeding, MayNote}
use Rattle.cdcl_worker.specs.Outcomes.{WorkerView}
use Rattle.cdcl_worker.specs.Searching.{IsThinking, IsUnderWay, MayLearn}
use Rattle.cdcl_worker.proofs.Fresh.{fixpoint_of_same, new_where_unit, new_in_order, follows_from_known, negated_within, within_nothing, some_literal}
use Rattle.cdcl_worker.proofs.Levels.{once_of}
use Rattle.cdcl_worker.proofs.Watchable.{two_in_cut, free_is_not_below, high_is_not_below}

-- ---- what the store has and what the number knows

-- more clauses behind the same ones
pub within_behind : {X : Type 0} (front xs ys : List X) → IsWithin xs ys → IsWithin (front ++ xs) (front ++ ys)
within_behind front xs ys within = λ x m. elim (Contains-append_cases front xs x m) [
  | inl k ↦ Contains-append_left front ys x k
  | inr k ↦ Contains-append_right front ys x (within x k)
]

-- the clauses of the store are known
pub store_known : (p : Problem) (w : WorkerView) (part : Part) → IsThinking p w part → IsWithin (clauses_of p w.store) (p.clauses ++ knows part)
store_known p w part thinking = within_behind p.clauses w.store.added (knows part) thinking.only

-- and what is known is in the store
pub known_stored : (p : Problem) (w : WorkerView) (part : Part) → IsThinking p w part → IsWithin (p.clauses ++ knows part) (clauses_of p w.store)
known_stored p w part thinking = within_behind p.clauses (knows part) w.store.added thinking.holds

-- a fact of each literal is one of all
pub all_each : {X : Type 0} (P : X → Type 0) (xs : List X) → ((x : X) → Contains xs x → P x) → All P xs
all_each P xs each = All-weaker (Contains xs) P each xs (All-contains_itself xs)

-- ---- a learnt clause

module _ (p : Problem) (budget : ℕ) (w : WorkerView) (v : View) (conflict lits : List Lit) (back : ℕ) (may : MayLearn p budget w v conflict lits back) (well : IsWell w.trail) where
  -- each literal is over the problem's variables
  pub learnt_over : (l : Lit) → Contains lits l → IsOver w.trail.vars l
  learnt_over l m =
      let r = well.range (negated l) (may.learnt.refuted l m) in
      let e = var-negated l in
      (omega arith, omega arith)

  module _ (lemma : Lemma) (there : IsWithin lits lemma.lits) (back_again : IsWithin lemma.lits lits) where
    -- the lemma follows
    learnt_follows : lemma.kind ≡ ByUnit → Follows p (knows (mine v)) lemma
    learnt_follows kind = record {
      variables = all_each (IsOver p.vars) lemma.lits (λ l m. subst (λ n. IsOver n l) may.going.thinking.vars (learnt_over l (back_again l m)));
      cause =
          subst (λ k. FollowsBy k p (knows (mine v)) lemma.lits) (sym kind)
          (conflict_more (clauses_of p w.store) (p.clauses ++ knows (mine v)) (map negated lemma.lits) (map negated lemma.lits) (store_known p w (mine v) may.going.thinking) (λ x m. m)
          (follows_from_known (clauses_of p w.store) w.trail.entries conflict (map negated lits) (map negated lemma.lits) may.known (negated_within lits lemma.lits there) may.learnt.follows));
    }

    -- and is new
    learnt_new : IsNew (p.clauses ++ knows (mine v)) lemma.lits
    learnt_new =
        let a = may.learnt.asserts in
        new_in_order (p.clauses ++ knows (mine v)) lits lemma.lits there back_again
        (new_where_unit (p.clauses ++ knows (mine v)) (true_lits (up_to back w.trail.entries)) lits a.0
        (fixpoint_of_same (clauses_of p w.store) (p.clauses ++ knows (mine v)) (true_lits (up_to back w.trail.entries)) (known_stored p w (mine v) may.going.thinking) (may.fixpoint back may.learnt.lower))
        a.1 a.2 a.3)

    -- so it may be noted
    pub learnt_may : lemma.kind ≡ ByUnit → length (mine v).log < w.since + 1024 → MayNote v lemma
    learnt_may kind recent = record {
      since = w.since;
      heeding = may.going.heeding;
      recent = recent;
      room = (let a = may.room in let b = may.going.few in omega arith);
      follows = subst (λ q. Follows q (knows (mine v)) lemma) (sym may.going.problem) (learnt_follows kind);
      new = λ some. subst (λ (q : Problem). IsNew (q.clauses ++ knows (mine v)) lemma.lits) (sym may.going.problem) learnt_new;
    }

    -- and it is not empty
    pub learnt_some : lemma.lits ≢ []
    learnt_some = let a = may.learnt.asserts in some_literal lemma.lits a.0 (there a.0 a.1)

    -- and it can be watched where it asserts a literal
    pub learnt_watchable : 0 < level (up_to back w.trail.entries) → CanBeWatched (up_to back w.trail.entries) lemma.lits
    learnt_watchable above =
        let a = may.learnt.asserts in
        let once = once_of w.trail well in
        let cut = level-up_to_min back w.trail.entries in
        elim may.learnt.reached [
          | inl ground ↦ absurd (omega arith)
          | inr r ↦ two_in_cut back w.trail.entries lemma.lits a.0 r.0 (there a.0 a.1) (there r.0 r.1)
              (λ same. a.2.1 (false_up_to back w.trail.entries a.0 once (may.learnt.refuted a.0 a.1) (let e = ap (λ (l : Lit). level_of (var l) w.trail.entries) same in let f = r.2 in omega arith)))
              (free_is_not_below (up_to back w.trail.entries) a.0 a.2)
              (high_is_not_below back w.trail.entries r.0 (let f = r.2 in omega arith))
        ]

-- ---- a cycle clause

module _ (v : View) (clause : List Lit) (lemma : Lemma) (there : IsWithin clause lemma.lits) (back : IsWithin lemma.lits clause) (cycle : IsCycleClause v.problem clause) where
  -- it follows
  cycle_follows : lemma.kind ≡ ByCycle → Follows v.problem (knows (mine v)) lemma
  cycle_follows kind = record {
    variables = all_each (IsOver v.problem.vars) lemma.lits (λ l m. All-contains (IsOver v.problem.vars) clause l cycle.over (back l m));
    cause =
        subst (λ k. FollowsBy k v.problem (knows (mine v)) lemma.lits) (sym kind)
        (cyclic_more v.problem (λ l. Contains clause (negated l)) (λ l. Contains lemma.lits (negated l)) (λ l m. there (negated l) m) cycle.cyclic);
  }

  -- and may be noted where it is new or empty
  pub cycle_may : (since : ℕ) → lemma.kind ≡ ByCycle → IsHeeding (mine v) since → length (mine v).log < since + 1024 → length (mine v).log < 1000001 → (clause ≢ [] → IsNew (v.problem.clauses ++ knows (mine v)) clause) → MayNote v lemma
  cycle_may since kind heeding recent room new = record {
    since = since;
    heeding = heeding;
    recent = recent;
    room = room;
    follows = cycle_follows kind;
    new = λ some. new_in_order (v.problem.clauses ++ knows (mine v)) clause lemma.lits there back (new (λ none. some (within_nothing lemma.lits (subst (λ ls. IsWithin lemma.lits ls) none back))));
  }

-- ---- the empty clause

-- it may be noted where what is known is refuted
pub empty_may : (v : View) (lemma : Lemma) (since : ℕ) → lemma.kind ≡ ByUnit → lemma.lits ≡ [] → IsHeeding (mine v) since → length (mine v).log < since + 1024 → length (mine v).log ≤ 1000000 → ReachesConflict (v.problem.clauses ++ knows (mine v)) [] → MayNote v lemma
empty_may v lemma since kind none heeding recent room refuted = record {
  since = since;
  heeding = heeding;
  recent = recent;
  room = omega arith;
  follows = record {
    variables = All-same (IsOver v.problem.vars) lemma.lits [] none (All-nil (IsOver v.problem.vars));
    cause =
        subst (λ k. FollowsBy k v.problem (knows (mine v)) lemma.lits) (sym kind)
        (subst (λ ls. ReachesConflict (v.problem.clauses ++ knows (mine v)) (map negated ls)) (sym none) refuted);
  };
  new = λ some. absurd (some none);
}
