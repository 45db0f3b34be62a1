-- What a search has after a lemma is noted, the trail undone and the lemma kept.
use Rattle.std.proofs.Common.{◌≡◌, ◌≢◌, ℕ, ◌+◌, ◌<◌, ◌≤◌, ◌⊎◌, inl, inr, List, [], ◌∷◌, ◌++◌, length, take, refl, ap, sym, ◌∙◌, subst, arith}
use Rattle.std.specs.Prelude.{Contains, All, OnOk, Result, Ok, Err}
use Rattle.std.proofs.lemmas.List.Elements.{Contains-append_right}
use Rattle.dg_base.proofs.Lists.{contains_head, contains_nothing}
use Rattle.dg_base.specs.declared.Lit.{Lit}
use Rattle.cnf_problem.specs.declared.problem.Lemma.{Lemma}
use Rattle.cnf_problem.specs.declared.problem.Problem.{Problem}
use Rattle.cnf_problem.specs.Literals.{var, IsOver}
use Rattle.cnf_problem.specs.Laws.{IsWithin}
use Rattle.cnf_problem.specs.Chains.{IsNew, IsFixpoint, AllFalse, IsUnassigned}
use Rattle.trail_state.specs.Trails.{Assigned, TrailView, true_lits, level, level_of, up_to, IsAssigned, IsWell}
use Rattle.trail_state.specs.Forcing.{AreForced, FixpointBelow}
use Rattle.trail_state.proofs.Assigning.{same_or_negated}
use Rattle.trail_state.proofs.Cuts.{level-up_to, level-up_to_min}
use Rattle.clause_store.specs.Stores.{StoreView, IsUndone, IsWatching, WatchesBelow, CanBeWatched, clauses_of}
use Rattle.clause_store.proofs.TrailLaws.{undone, fixpoint_below}
use Rattle.conflict_learn.specs.Learning.{IsLearnt}
use Rattle.conflict_learn.proofs.Asserting.{false_up_to}
use Rattle.conflict_learn.proofs.Levels.{level_of-le-level}
use Rattle.order_solver.specs.Ordering.{SolverView, IsOrdering, IsCycleClause, IsUnit}
use Rattle.clause_exchange.specs.declared.rule.Part.{Part}
use Rattle.clause_exchange.specs.declared.rule.View.{View}
use Rattle.clause_exchange.specs.Steps.{mine}
use Rattle.clause_exchange.specs.Seats.{ExchangeId, SeatState, exchange_of}
use Rattle.worker_log.specs.Newness.{knows}
use Rattle.worker_log.specs.Logs.{LogView}
use Rattle.worker_log.specs.Keeping.{IsLogging, Notes}
use Rattle.cdcl_worker.specs.Outcomes.{WorkerView}
use Rattle.cdcl_worker.specs.Searching.{IsThinking, IsLast, IsUnderWay, IsSearching, IsAtConflict, MayLearn, HasTwoAt}
use Rattle.cdcl_worker.proofs.Fresh.{fixpoint_of_same, new_where_false, new_where_unit, some_literal}
use Rattle.cdcl_worker.proofs.Levels.{once_of, false_assigned, false_untrue, level_of-up_to}
use Rattle.cdcl_worker.proofs.Watchable.{two_in_cut, free_in_cut, free_is_not_below, high_is_not_below}
use Rattle.cdcl_worker.proofs.Noted.{last_is, thinking_kept, going_on}
use Rattle.cdcl_worker.proofs.Learnt.{known_stored}

-- only the log is another
pub record OnlyLogs (w u : WorkerView) : Type 0 where
  pub trail : u.trail ≡ w.trail
  pub store : u.store ≡ w.store
  pub order : u.order ≡ w.order
  pub choice : u.choice ≡ w.choice
  pub since : u.since ≡ w.since

-- the clauses and the orders don't see the log
pub thinking_logs : (p : Problem) (w u : WorkerView) (part : Part) → OnlyLogs w u → IsThinking p w part → IsThinking p u part
thinking_logs p w u part only thinking = record {
  vars = ap (λ (t : TrailView). t.vars) only.trail ∙ thinking.vars;
  forced = subst (λ (s : StoreView). AreForced (clauses_of p s) u.trail.entries) (sym only.store) (subst (λ (t : TrailView). AreForced (clauses_of p w.store) t.entries) (sym only.trail) thinking.forced);
  holds = subst (λ (s : StoreView). IsWithin (knows part) s.added) (sym only.store) thinking.holds;
  only = subst (λ (s : StoreView). IsWithin s.added (knows part)) (sym only.store) thinking.only;
  ordering = subst (λ (o : SolverView). IsOrdering p o) (sym only.order) thinking.ordering;
  asserted = subst (λ (o : SolverView). o.asserted ≡ take (length o.asserted) (true_lits u.trail.entries)) (sym only.order) (subst (λ (t : TrailView). w.order.asserted ≡ take (length w.order.asserted) (true_lits t.entries)) (sym only.trail) thinking.asserted);
  choice = subst (λ ls. All (IsOver p.vars) ls) (sym only.choice) thinking.choice;
}

-- the trail was undone to a level, and beside it only the orders may be others
pub record HasUndone (n : ℕ) (u y : WorkerView) : Type 0 where
  pub log : y.log ≡ u.log
  pub since : y.since ≡ u.since
  pub store : y.store ≡ u.store
  pub trail : IsUndone n u.trail y.trail
  pub thinking : (p : Problem) (part : Part) → IsThinking p u part → IsThinking p y part

-- the clause of the last entry came to the store
pub record HasKept (y z : WorkerView) : Type 0 where
  pub trail : z.trail ≡ y.trail
  pub order : z.order ≡ y.order
  pub choice : z.choice ≡ y.choice
  pub log : z.log ≡ y.log
  pub since : z.since ≡ y.since
  pub added : (clause : List Lit) × IsLast y.log.entries clause × (z.store.added ≡ y.store.added ++ clause ∷ [])
  pub watching : (p : Problem) → IsWatching p y.store y.trail → IsWatching p z.store z.trail

module _ (p : Problem) (budget : ℕ) (w u : WorkerView) (v x : View) (lemma : Lemma) (going : IsUnderWay p budget w v) (notes : Notes lemma (mine v) (mine x)) (only : OnlyLogs w u) (logging : IsLogging u.log x) where
  module _ (n : ℕ) (y : WorkerView) (un : HasUndone n u y) where
    -- the literals of the last entry are the lemma's
    pub last_lemma : (clause : List Lit) → IsLast y.log.entries clause → clause ≡ lemma.lits
    last_lemma clause last = last_is lemma (mine v) (mine x) notes u.log x clause refl logging (subst (λ (l : LogView). IsLast l.entries clause) un.log last)

    -- where the trail is still that of the problem
    pub undone_vars : y.trail.vars ≡ p.vars
    undone_vars = un.trail.vars ∙ ap (λ (t : TrailView). t.vars) only.trail ∙ going.thinking.vars

    -- what can be watched on the cut can be there
    pub last_watchable : (0 < level (up_to n w.trail.entries) → CanBeWatched (up_to n w.trail.entries) lemma.lits) → 0 < level y.trail.entries → (clause : List Lit) → IsLast y.log.entries clause → CanBeWatched y.trail.entries clause
    last_watchable can above clause last =
        let cut : y.trail.entries ≡ up_to n w.trail.entries = un.trail.entries ∙ ap (λ (t : TrailView). up_to n t.entries) only.trail in
        subst (λ es. CanBeWatched es clause) (sym cut) (subst (λ ls. CanBeWatched (up_to n w.trail.entries) ls) (sym (last_lemma clause last)) (can (subst (λ es. 0 < level es) cut above)))

    -- and its literals are over the variables
    pub last_over : ((l : Lit) → Contains lemma.lits l → IsOver p.vars l) → (clause : List Lit) → IsLast y.log.entries clause → (l : Lit) → Contains clause l → IsOver y.trail.vars l
    last_over over clause last l m = subst (λ k. IsOver k l) (sym undone_vars) (over l (subst (λ ls. Contains ls l) (last_lemma clause last) m))

    module _ (z : WorkerView) (kept : HasKept y z) (problem : x.problem ≡ v.problem) where
      -- the lemma came to the store
      added_lemma : z.store.added ≡ y.store.added ++ lemma.lits ∷ []
      added_lemma = kept.added.2 ∙ ap (λ c. y.store.added ++ c ∷ []) (last_lemma kept.added.0 kept.added.1)

      -- the search goes on
      pub going_kept : length (mine v).log < budget → lemma.lits ≢ [] → IsUnderWay p budget z x
      going_kept room some =
          let before : IsThinking p y (mine v) = un.thinking p (mine v) (thinking_logs p w u (mine v) only going.thinking) in
          let after : IsThinking p z (mine x) = thinking_kept p y z lemma (mine v) (mine x) notes before kept.trail kept.order kept.choice added_lemma in
          let now : z.log ≡ u.log = kept.log ∙ un.log in
          going_on p budget w z lemma v x notes going room some (subst (λ (l : LogView). IsLogging l x) (sym now) logging) problem (kept.since ∙ un.since ∙ only.since) after

      -- and the watches fit
      pub searching_kept : length (mine v).log < budget → lemma.lits ≢ [] → IsWatching p y.store y.trail → IsSearching p budget z x
      searching_kept room some watching = record { going = going_kept room some; watching = kept.watching p watching }

      -- the lemma is among the clauses
      pub lemma_listed : Contains (clauses_of p z.store) lemma.lits
      lemma_listed = Contains-append_right p.clauses z.store.added lemma.lits (subst (λ cs. Contains cs lemma.lits) (sym added_lemma) (Contains-append_right y.store.added (lemma.lits ∷ []) lemma.lits (contains_head lemma.lits [])))

-- ---- the watches

-- they fit the trail once it is undone
pub watching_undone : (p : Problem) (w u y : WorkerView) (n : ℕ) → IsWatching p w.store w.trail → IsWell w.trail → OnlyLogs w u → HasUndone n u y → IsWatching p y.store y.trail
watching_undone p w u y n watching well only un =
    let is : IsUndone n w.trail y.trail = subst (λ (t : TrailView). IsUndone n t y.trail) only.trail un.trail in
    subst (λ (s : StoreView). IsWatching p s y.trail) (sym (un.store ∙ only.store))
    (undone (clauses_of p w.store) p.vars w.store.links w.store.examined w.trail y.trail n watching well.taken is)

-- or where they fit below
pub watching_below : (p : Problem) (w u y : WorkerView) (n : ℕ) → WatchesBelow p w.store w.trail → n < level w.trail.entries → OnlyLogs w u → HasUndone n u y → IsWatching p y.store y.trail
watching_below p w u y n below lt only un =
    subst (λ (s : StoreView). IsWatching p s y.trail) (sym (un.store ∙ only.store))
    (below n y.trail lt (subst (λ (t : TrailView). IsUndone n t y.trail) only.trail un.trail))

-- ---- a cycle clause that is false

module _ (p : Problem) (w : WorkerView) (part : Part) (clause : List Lit) (thinking : IsThinking p w part) (fixpoint : IsFixpoint (clauses_of p w.store) (true_lits w.trail.entries)) (well : IsWell w.trail) where
  known_fixpoint : IsFixpoint (p.clauses ++ knows part) (true_lits w.trail.entries)
  known_fixpoint = fixpoint_of_same (clauses_of p w.store) (p.clauses ++ knows part) (true_lits w.trail.entries) (known_stored p w part thinking) fixpoint

  -- it is new
  pub conflict_new : AllFalse (true_lits w.trail.entries) clause → clause ≢ [] → IsNew (p.clauses ++ knows part) clause
  conflict_new wrong some = from_first clause wrong some
    where
      from_first : (ls : List Lit) → AllFalse (true_lits w.trail.entries) ls → ls ≢ [] → IsNew (p.clauses ++ knows part) ls
      from_first [] bad none = absurd (none refl)
      from_first (l ∷ ls) bad none = new_where_false (p.clauses ++ knows part) (true_lits w.trail.entries) (l ∷ ls) l known_fixpoint (contains_head l ls) (false_untrue w.trail l well (bad l (contains_head l ls))) bad

  -- and so is one with a literal that is unassigned
  pub unit_new : IsUnit (true_lits w.trail.entries) clause → IsNew (p.clauses ++ knows part) clause
  unit_new (l, has, free, others) = new_where_unit (p.clauses ++ knows part) (true_lits w.trail.entries) clause l known_fixpoint has free others

-- ---- where it can be watched

module _ (entries : List Assigned) (clause lits : List Lit) (within : IsWithin clause lits) where
  -- two literals of the level that is gone back to
  pub two_watchable : (n : ℕ) → HasTwoAt entries clause n → CanBeWatched (up_to n entries) lits
  two_watchable n two =
      let a = two.first_level in
      let b = two.second_level in
      two_in_cut n entries lits two.first two.second (within two.first two.first_listed) (within two.second two.second_listed) two.apart
      (high_is_not_below n entries two.first (omega arith)) (high_is_not_below n entries two.second (omega arith))

  -- one of it, and one of a higher level
  pub one_watchable : (n : ℕ) (l m : Lit) → Contains clause l → Contains clause m → n < level_of (var l) entries → level_of (var m) entries ≡ n → CanBeWatched (up_to n entries) lits
  one_watchable n l m has_l has_m high here =
      two_in_cut n entries lits l m (within l has_l) (within m has_m)
      (λ same. (let e = ap (λ (k : Lit). level_of (var k) entries) same in omega arith))
      (high_is_not_below n entries l (omega arith)) (high_is_not_below n entries m (omega arith))

  -- or one that is unassigned
  pub unit_watchable : (n : ℕ) (l m : Lit) → Contains clause l → Contains clause m → l ≢ m → IsUnassigned (true_lits entries) l → level_of (var m) entries ≡ n → CanBeWatched (up_to n entries) lits
  unit_watchable n l m has_l has_m apart free here =
      two_in_cut n entries lits l m (within l has_l) (within m has_m) apart
      (free_is_not_below (up_to n entries) l (free_in_cut n entries l free)) (high_is_not_below n entries m (omega arith))

-- ---- what a call that may fail tells

-- two facts of an `Ok` give a third
pub on_ok_two : {T E A B C : Type 0} (r : Result T E) → (A → B → C) → OnOk r A → OnOk r B → OnOk r C
on_ok_two (Ok x) f a b = f a b
on_ok_two (Err e) f a b = tt

-- an exchange has one problem
pub same_problem : (s t : SeatState) → exchange_of t ≡ exchange_of s → t.view.problem ≡ s.view.problem
same_problem s t same = ap (λ (e : ExchangeId). e.problem) same

-- ---- the levels of a cycle clause that is false

-- no cut at level 0 has a level
pub ground_cut : (n : ℕ) (entries : List Assigned) → n ≡ 0 → 0 < level (up_to n entries) → ⊥
ground_cut n entries ground above = let cut = level-up_to_min n entries in omega arith

module _ (t : TrailView) (clause : List Lit) (wrong : AllFalse (true_lits t.entries) clause) (top : ℕ) (greatest : (l : Lit) → Contains clause l → IsAssigned t.entries (var l) → level_of (var l) t.entries ≤ level t.entries → level_of (var l) t.entries ≤ top) where
  -- no literal is of a level above the greatest
  pub at_most_top : (l : Lit) → Contains clause l → level_of (var l) t.entries ≤ top
  at_most_top l has = greatest l has (false_assigned t.entries l (wrong l has)) (level_of-le-level (var l) t.entries)

  -- at its cut the clause is false still
  pub false_at_top : IsWell t → (lits : List Lit) → IsWithin lits clause → AllFalse (true_lits (up_to top t.entries)) lits
  false_at_top well lits within l m = false_up_to top t.entries l (once_of t well) (wrong l (within l m)) (at_most_top l (within l m))

  -- and has a literal of the cut's last level
  pub of_cut : (lits : List Lit) → IsWithin clause lits → top ≤ level t.entries → (l : Lit) → Contains clause l → level_of (var l) t.entries ≡ top → (m : Lit) × Contains lits m × (level_of (var m) (up_to top t.entries) ≡ level (up_to top t.entries))
  of_cut lits within le l has here = (l, within l has, level_of-up_to top (var l) t.entries (omega arith) ∙ here ∙ sym (level-up_to top t.entries le))

-- an unassigned literal's variable is not assigned
pub free_unassigned : (entries : List Assigned) (l : Lit) → IsUnassigned (true_lits entries) l → IsAssigned entries (var l) → ⊥
free_unassigned entries l free (m, has, same) = elim (same_or_negated m l same) [
  | inl e ↦ free.0 (subst (λ x. Contains (true_lits entries) x) e has)
  | inr e ↦ free.1 (subst (λ x. Contains (true_lits entries) x) e has)
]

-- a clause with one unassigned literal can be watched at the greatest level of the others
pub implied_watchable : (entries : List Assigned) (clause : List Lit) (n : ℕ) → IsUnit (true_lits entries) clause → (n ≡ 0) ⊎ ((m : Lit) × Contains clause m × IsAssigned entries (var m) × (level_of (var m) entries ≡ n))
    → (lits : List Lit) → IsWithin clause lits → 0 < level (up_to n entries) → CanBeWatched (up_to n entries) lits
implied_watchable entries clause n unit (inl ground) lits within above = absurd (ground_cut n entries ground above)
implied_watchable entries clause n (l, has, free, others) (inr (m, has_m, assigned, here)) lits within above =
    unit_watchable entries clause lits within n l m has has_m (λ same. free_unassigned entries l free (subst (λ (x : Lit). IsAssigned entries (var x)) (sym same) assigned)) free here

-- and one that is false, with one literal of the greatest level, at the next level
pub lower_watchable : (entries : List Assigned) (clause : List Lit) (n top : ℕ) → n < top → (top ≡ 0) ⊎ ((l : Lit) × Contains clause l × IsAssigned entries (var l) × (level_of (var l) entries ≡ top))
    → (n ≡ 0) ⊎ ((m : Lit) × Contains clause m × IsAssigned entries (var m) × (level_of (var m) entries ≡ n)) → (lits : List Lit) → IsWithin clause lits → 0 < level (up_to n entries) → CanBeWatched (up_to n entries) lits
lower_watchable entries clause n top lt (inl none) reached lits within above = absurd (omega arith)
lower_watchable entries clause n top lt (inr first) (inl ground) lits within above = absurd (ground_cut n entries ground above)
lower_watchable entries clause n top lt (inr (l, has_l, _, high)) (inr (m, has_m, _, here)) lits within above = one_watchable entries clause lits within n l m has_l has_m (omega arith) here

-- a clause with a literal of a level above 0 is not empty
pub high_some : (entries : List Assigned) (clause : List Lit) (top : ℕ) → top ≢ 0 → (top ≡ 0) ⊎ ((l : Lit) × Contains clause l × IsAssigned entries (var l) × (level_of (var l) entries ≡ top)) → clause ≢ []
high_some entries clause top high (inl ground) = absurd (high ground)
high_some entries clause top high (inr (l, has, _, _)) = some_literal clause l has
