-- The logs of workers that have ended, put together.
use Rattle.std.proofs.Common.{◌≡◌, ℕ, suc, ◌<◌, ◌≤◌, ◌⊎◌, inl, inr, List, [], ◌∷◌, ◌++◌, map, length, sum_by, refl, ap, sym, ◌∙◌, subst, arith}
use Rattle.std.specs.Prelude.{slice_get, Option, Some, All, ◌^◌}
use Rattle.std.proofs.lemmas.List.{get_or_past, length-map}
use Rattle.std.proofs.lemmas.List.Sums.{sum_by-cons}
use Rattle.std.proofs.lemmas.Option.{slice_get_within, get_or_from_slice_get}
use Rattle.dg_base.proofs.Lists.{get_nothing, one_answer, get_there, get_map, get_from_map, place_of, contains_place}
use Rattle.dg_base.specs.declared.Lit.{Lit}
use Rattle.cnf_problem.specs.declared.problem.Lemma.{Lemma}
use Rattle.cnf_problem.specs.declared.problem.Problem.{Problem}
use Rattle.cnf_problem.specs.Problems.{Follows, FollowInTurn, FollowsBy}
use Rattle.cnf_problem.specs.Literals.{IsOver}
use Rattle.lemma_log.specs.declared.Entry as Logged
use Rattle.lemma_log.specs.Merging.{IsLogged, AreOnce, IsMerged}
use Rattle.search_core.specs.declared.Entry.{Entry}
use Rattle.search_core.specs.declared.Verdict.{Verdict}
use Rattle.search_core.specs.declared.Verdict.TheVariants.{Safe}
use Rattle.search_core.specs.Core.{Worker, State, idle, worker}
use Rattle.search_core.specs.CoreLaws.{IsEntry, IsSound}
use Rattle.search_core.proofs.Laws.{sound_after_events}
use Rattle.clause_exchange.specs.declared.rule.Part.{Part}
use Rattle.clause_exchange.specs.declared.rule.View.{View}
use Rattle.clause_exchange.specs.Rule.{worker_of}
use Rattle.clause_exchange.specs.Closing.{HasEntry}
use Rattle.worker_log.specs.Logs.{IsEntryOf}
use Rattle.verdict_run.specs.declared.jobs.Ended.{Ended}
use Rattle.verdict_run.specs.Decisions.{IsGood, AreOf, IsOf, IsLogOfState}
use Rattle.verdict_run.specs.Searches.{HasEnded, IsSearch, HasEmpty, logs_of}

-- ---- lists

-- lists whose elements have the same measures have the same sum
pub sum_same : {A B : Type 0} (f : A → ℕ) (g : B → ℕ) (xs : List A) (ys : List B) → length xs ≡ length ys → ((k : ℕ) (x : A) (y : B) → slice_get xs k ≡ Some x → slice_get ys k ≡ Some y → f x ≡ g y) → sum_by f xs ≡ sum_by g ys
sum_same f g [] [] long same = refl
sum_same f g [] (y ∷ ys) long same = absurd (omega (arith, long))
sum_same f g (x ∷ xs) [] long same = absurd (omega (arith, long))
sum_same f g (x ∷ xs) (y ∷ ys) long same =
    let tail = sum_same f g xs ys (omega (arith, long)) (λ k a b at_a at_b. same (suc k) a b at_a at_b) in
    let head = same 0 x y refl refl in
    omega (arith, sum_by-cons f x xs, sum_by-cons g y ys, tail, head)

-- ---- lemmas that follow in turn

-- the same kind and literals
pub record AreAlike (a b : Lemma) : Type 0 where
  pub kind : a.kind ≡ b.kind
  pub lits : a.lits ≡ b.lits

follow_alike : (p : Problem) (clauses : List (List Lit)) (a b : Lemma) → AreAlike a b → Follows p clauses a → Follows p clauses b
follow_alike p clauses a b alike follows = record {
  variables = subst (λ lits. All (IsOver p.vars) lits) alike.lits follows.variables;
  cause = subst (λ kind. FollowsBy kind p clauses b.lits) alike.kind (subst (λ lits. FollowsBy a.kind p clauses lits) alike.lits follows.cause);
}

-- lemmas alike follow in turn too
pub follow_same : (p : Problem) (clauses : List (List Lit)) (xs ys : List Lemma) → length xs ≡ length ys → ((k : ℕ) (x y : Lemma) → slice_get xs k ≡ Some x → slice_get ys k ≡ Some y → AreAlike x y) → FollowInTurn p clauses xs → FollowInTurn p clauses ys
follow_same p clauses [] [] long alike follow = tt
follow_same p clauses [] (y ∷ ys) long alike follow = absurd (omega (arith, long))
follow_same p clauses (x ∷ xs) [] long alike follow = absurd (omega (arith, long))
follow_same p clauses (x ∷ xs) (y ∷ ys) long alike follow =
    let head = alike 0 x y refl refl in (
      follow_alike p clauses x y head follow.0,
      follow_same p (clauses ++ y.lits ∷ []) xs ys (omega (arith, long)) (λ k a b at_a at_b. alike (suc k) a b at_a at_b) (subst (λ lits. FollowInTurn p (clauses ++ lits ∷ []) xs) head.lits follow.1),
    )

-- ---- the logs

module _ (p : Problem) (n budget : ℕ) (v : View) (next : ℕ) (verdict : Option Verdict) (ends : List Ended) (h : HasEnded p n budget v next verdict ends) where
  -- what is kept of worker k, and how it ended
  pub record IsBoth (k : ℕ) : Type 0 where
    pub part : Part
    pub ended : Ended
    pub is_part : slice_get v.parts k ≡ Some part
    pub is_ended : slice_get ends k ≡ Some ended
    pub number : part.number ≡ k
    pub search : IsSearch p budget part ended

  pub both : (k : ℕ) → k < n → IsBoth k
  both k lt =
      let part = get_there v.parts k (subst (λ m. k < m) (sym h.parts) lt) in
      let ended = get_there ends k (subst (λ m. k < m) (sym h.long) lt) in
      record { part = part.0; ended = ended.0; is_part = part.1; is_ended = ended.1; number = h.numbers k part.0 part.1; search = h.searches k part.0 ended.0 part.1 ended.1 }

  -- the entry that the exchange keeps for one of a worker's log
  pub record IsKeptEntry (i k : ℕ) (a : Logged.Entry) : Type 0 where
    pub part : Part
    pub entry : Entry
    pub within : i < n
    pub is_part : slice_get v.parts i ≡ Some part
    pub number : part.number ≡ i
    pub has : HasEntry v part k entry
    pub same : IsEntryOf part.number a entry

  pub kept_of : (i k : ℕ) (a : Logged.Entry) → IsLogged (logs_of ends) i k a → IsKeptEntry i k a
  kept_of i k a is =
      let ended = get_from_map (λ (e : Ended). e.worker.log.entries) ends i is.0 is.1 in
      let lt : i < n = subst (λ m. i < m) h.long (slice_get_within ends i ended.0 ended.1) in
      let b = both i lt in
      let same : ended.0 ≡ b.ended = one_answer (slice_get ends i) ended.0 b.ended ended.1 b.is_ended in
      let log : is.0 ≡ b.ended.worker.log.entries = sym ended.2 ∙ ap (λ (e : Ended). e.worker.log.entries) same in
      let at : slice_get b.ended.worker.log.entries k ≡ Some a = subst (λ l. slice_get l k ≡ Some a) log is.2 in
      let entry = get_there b.part.log k (subst (λ m. k < m) b.search.log.long (slice_get_within b.ended.worker.log.entries k a at)) in
      record {
        part = b.part;
        entry = entry.0;
        within = lt;
        is_part = b.is_part;
        number = b.number;
        has = (contains_place v.parts i b.part b.is_part, entry.1);
        same = b.search.log.each k a entry.0 at entry.1;
      }

  -- and the other way
  pub logged_of : (part : Part) (k : ℕ) (e : Entry) → HasEntry v part k e → (a : Logged.Entry) × IsLogged (logs_of ends) part.number k a × IsEntryOf part.number a e
  logged_of part k e has =
      let place = place_of v.parts part has.0 in
      let lt : place.0 < n = subst (λ m. place.0 < m) h.parts (slice_get_within v.parts place.0 part place.1) in
      let b = both place.0 lt in
      let same : b.part ≡ part = one_answer (slice_get v.parts place.0) b.part part b.is_part place.1 in
      let search : IsSearch p budget part b.ended = subst (λ (q : Part). IsSearch p budget q b.ended) same b.search in
      let number : place.0 ≡ part.number = sym (h.numbers place.0 part place.1) in
      let a = get_there b.ended.worker.log.entries k (subst (λ m. k < m) (sym search.log.long) (slice_get_within part.log k e has.1)) in
      (a.0, (b.ended.worker.log.entries, subst (λ m. slice_get (logs_of ends) m ≡ Some b.ended.worker.log.entries) number (get_map (λ (x : Ended). x.worker.log.entries) ends place.0 b.ended b.is_ended), a.1), search.log.each k a.0 e a.1 has.1)

  pub core : State
  core = h.state.core

  pub sound : IsSound p h.state.core
  sound = subst (λ q. IsSound q h.state.core) h.problem (sound_after_events v.problem v.workers h.state.core h.state.reached)

  -- the worker of the core is the one that is kept
  pub worker_is : (k : ℕ) (part : Part) → slice_get v.parts k ≡ Some part → worker h.state.core k ≡ worker_of part
  worker_is k part at = subst (λ m. worker h.state.core m ≡ worker_of part) (h.numbers k part at) (h.state.shown part (contains_place v.parts k part at)).1

  -- the entries of the core are those that are kept
  pub entry_of : (i k : ℕ) (e : Entry) → IsEntry h.state.core i k e → (b : IsBoth i) × HasEntry v b.part k e
  entry_of i k e at = elim (near i n) [
    | inl lt ↦
        let b = both i lt in
        (b, (contains_place v.parts i b.part b.is_part, subst (λ (w : Worker). slice_get w.log k ≡ Some e) (worker_is i b.part b.is_part) at))
    | inr past ↦
        let long : length h.state.core.workers ≤ i = subst (λ m. m ≤ i) (sym (h.state.count ∙ h.workers_are)) past in
        absurd (get_nothing k e (subst (λ (w : Worker). slice_get w.log k ≡ Some e) (get_or_past h.state.core.workers i (idle 0) long) at))
  ]
    where
      near : (a b : ℕ) → (a < b) ⊎ (b ≤ a)
      near a b = grind arith

  pub total : sum_by length (logs_of ends) ≡ next
  total =
      sum_same length (λ (w : Worker). length w.log) (logs_of ends) h.state.core.workers (length-map ends (λ (e : Ended). e.worker.log.entries) ∙ h.long ∙ sym (h.state.count ∙ h.workers_are)) (λ k log w at_log at_w.
      let ended = get_from_map (λ (e : Ended). e.worker.log.entries) ends k log at_log in
      let b = both k (subst (λ m. k < m) h.long (slice_get_within ends k ended.0 ended.1)) in
      let same : ended.0 ≡ b.ended = one_answer (slice_get ends k) ended.0 b.ended ended.1 b.is_ended in
      let w_is : w ≡ worker_of b.part = sym (get_or_from_slice_get h.state.core.workers k w (idle 0) at_w) ∙ worker_is k b.part b.is_part in
      ap length (sym ended.2 ∙ ap (λ (e : Ended). e.worker.log.entries) same) ∙ b.search.log.long ∙ ap (λ (x : Worker). length x.log) (sym w_is))
      ∙ sound.total ∙ h.state.ticket

  -- each ticket is in one log, once
  pub once : AreOnce (logs_of ends)
  once = record {
    few = subst (λ m. m < 2 ^ 32) (sym total) h.few;
    below = λ i k a is. let e = kept_of i k a is in subst (λ m. a.ticket < m) (sym total) (subst (λ m. m < next) (sym e.same.ticket) (h.tickets.below e.part k e.entry e.has));
    found = λ t lt.
        let e = h.tickets.found t (subst (λ m. t < m) total lt) in
        let a = logged_of e.0 e.1 e.2 e.3 in
        (e.0.number, e.1, a.0, a.1, a.2.ticket ∙ e.4);
    once = λ i j k m d e is_d is_e t.
        let x = kept_of i k d is_d in
        let y = kept_of j m e is_e in
        let same = h.tickets.once x.part y.part k m x.entry y.entry x.has y.has (sym x.same.ticket ∙ t ∙ y.same.ticket) in
        (sym x.number ∙ ap (λ (q : Part). q.number) same.0 ∙ y.number, same.1);
  }

  module _ (merged : List Logged.Entry) (is : IsMerged (logs_of ends) merged) where
    -- the entry of the merged log that a worker's became
    pub became : (part : Part) (k : ℕ) (e : Entry) → HasEntry v part k e → (f : Logged.Entry) × (slice_get merged e.ticket ≡ Some f) × IsOf part.number e f
    became part k e has =
        let a = logged_of part k e has in
        let f = is.each part.number k a.0 a.1 in (
          f.0,
          subst (λ t. slice_get merged t ≡ Some f.0) a.2.ticket f.1,
          record { ticket = f.2.ticket ∙ a.2.ticket; worker = f.2.worker ∙ a.2.worker; kind = f.2.kind ∙ ap (λ (l : Lemma). l.kind) a.2.lemma_is; lits = f.2.lits ∙ ap (λ (l : Lemma). l.lits) a.2.lemma_is },
        )

    pub long : length merged ≡ next
    long = is.all ∙ total

    pub log_of_state : IsLogOfState h.state.core merged
    log_of_state = record {
      all = long ∙ sym h.state.ticket;
      each = λ i k kept at.
          let b = entry_of i k kept at in
          let f = became b.0.part k kept b.1 in
          (f.0, f.1, subst (λ m. IsOf m kept f.0) b.0.number f.2);
    }

    pub are_of : AreOf n merged
    are_of k e at =
        let t = h.tickets.found k (subst (λ m. k < m) long (slice_get_within merged k e at)) in
        let f = became t.0 t.1 t.2 t.3 in
        let same : e ≡ f.0 = one_answer (slice_get merged k) e f.0 at (subst (λ m. slice_get merged m ≡ Some f.0) t.4 f.1) in
        let place = place_of v.parts t.0 t.3.0 in
        subst (λ m. m < n) (sym (h.numbers place.0 t.0 place.1) ∙ sym f.2.worker ∙ ap (λ (x : Logged.Entry). x.worker) (sym same)) (subst (λ m. place.0 < m) h.parts (slice_get_within v.parts place.0 t.0 place.1))

    pub good : IsGood p merged
    good =
        let kept = sound.merged.0 in
        follow_same p [] (map (λ (e : Entry). e.lemma) kept.0) (map (λ (e : Logged.Entry). e.lemma) merged)
        (length-map kept.0 (λ (e : Entry). e.lemma) ∙ kept.1.all ∙ h.state.ticket ∙ sym long ∙ sym (length-map merged (λ (e : Logged.Entry). e.lemma)))
        (λ k x y at_x at_y.
        let e = get_from_map (λ (e : Entry). e.lemma) kept.0 k x at_x in
        let a = get_from_map (λ (e : Logged.Entry). e.lemma) merged k y at_y in
        let place = kept.1.each k e.0 e.1 in
        let b = entry_of place.1.0 place.1.1 e.0 place.1.2 in
        let f = became b.0.part place.1.1 e.0 b.1 in
        let same : f.0 ≡ a.0 = one_answer (slice_get merged k) f.0 a.0 (subst (λ m. slice_get merged m ≡ Some f.0) place.0 f.1) a.1 in
        record {
          kind = ap (λ (l : Lemma). l.kind) (sym e.2) ∙ sym f.2.kind ∙ ap (λ (z : Logged.Entry). z.lemma.kind) same ∙ ap (λ (l : Lemma). l.kind) a.2;
          lits = ap (λ (l : Lemma). l.lits) (sym e.2) ∙ sym f.2.lits ∙ ap (λ (z : Logged.Entry). z.lemma.lits) same ∙ ap (λ (l : Lemma). l.lits) a.2;
        })
        (sound.merged.1 kept.0 kept.1)

    -- where Safe stands the empty clause is there
    pub has_empty : verdict ≡ Some Safe → HasEmpty merged
    has_empty stands =
        let e = h.safe stands in
        let f = became e.0 e.1 e.2 e.3 in
        (e.2.ticket, f.0, f.1, f.2.lits ∙ e.4)
