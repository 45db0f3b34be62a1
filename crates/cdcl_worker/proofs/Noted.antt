-- What a search keeps where a lemma is noted and then kept among the clauses.
use Rattle.std.proofs.Common.{◌≡◌, ◌≢◌, ℕ, ◌+◌, ◌-◌, ◌<◌, ◌≤◌, ◌⊎◌, inl, inr, List, [], ◌∷◌, ◌++◌, length, take, refl, ap, sym, ◌∙◌, subst, arith, Some, slice_get}
use Rattle.std.specs.Prelude.{Contains, All}
use Rattle.std.proofs.lemmas.List.{length-append, append_assoc, map-append}
use Rattle.std.proofs.lemmas.List.Elements.{All-append, All-nil, All-cons, Contains-append_left, Contains-append_right, Contains-append_cases}
use Rattle.dg_base.proofs.Lists.{contains_head, contains_nothing, contains_cases, get_there, get_push_last, one_answer}
use Rattle.dg_base.specs.declared.Lit.{Lit}
use Rattle.cnf_problem.specs.declared.problem.Lemma.{Lemma}
use Rattle.cnf_problem.specs.declared.problem.Problem.{Problem}
use Rattle.cnf_problem.specs.Literals.{IsOver}
use Rattle.cnf_problem.specs.Laws.{IsWithin}
use Rattle.search_core.specs.declared.Entry.{Entry}
use Rattle.search_core.specs.declared.Verdict.{Verdict}
use Rattle.search_core.specs.declared.Verdict.TheVariants.{Safe}
use Rattle.search_core.specs.Core.{lits_of}
use Rattle.lemma_log.specs.declared.Entry as Logged
use Rattle.trail_state.specs.Trails.{Assigned, TrailView, true_lits}
use Rattle.trail_state.specs.Forcing.{AreForced}
use Rattle.clause_store.specs.Stores.{clauses_of}
use Rattle.order_solver.specs.Ordering.{SolverView, IsOrdering}
use Rattle.clause_exchange.specs.declared.rule.RowView.{RowView}
use Rattle.clause_exchange.specs.declared.rule.Part.{Part}
use Rattle.clause_exchange.specs.declared.rule.View.{View}
use Rattle.clause_exchange.specs.Steps.{mine, reading, received_lits, with_part, offering}
use Rattle.worker_log.specs.Newness.{knows}
use Rattle.worker_log.specs.Logs.{LogView, IsLogOf}
use Rattle.worker_log.specs.Keeping.{IsLogging, IsHeeding, HasHeeded, Notes}
use Rattle.worker_log.proofs.Noting.{logging_offering}
use Rattle.cdcl_worker.specs.Outcomes.{WorkerView}
use Rattle.cdcl_worker.specs.Searching.{IsThinking, IsLast, IsUnderWay, IsLeft, IsSilent}
use Rattle.cdcl_worker.proofs.Reasons.{forced_more}

-- ---- what a number knows

module _ (lemma : Lemma) (before after : Part) (notes : Notes lemma before after) where
  -- the clauses of the log are one more
  logged_more : lits_of after.log ≡ lits_of before.log ++ lemma.lits ∷ []
  logged_more =
      ap lits_of notes.log
      ∙ (map-append (λ (e : Entry). e.lemma.lits) before.log (notes.entry ∷ []) ∙ ap (λ (m : Lemma). lits_of before.log ++ m.lits ∷ []) notes.lemma_is)

  read_same : received_lits (reading after.rows) ≡ received_lits (reading before.rows)
  read_same = ap (λ (rows : List RowView). received_lits (reading rows)) notes.rows

  -- what the number knows is that, and the reading
  knows_is : knows after ≡ (lits_of before.log ++ lemma.lits ∷ []) ++ received_lits (reading before.rows)
  knows_is = ap (λ cs. cs ++ received_lits (reading after.rows)) logged_more ∙ ap (λ cs. (lits_of before.log ++ lemma.lits ∷ []) ++ cs) read_same

  -- what it knew it knows
  pub knows_still : IsWithin (knows before) (knows after)
  knows_still c m = subst (λ cs. Contains cs c) (sym knows_is) (elim (Contains-append_cases (lits_of before.log) (received_lits (reading before.rows)) c m) [
    | inl k ↦ Contains-append_left (lits_of before.log ++ lemma.lits ∷ []) (received_lits (reading before.rows)) c (Contains-append_left (lits_of before.log) (lemma.lits ∷ []) c k)
    | inr k ↦ Contains-append_right (lits_of before.log ++ lemma.lits ∷ []) (received_lits (reading before.rows)) c k
  ])

  -- and the lemma
  pub knows_lemma : Contains (knows after) lemma.lits
  knows_lemma = subst (λ cs. Contains cs lemma.lits) (sym knows_is)
      (Contains-append_left (lits_of before.log ++ lemma.lits ∷ []) (received_lits (reading before.rows)) lemma.lits
      (Contains-append_right (lits_of before.log) (lemma.lits ∷ []) lemma.lits (contains_head lemma.lits [])))

  -- which is in its log
  pub log_lemma : Contains (lits_of after.log) lemma.lits
  log_lemma = subst (λ cs. Contains cs lemma.lits) (sym logged_more) (Contains-append_right (lits_of before.log) (lemma.lits ∷ []) lemma.lits (contains_head lemma.lits []))

  -- and no more
  pub knows_only : (c : List Lit) → Contains (knows after) c → Contains (knows before) c ⊎ (c ≡ lemma.lits)
  knows_only c m = elim (Contains-append_cases (lits_of before.log ++ lemma.lits ∷ []) (received_lits (reading before.rows)) c (subst (λ cs. Contains cs c) knows_is m)) [
    | inl k ↦ elim (Contains-append_cases (lits_of before.log) (lemma.lits ∷ []) c k) [
      | inl n ↦ inl (Contains-append_left (lits_of before.log) (received_lits (reading before.rows)) c n)
      | inr n ↦ elim (contains_cases lemma.lits c [] n) [ inl same ↦ inr same | inr none ↦ absurd (contains_nothing c none) ]
    ]
    | inr k ↦ inl (Contains-append_right (lits_of before.log) (received_lits (reading before.rows)) c k)
  ]

  -- the log is one longer
  pub log_longer : length after.log ≡ length before.log + 1
  log_longer = ap length notes.log ∙ length-append before.log (notes.entry ∷ [])

  -- all rows were heeded still
  pub heeding_still : (since : ℕ) → IsHeeding before since → IsHeeding after since
  heeding_still since heeding j r lt at =
      let h = heeding j r (subst (λ (rows : List RowView). j < length rows) notes.rows lt) (subst (λ (rows : List RowView). slice_get rows j ≡ Some r) notes.rows at) in
      (h.0, λ apart. h.1 (subst (λ n. j ≢ n) notes.number apart))

  -- no lemma is empty
  pub nonempty_still : lemma.lits ≢ [] → All (λ (e : Entry). e.lemma.lits ≢ []) before.log → All (λ (e : Entry). e.lemma.lits ≢ []) after.log
  nonempty_still some all = subst (λ es. All (λ (e : Entry). e.lemma.lits ≢ []) es) (sym notes.log)
      (All-append (λ (e : Entry). e.lemma.lits ≢ []) before.log (notes.entry ∷ []) all
      (All-cons (λ (e : Entry). e.lemma.lits ≢ []) notes.entry [] (subst (λ (m : Lemma). m.lits ≢ []) (sym notes.lemma_is) some) (All-nil (λ (e : Entry). e.lemma.lits ≢ []))))

  -- the last entry of the log is the lemma
  pub last_is : (w : LogView) (v : View) (lits : List Lit) → mine v ≡ after → IsLogging w v → IsLast w.entries lits → lits ≡ lemma.lits
  last_is w v lits is logging (e, at, lits_are) =
      let long = logging.booked.log.long in
      let one = log_longer in
      let same = ap (λ (q : Part). length q.log) is in
      let place : length w.entries - 1 ≡ length before.log = omega arith in
      let here : slice_get (mine v).log (length w.entries - 1) ≡ Some notes.entry =
      subst (λ (q : Part). slice_get q.log (length w.entries - 1) ≡ Some notes.entry) (sym is)
      (subst (λ es. slice_get es (length w.entries - 1) ≡ Some notes.entry) (sym notes.log)
      (subst (λ n. slice_get (before.log ++ notes.entry ∷ []) n ≡ Some notes.entry) (sym place) (get_push_last before.log notes.entry))) in
      let kept = logging.booked.log.each (length w.entries - 1) e notes.entry at here in
      lits_are ∙ ap (λ (m : Lemma). m.lits) (kept.lemma_is ∙ notes.lemma_is)

  -- and there is one
  pub some_entry : (w : LogView) (v : View) → mine v ≡ after → IsLogging w v → 0 < length w.entries
  some_entry w v is logging =
      let long = logging.booked.log.long in
      let one = log_longer in
      let same = ap (λ (q : Part). length q.log) is in
      omega arith

-- ---- the clauses

-- the clauses with one more
clauses_more : (p : Problem) (added : List (List Lit)) (clause : List Lit) → p.clauses ++ (added ++ clause ∷ []) ≡ (p.clauses ++ added) ++ clause ∷ []
clauses_more p added clause = sym (append_assoc p.clauses added (clause ∷ []))

-- the reasons force what they forced where the store has one clause more
pub forced_kept : (p : Problem) (added : List (List Lit)) (clause : List Lit) (entries : List Assigned) → AreForced (p.clauses ++ added) entries → AreForced (p.clauses ++ (added ++ clause ∷ [])) entries
forced_kept p added clause entries forced = subst (λ cs. AreForced cs entries) (sym (clauses_more p added clause)) (forced_more (p.clauses ++ added) (clause ∷ []) entries forced)

-- the clauses of the store are what the number knows, once the lemma that it noted is kept
pub thinking_kept : (p : Problem) (w u : WorkerView) (lemma : Lemma) (before after : Part) → Notes lemma before after → IsThinking p w before
    → u.trail ≡ w.trail → u.order ≡ w.order → u.choice ≡ w.choice → u.store.added ≡ w.store.added ++ lemma.lits ∷ [] → IsThinking p u after
thinking_kept p w u lemma before after notes thinking trail order choice added = record {
  vars = ap (λ (t : TrailView). t.vars) trail ∙ thinking.vars;
  forced =
      subst (λ cs. AreForced (p.clauses ++ cs) u.trail.entries) (sym added)
      (subst (λ (t : TrailView). AreForced (p.clauses ++ (w.store.added ++ lemma.lits ∷ [])) t.entries) (sym trail)
      (forced_kept p w.store.added lemma.lits w.trail.entries thinking.forced));
  holds = λ c m. subst (λ cs. Contains cs c) (sym added) (elim (knows_only lemma before after notes c m) [
    | inl k ↦ Contains-append_left w.store.added (lemma.lits ∷ []) c (thinking.holds c k)
    | inr same ↦ Contains-append_right w.store.added (lemma.lits ∷ []) c (subst (λ x. Contains (lemma.lits ∷ []) x) (sym same) (contains_head lemma.lits []))
  ]);
  only = λ c m. elim (Contains-append_cases w.store.added (lemma.lits ∷ []) c (subst (λ cs. Contains cs c) added m)) [
    | inl k ↦ knows_still lemma before after notes c (thinking.only c k)
    | inr k ↦ elim (contains_cases lemma.lits c [] k) [
      | inl same ↦ subst (λ x. Contains (knows after) x) (sym same) (knows_lemma lemma before after notes)
      | inr none ↦ absurd (contains_nothing c none)
    ]
  ];
  ordering = subst (λ (o : SolverView). IsOrdering p o) (sym order) thinking.ordering;
  asserted = subst (λ (o : SolverView). o.asserted ≡ take (length o.asserted) (true_lits u.trail.entries)) (sym order) (subst (λ (t : TrailView). w.order.asserted ≡ take (length w.order.asserted) (true_lits t.entries)) (sym trail) thinking.asserted);
  choice = subst (λ ls. All (IsOver p.vars) ls) (sym choice) thinking.choice;
}

-- the search goes on, where the lemma is not empty and there was room
pub going_on : (p : Problem) (budget : ℕ) (w u : WorkerView) (lemma : Lemma) (v x : View) → Notes lemma (mine v) (mine x) → IsUnderWay p budget w v → length (mine v).log < budget
    → lemma.lits ≢ [] → IsLogging u.log x → x.problem ≡ v.problem → u.since ≡ w.since → IsThinking p u (mine x) → IsUnderWay p budget u x
going_on p budget w u lemma v x notes going room some logging problem since thinking = record {
  logging = logging;
  problem = problem ∙ going.problem;
  heeding = subst (λ n. IsHeeding (mine x) n) (sym since) (heeding_still lemma (mine v) (mine x) notes w.since going.heeding);
  within = (let one = log_longer lemma (mine v) (mine x) notes in omega arith);
  few = going.few;
  nonempty = nonempty_still lemma (mine v) (mine x) notes some going.nonempty;
  silent = notes.offers ∙ going.silent;
  thinking = thinking;
}

-- ---- what a return leaves

-- a lemma that was noted
pub left_noted : (lemma : Lemma) (w : WorkerView) (before : Part) (v : View) → IsLogging w.log v → Notes lemma before (mine v) → IsLeft before w v
left_noted lemma w before v logging notes = record { logging = logging; number = notes.number; loads = (let same = notes.loads in omega arith) }

-- or none
pub silent_noted : (w : WorkerView) (lemma : Lemma) (v x : View) → IsLogging w.log x → Notes lemma (mine v) (mine x) → (mine v).offers ≡ [] → IsSilent (mine v) w x
silent_noted w lemma v x logging notes silent = record { left = left_noted lemma w (mine v) x logging notes; offers = notes.offers ∙ silent }

pub silent_same : (w : WorkerView) (v x : View) → IsLogging w.log x → x ≡ v → (mine v).offers ≡ [] → IsSilent (mine v) w x
silent_same w v x logging same silent = record {
  left = record { logging = logging; number = ap (λ (y : View). (mine y).number) same; loads = (let e = ap (λ (y : View). (mine y).loads) same in omega arith) };
  offers = ap (λ (y : View). (mine y).offers) same ∙ silent;
}

-- one return after another
pub left_then : (before : Part) (w u : WorkerView) (v x : View) → IsLeft before w v → IsLeft (mine v) u x → IsLeft before u x
left_then before w u v x first then = record {
  logging = then.logging;
  number = then.number ∙ first.number;
  loads = (let a = first.loads in let b = then.loads in omega arith);
}

pub silent_then : (before : Part) (w u : WorkerView) (v x : View) → IsLeft before w v → IsSilent (mine v) u x → IsSilent before u x
silent_then before w u v x first then = record { left = left_then before w u v x first then.left; offers = then.offers }

-- the worker's other parts don't count
pub silent_by : (before : Part) (w u : WorkerView) (v : View) → u.log ≡ w.log → IsSilent before w v → IsSilent before u v
silent_by before w u v same silent = record {
  left = record { logging = subst (λ (l : LogView). IsLogging l v) (sym same) silent.left.logging; number = silent.left.number; loads = silent.left.loads };
  offers = silent.offers;
}

-- an offer
pub left_offered : (before : Part) (w : WorkerView) (v x : View) (verdict stands : Verdict) → IsLeft before w v → x ≡ with_part v (offering (mine v) verdict (Some stands)) → IsLeft before w x
left_offered before w v x verdict stands left is = subst (λ y. IsLeft before w y) (sym is) (record {
  logging = logging_offering w.log v left.logging verdict (Some stands);
  number = left.number;
  loads = left.loads;
})

-- after the empty clause was noted and Safe offered
pub offered_empty : (lemma : Lemma) (before : Part) (v x : View) (stands : Verdict) → Notes lemma before (mine v) → lemma.lits ≡ [] → before.offers ≡ [] → x ≡ with_part v (offering (mine v) Safe (Some stands))
    → Contains (lits_of (mine x).log) [] × ((mine x).offers ≡ Safe ∷ [])
offered_empty lemma before v x stands notes none silent is =
    subst (λ y. Contains (lits_of (mine y).log) [] × ((mine y).offers ≡ Safe ∷ [])) (sym is) (
      subst (λ ls. Contains (lits_of (mine v).log) ls) none (log_lemma lemma before (mine v) notes),
      ap (λ vs. vs ++ Safe ∷ []) (notes.offers ∙ silent),
    )
