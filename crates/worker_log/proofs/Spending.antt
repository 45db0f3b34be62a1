-- A number that used up its budget is a spent worker of the core.
use Rattle.std.proofs.Common.{◌≡◌, ◌≢◌, ℕ, zero, suc, ◌<◌, ◌≤◌, List, [], ◌∷◌, ◌++◌, map, length, take, refl, ap, sym, ◌∙◌, subst, arith, Some, slice_get}
use Rattle.std.specs.Prelude.{All, slice_index, slice_index_or}
use Rattle.std.proofs.lemmas.List.{map-append, take-append-le}
use Rattle.std.proofs.lemmas.List.Elements.{All-contains}
use Rattle.std.proofs.lemmas.Option.{slice_get_within, slice_get-get_or, get_or_from_slice_get}
use Rattle.dg_base.proofs.Lists.{get_there, get_map, contains_place}
use mathlib.Core.List.{IsPrefix}
use Rattle.cnf_problem.specs.declared.problem.Problem.{Problem}
use Rattle.cnf_problem.specs.Chains.{IsNew, ReachesConflict}
use Rattle.search_core.specs.declared.Entry.{Entry}
use Rattle.search_core.specs.Core.{Worker, State, idle, readable, lits_of}
use Rattle.search_core.specs.Spent.{IsSpent}
use Rattle.clause_exchange.specs.declared.rule.RowView.{RowView}
use Rattle.clause_exchange.specs.declared.rule.Part.{Part}
use Rattle.clause_exchange.specs.Spelling.{all_received}
use Rattle.clause_exchange.specs.Steps.{received_lits}
use Rattle.worker_log.specs.Newness.{knows, first_known, AreSeen}
use Rattle.worker_log.specs.Keeping.{HasSpent}
use Rattle.worker_log.specs.Laws.{Shows, SpentIsShown}
use Rattle.worker_log.proofs.Rows.{reading_all, seen_rest}
use Rattle.worker_log.proofs.Noting.{seen_all, heeded_all}

-- the clauses of the first entries that are shared
taken_lits : (n : ℕ) (es : List Entry) → received_lits (take n (all_received es)) ≡ lits_of (take n es)
taken_lits zero es = refl
taken_lits (suc n) [] = refl
taken_lits (suc n) (e ∷ es) = ap (λ l. e.lemma.lits ∷ l) (taken_lits n es)

first_lits : (n : ℕ) (r : RowView) (w : Worker) → n ≤ length r.known → IsPrefix r.known (all_received w.shared) → lits_of (take n w.shared) ≡ received_lits (take n r.known)
first_lits n r w few (more, e) = sym (taken_lits n w.shared) ∙ ap received_lits (ap (λ l. take n l) (sym e) ∙ take-append-le n r.known more few)

-- the clauses of what may be read in the core are those that are known
known_lits : (seen : List ℕ) (rows : List RowView) (ws : List Worker) → AreSeen rows seen → length ws ≡ length rows
    → ((j : ℕ) (r : RowView) (w : Worker) → slice_get rows j ≡ Some r → slice_get ws j ≡ Some w → IsPrefix r.known (all_received w.shared)) → lits_of (readable seen ws) ≡ received_lits (first_known seen rows)
known_lits [] rows ws s long pre = refl
known_lits (n ∷ ns) [] [] s long pre = refl
known_lits (n ∷ ns) [] (w ∷ ws) s long pre = absurd (omega arith)
known_lits (n ∷ ns) (r ∷ rows) [] s long pre = absurd (omega arith)
known_lits (n ∷ ns) (r ∷ rows) (w ∷ ws) s long pre =
    let first = first_lits n r w (s.known 0 n r refl refl) (pre 0 r w refl refl) in
    let rest = known_lits ns rows ws (seen_rest n ns r rows s) (omega arith) (λ j x y a b. pre (suc j) x y a b) in
    map-append (λ (e : Entry). e.lemma.lits) (take n w.shared) (readable ns ws)
    ∙ (ap (λ l. l ++ lits_of (readable ns ws)) first ∙ ap (λ l. received_lits (take n r.known) ++ l) rest)
    ∙ sym (map-append (λ h. h.lits) (take n r.known) (first_known ns rows))

module _ (p : Problem) (budget : ℕ) (s : State) (part : Part) (spent : HasSpent p budget part) (shows : Shows s part) where
  shared_first : (j : ℕ) (r : RowView) (w : Worker) → slice_get part.rows j ≡ Some r → slice_get s.workers j ≡ Some w → IsPrefix r.known (all_received w.shared)
  shared_first j r w a b = subst (λ (x : Worker). IsPrefix r.known (all_received x.shared)) (get_or_from_slice_get s.workers j w (idle 0) b) (shows.others j r a)

  core_lits : (seen : List ℕ) → AreSeen part.rows seen → lits_of (readable seen s.workers) ≡ received_lits (first_known seen part.rows)
  core_lits seen are = known_lits seen part.rows s.workers are shows.count shared_first

  -- the clauses of the first entries and of what might be read
  at_entry : (k : ℕ) (seen : List ℕ) → AreSeen part.rows seen → lits_of (take k part.log ++ readable seen s.workers) ≡ lits_of (take k part.log) ++ received_lits (first_known seen part.rows)
  at_entry k seen are = map-append (λ (e : Entry). e.lemma.lits) (take k part.log) (readable seen s.workers) ∙ ap (λ l. lits_of (take k part.log) ++ l) (core_lits seen are)

  kept_new : (k : ℕ) (d : Entry) → k < length part.log → IsNew (p.clauses ++ lits_of (take k part.log ++ readable (slice_index_or part.log k d).seen s.workers)) (slice_index_or part.log k d).lemma.lits
  kept_new k d lt =
      let at = slice_get-get_or part.log k d lt in
      let was = spent.new k (slice_index_or part.log k d) at in
      let some = All-contains (λ (e : Entry). e.lemma.lits ≢ []) part.log (slice_index_or part.log k d) spent.nonempty (contains_place part.log k (slice_index_or part.log k d) at) in
      subst (λ cs. IsNew (p.clauses ++ cs) (slice_index_or part.log k d).lemma.lits) (sym (at_entry k (slice_index_or part.log k d).seen was.seen)) (was.new some)

  kept_looked : (j : ℕ) → j < length s.workers → j ≢ part.number → slice_index (map (λ (r : RowView). r.log_then) part.rows) j ≡ length part.log
  kept_looked j lt apart =
      let r = get_there part.rows j (let n = shows.count in omega arith) in
      get_or_from_slice_get (map (λ (x : RowView). x.log_then) part.rows) j (r.0).log_then 0 (get_map (λ (x : RowView). x.log_then) part.rows j r.0 r.1)
      ∙ (spent.heeding j r.0 (slice_get_within part.rows j r.0 r.1) r.1).1 apart

  kept_known : lits_of (part.log ++ readable (map (λ (r : RowView). length r.known) part.rows) s.workers) ≡ knows part
  kept_known =
      map-append (λ (e : Entry). e.lemma.lits) part.log (readable (map (λ (r : RowView). length r.known) part.rows) s.workers)
      ∙ ap (λ l. lits_of part.log ++ l) (core_lits (map (λ (r : RowView). length r.known) part.rows) (seen_all part.rows) ∙ ap received_lits (reading_all part.rows (heeded_all part (length part.log) spent.heeding)))

  spent_of : IsSpent p s budget part.number
  spent_of = record {
    full = ap (λ (x : Worker). length x.log) shows.own ∙ spent.full;
    nonempty = subst (λ (x : Worker). All (λ (e : Entry). e.lemma.lits ≢ []) x.log) (sym shows.own) spent.nonempty;
    new = subst (λ (x : Worker). (k : ℕ) (d : Entry) → k < length x.log → IsNew (p.clauses ++ lits_of (take k x.log ++ readable (slice_index_or x.log k d).seen s.workers)) (slice_index_or x.log k d).lemma.lits) (sym shows.own) kept_new;
    looked = subst (λ (x : Worker). (j : ℕ) → j < length s.workers → j ≢ part.number → slice_index x.looked j ≡ length x.log) (sym shows.own) kept_looked;
    no_conflict = subst (λ (x : Worker). ¬ ReachesConflict (p.clauses ++ lits_of (x.log ++ readable x.may_read s.workers)) []) (sym shows.own)
        (subst (λ cs. ¬ ReachesConflict (p.clauses ++ cs) []) (sym kept_known) spent.no_conflict);
  }

pub spent_shown : SpentIsShown
spent_shown p budget s part spent shows = spent_of p budget s part spent shows
