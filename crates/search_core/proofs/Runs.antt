-- Each event keeps what holds, and so it holds after any list of events.
use Rattle.std.proofs.Common.{◌≡◌, ℕ, ◌*◌, ◌<◌, ◌≤◌, inl, inr, List, [], ◌∷◌, length, get_or, set, replicate, slice_get, Option, Some, None, refl, ap, sym, ◌∙◌, subst, arith}
use Rattle.std.specs.Prelude.{Contains, slice_index, sum_by}
use Rattle.std.proofs.lemmas.List.Sums.{sum_by-set}
use Rattle.std.proofs.lemmas.List.Folds.{sum_by-replicate}
use Rattle.std.proofs.lemmas.Bool.{cases_eq, cases_lt}
use Rattle.std.proofs.lemmas.List.{length-replicate, get_or-replicate, get_or_past, get_or-set_same, get_or-set_other, set_past, length_push}
use Rattle.std.proofs.lemmas.List.Elements.{Contains-push_cases, Contains-append_left}
use Rattle.dg_base.proofs.Lists.{get_nothing, contains_nothing, contains_from_map}
use Rattle.cnf_problem.specs.declared.problem.Lemma.{Lemma}
use Rattle.cnf_problem.specs.declared.problem.Problem.{Problem}
use Rattle.search_core.specs.declared.Verdict.{Verdict}
use Rattle.search_core.specs.declared.Verdict.TheVariants.{Safe, Unsafe}
use Rattle.search_core.specs.declared.Entry.{Entry}
use Rattle.search_core.specs.Core.{Worker, State, Event, Append, Share, Read, Offer, idle, start, worker, known, MayHappen, with_worker, first_of, appended, has_shared, has_read, after, run, AllMayHappen, IsReached}
use Rattle.search_core.specs.CoreLaws.{IsEntry}
use Rattle.search_core.proofs.Places.{after_set}
use Rattle.search_core.proofs.Kept.{Stands, Kept, SameLogs, entry_forth, logs_along, stands_along, known_entry, entry_stays, logs_append}

-- a worker that keeps its log
pub same_logs : (s : State) (i : ℕ) (w : Worker) → i < length s.workers → w.log ≡ (worker s i).log → SameLogs s (with_worker s i w)
same_logs s i w inside e j =
    elim (after_set s.workers i w j (idle 0) inside) [
      | inl r ↦ ap (λ (v : Worker). v.log) r.1 ∙ e ∙ ap (λ n. (worker s n).log) (sym r.0)
      | inr r ↦ ap (λ (v : Worker). v.log) r.1
    ]

-- the total of such logs
pub same_total : (s : State) (i : ℕ) (w : Worker) → i < length s.workers → w.log ≡ (worker s i).log → sum_by (λ (x : Worker). length x.log) (set s.workers i w) ≡ sum_by (λ (x : Worker). length x.log) s.workers
same_total s i w inside e = let a = sum_by-set (λ (x : Worker). length x.log) s.workers i w (idle 0) inside in let b = ap length e in omega arith

-- an append
pub kept_append : (p : Problem) (s : State) (i : ℕ) (lemma : Lemma) → Kept p s → MayHappen p s (Append i lemma) → Kept p (after s (Append i lemma))
kept_append p s i lemma kept (inside, follows, looked) = record {
  logs = logs_append p s i lemma inside kept follows;
  shares = record { owned = own; read = reads };
  verdict = stands_along p s (after s (Append i lemma)) s.verdict (entry_stays p s i lemma inside) kept.verdict;
}
  where
    w : Worker
    w = appended (worker s i) s.next lemma

    own : (j : ℕ) (e : Entry) → Contains (worker (after s (Append i lemma)) j).shared e → Contains (worker (after s (Append i lemma)) j).log e
    own j e h =
        elim (after_set s.workers i (appended (worker s i) s.next lemma) j (idle 0) inside) [
          | inl r ↦ subst (λ (v : Worker). Contains v.log e) (sym r.1) (Contains-append_left (worker s i).log (record { ticket = s.next; lemma = lemma; seen = (worker s i).may_read } ∷ []) e (kept.shares.owned i e (subst (λ (v : Worker). Contains v.shared e) r.1 h)))
          | inr r ↦ subst (λ (v : Worker). Contains v.log e) (sym r.1) (kept.shares.owned j e (subst (λ (v : Worker). Contains v.shared e) r.1 h))
        ]

    same_reads : (j : ℕ) → (worker (after s (Append i lemma)) j).may_read ≡ (worker s j).may_read
    same_reads j =
        elim (after_set s.workers i (appended (worker s i) s.next lemma) j (idle 0) inside) [
          | inl r ↦ ap (λ (v : Worker). v.may_read) r.1 ∙ ap (λ n. (worker s n).may_read) (sym r.0)
          | inr r ↦ ap (λ (v : Worker). v.may_read) r.1
        ]

    same_shares : (j : ℕ) → (worker (after s (Append i lemma)) j).shared ≡ (worker s j).shared
    same_shares j =
        elim (after_set s.workers i (appended (worker s i) s.next lemma) j (idle 0) inside) [
          | inl r ↦ ap (λ (v : Worker). v.shared) r.1 ∙ ap (λ n. (worker s n).shared) (sym r.0)
          | inr r ↦ ap (λ (v : Worker). v.shared) r.1
        ]

    reads : (j m : ℕ) → slice_index (worker (after s (Append i lemma)) j).may_read m ≤ length (worker (after s (Append i lemma)) m).shared
    reads j m = rw (same_reads j, same_shares m) (kept.shares.read j m)

-- a share
pub kept_share : (p : Problem) (s : State) (i : ℕ) (entry : Entry) → Kept p s → MayHappen p s (Share i entry) → Kept p (after s (Share i entry))
kept_share p s i entry kept (inside, listed) = record {
  logs = logs_along p s (after s (Share i entry)) same (same_total s i (has_shared (worker s i) entry) inside refl) refl kept.logs;
  shares = record { owned = own; read = reads };
  verdict = stands_along p s (after s (Share i entry)) s.verdict (entry_forth s (after s (Share i entry)) same) kept.verdict;
}
  where
    same : SameLogs s (after s (Share i entry))
    same = same_logs s i (has_shared (worker s i) entry) inside refl

    own : (j : ℕ) (e : Entry) → Contains (worker (after s (Share i entry)) j).shared e → Contains (worker (after s (Share i entry)) j).log e
    own j e h =
        elim (after_set s.workers i (has_shared (worker s i) entry) j (idle 0) inside) [
          | inl r ↦ subst (λ (v : Worker). Contains v.log e) (sym r.1)
              (elim (Contains-push_cases (worker s i).shared entry e (subst (λ (v : Worker). Contains v.shared e) r.1 h)) [
                | inl old ↦ kept.shares.owned i e old
                | inr q ↦ subst (λ z. Contains (worker s i).log z) q listed
              ])
          | inr r ↦ subst (λ (v : Worker). Contains v.log e) (sym r.1) (kept.shares.owned j e (subst (λ (v : Worker). Contains v.shared e) r.1 h))
        ]

    same_reads : (j : ℕ) → (worker (after s (Share i entry)) j).may_read ≡ (worker s j).may_read
    same_reads j =
        elim (after_set s.workers i (has_shared (worker s i) entry) j (idle 0) inside) [
          | inl r ↦ ap (λ (v : Worker). v.may_read) r.1 ∙ ap (λ n. (worker s n).may_read) (sym r.0)
          | inr r ↦ ap (λ (v : Worker). v.may_read) r.1
        ]

    more : (j : ℕ) → length (worker s j).shared ≤ length (worker (after s (Share i entry)) j).shared
    more j =
        elim (after_set s.workers i (has_shared (worker s i) entry) j (idle 0) inside) [
          | inl r ↦
              let a = ap (λ (v : Worker). length v.shared) r.1 in
              let b = length_push (worker s i).shared entry in
              let c = ap (λ n. length (worker s n).shared) r.0 in
              omega arith
          | inr r ↦ let a = ap (λ (v : Worker). length v.shared) r.1 in omega arith
        ]

    reads : (j m : ℕ) → slice_index (worker (after s (Share i entry)) j).may_read m ≤ length (worker (after s (Share i entry)) m).shared
    reads j m = rw (same_reads j) (let a = kept.shares.read j m in let b = more m in omega arith)

-- a reading
pub kept_read : (p : Problem) (s : State) (i j n : ℕ) → Kept p s → MayHappen p s (Read i j n) → Kept p (after s (Read i j n))
kept_read p s i j n kept (inside, inside2, apart, rises, within) = record {
  logs = logs_along p s (after s (Read i j n)) same (same_total s i (has_read (worker s i) j n) inside refl) refl kept.logs;
  shares = record { owned = own; read = reads };
  verdict = stands_along p s (after s (Read i j n)) s.verdict (entry_forth s (after s (Read i j n)) same) kept.verdict;
}
  where
    same : SameLogs s (after s (Read i j n))
    same = same_logs s i (has_read (worker s i) j n) inside refl

    own : (a : ℕ) (e : Entry) → Contains (worker (after s (Read i j n)) a).shared e → Contains (worker (after s (Read i j n)) a).log e
    own a e h =
        elim (after_set s.workers i (has_read (worker s i) j n) a (idle 0) inside) [
          | inl r ↦ subst (λ (v : Worker). Contains v.log e) (sym r.1) (kept.shares.owned i e (subst (λ (v : Worker). Contains v.shared e) r.1 h))
          | inr r ↦ subst (λ (v : Worker). Contains v.log e) (sym r.1) (kept.shares.owned a e (subst (λ (v : Worker). Contains v.shared e) r.1 h))
        ]

    same_shares : (a : ℕ) → (worker (after s (Read i j n)) a).shared ≡ (worker s a).shared
    same_shares a =
        elim (after_set s.workers i (has_read (worker s i) j n) a (idle 0) inside) [
          | inl r ↦ ap (λ (v : Worker). v.shared) r.1 ∙ ap (λ m. (worker s m).shared) (sym r.0)
          | inr r ↦ ap (λ (v : Worker). v.shared) r.1
        ]

    written : (b : ℕ) → slice_index (set (worker s i).may_read j n) b ≤ length (worker s b).shared
    written b =
        elim (cases_lt j (length (worker s i).may_read)) [
          | inl lt ↦ elim (cases_eq b j) [
            | inl e ↦ rw (e, get_or-set_same (worker s i).may_read j n 0 lt) within
            | inr other ↦ rw (get_or-set_other (worker s i).may_read j b n 0 other) (kept.shares.read i b)
          ]
          | inr ge ↦ rw (set_past (worker s i).may_read j n ge) (kept.shares.read i b)
        ]

    reads : (a b : ℕ) → slice_index (worker (after s (Read i j n)) a).may_read b ≤ length (worker (after s (Read i j n)) b).shared
    reads a b =
        rw (same_shares b)
        (elim (after_set s.workers i (has_read (worker s i) j n) a (idle 0) inside) [
          | inl r ↦ subst (λ (v : Worker). slice_index v.may_read b ≤ length (worker s b).shared) (sym r.1) (written b)
          | inr r ↦ subst (λ (v : Worker). slice_index v.may_read b ≤ length (worker s b).shared) (sym r.1) (kept.shares.read a b)
        ])

-- an offer
pub kept_offer : (p : Problem) (s : State) (i : ℕ) (v : Verdict) → Kept p s → MayHappen p s (Offer i v) → Kept p (after s (Offer i v))
kept_offer p s i v kept may = record {
  logs = logs_along p s (after s (Offer i v)) (λ j. refl) refl refl kept.logs;
  shares = record { owned = kept.shares.owned; read = kept.shares.read };
  verdict = stands s.verdict kept.verdict v may;
}
  where
    stands : (old : Option Verdict) → Stands p s old → (v : Verdict) → MayHappen p s (Offer i v) → Stands p (after s (Offer i v)) (first_of old v)
    stands (Some Safe) h v may = h
    stands (Some Unsafe) h v may = h
    stands None h Unsafe (inside, model) = model
    stands None h Safe (inside, listed) =
        let r = contains_from_map (λ (e : Entry). e.lemma.lits) (known s i) [] listed in
        let q = known_entry s i r.0 kept.shares r.1 in
        (q.0, q.1, r.0, q.2, sym r.2)

-- any event
pub kept_after : (p : Problem) (s : State) (e : Event) → Kept p s → MayHappen p s e → Kept p (after s e)
kept_after p s (Append i lemma) kept may = kept_append p s i lemma kept may
kept_after p s (Share i entry) kept may = kept_share p s i entry kept may
kept_after p s (Read i j n) kept may = kept_read p s i j n kept may
kept_after p s (Offer i v) kept may = kept_offer p s i v kept may

-- any list of events
pub kept_run : (p : Problem) (events : List Event) (s : State) → Kept p s → AllMayHappen p events s → Kept p (run events s)
kept_run p [] s kept may = kept
kept_run p (e ∷ es) s kept (may, rest) = kept_run p es (after s e) (kept_after p s e kept may) rest

-- at the start no worker has an entry, and none may read one
pub idle_at_start : (n i : ℕ) → ((worker (start n) i).log ≡ []) × ((worker (start n) i).shared ≡ []) × ((j : ℕ) → slice_index (worker (start n) i).may_read j ≡ 0)
idle_at_start n i =
    elim (cases_lt i n) [
      | inl lt ↦
          let w = get_or-replicate n i (idle n) (idle 0) lt in
          (ap (λ (v : Worker). v.log) w, ap (λ (v : Worker). v.shared) w, λ j. rw w (zeros j))
      | inr ge ↦
          let w = get_or_past (replicate n (idle n)) i (idle 0) (rw length-replicate ge) in
          (ap (λ (v : Worker). v.log) w, ap (λ (v : Worker). v.shared) w, λ j. rw w (refl))
    ]
  where
    zeros : (j : ℕ) → ◌≡◌ {A = ℕ} (get_or (replicate n 0) j 0) 0
    zeros j = elim (cases_lt j n) [ inl lt ↦ get_or-replicate n j 0 0 lt | inr ge ↦ get_or_past (replicate n 0) j 0 (rw length-replicate ge) ]

-- the start
pub kept_start : (p : Problem) (n : ℕ) → Kept p (start n)
kept_start p n = record {
  logs = record {
    below = λ i k e h. absurd (none i k e h);
    found = λ t h. absurd (omega arith);
    once = λ i j k m e f h g q. absurd (none i k e h);
    follows = λ i k e h cs low. absurd (none i k e h);
    counted = (let a = sum_by-replicate (λ (x : Worker). length x.log) n (idle n) in a ∙ times_none n);
  };
  shares = record {
    owned = λ i e h. absurd (contains_nothing e (subst (λ xs. Contains xs e) ((idle_at_start n i).1) h));
    read = λ i j. let z = (idle_at_start n i).2 j in omega arith;
  };
  verdict = tt;
}
  where
    times_none : (n : ℕ) → n * 0 ≡ 0
    times_none n = omega arith

    none : (i k : ℕ) (e : Entry) → IsEntry (start n) i k e → ⊥
    none i k e h = get_nothing k e (subst (λ log. slice_get log k ≡ Some e) ((idle_at_start n i).0) h)

-- what is reached from the start
pub kept_reached : (p : Problem) (n : ℕ) (s : State) → IsReached p n s → Kept p s
kept_reached p n s r = subst (λ t. Kept p t) r.reached (kept_run p r.events (start n) (kept_start p n) r.allowed)
