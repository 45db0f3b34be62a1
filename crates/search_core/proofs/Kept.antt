-- What each event keeps.
use Rattle.std.proofs.Common.{◌≡◌, ℕ, suc, ◌<◌, ◌≤◌, ◌⊎◌, inl, inr, Bool, List, [], ◌∷◌, length, take, get_or, slice_get, Option, Some, None, refl, ap, sym, ◌∙◌, subst, arith}
use Rattle.std.specs.Prelude.{Contains, ⊤, slice_index, sum_by}
use Rattle.std.proofs.lemmas.List.Sums.{sum_by-set}
use Rattle.std.proofs.lemmas.Bool.{cases_lt}
use Rattle.std.proofs.lemmas.List.{length_push}
use Rattle.std.proofs.lemmas.List.Elements.{Contains-append_cases}
use Rattle.dg_base.proofs.Lists.{get_append_left, place_of, get_push_cases, get_push_last, contains_nothing, contains_from_map}
use Rattle.dg_base.specs.declared.Lit.{Lit}
use Rattle.cnf_problem.specs.declared.problem.Lemma.{Lemma}
use Rattle.cnf_problem.specs.declared.problem.Problem.{Problem}
use Rattle.cnf_problem.specs.Problems.{IsConsistent, Follows}
use Rattle.cnf_problem.proofs.Members.{contains_take}
use Rattle.cnf_problem.proofs.LemmaLaws.{follows_more}
use Rattle.search_core.specs.declared.Verdict.{Verdict}
use Rattle.search_core.specs.declared.Verdict.TheVariants.{Safe, Unsafe}
use Rattle.search_core.specs.declared.Entry.{Entry}
use Rattle.search_core.specs.Core.{Worker, State, Append, idle, worker, readable, known, lits_of, appended, after}
use Rattle.search_core.specs.CoreLaws.{IsEntry}
use Rattle.search_core.proofs.Places.{after_set}

-- the clauses have those of all entries with lower tickets
abbrev pub HasLower : State → ℕ → List (List Lit) → Type 0
HasLower s t cs = (i k : ℕ) (e : Entry) → IsEntry s i k e → e.ticket < t → Contains cs e.lemma.lits

-- what holds of the logs
pub record LogsKept (p : Problem) (s : State) : Type 0 where
  pub below : (i k : ℕ) (e : Entry) → IsEntry s i k e → e.ticket < s.next
  pub found : (t : ℕ) → t < s.next → (i : ℕ) × (k : ℕ) × (e : Entry) × IsEntry s i k e × (e.ticket ≡ t)
  pub once : (i j k m : ℕ) (e f : Entry) → IsEntry s i k e → IsEntry s j m f → e.ticket ≡ f.ticket → (i ≡ j) × (k ≡ m)
  pub follows : (i k : ℕ) (e : Entry) → IsEntry s i k e → (cs : List (List Lit)) → HasLower s e.ticket cs → Follows p cs e.lemma
  pub counted : sum_by (λ (w : Worker). length w.log) s.workers ≡ s.next

-- what holds of what was shared and read
pub record SharesKept (s : State) : Type 0 where
  pub owned : (i : ℕ) (e : Entry) → Contains (worker s i).shared e → Contains (worker s i).log e
  pub read : (i j : ℕ) → slice_index (worker s i).may_read j ≤ length (worker s j).shared

-- what holds of the verdict
abbrev pub Stands : Problem → State → Option Verdict → Type 0
Stands p s None = ⊤
Stands p s (Some Unsafe) = (assignment : List Bool) × IsConsistent p assignment
Stands p s (Some Safe) = (i : ℕ) × (k : ℕ) × (e : Entry) × IsEntry s i k e × (e.lemma.lits ≡ [])

pub record Kept (p : Problem) (s : State) : Type 0 where
  pub logs : LogsKept p s
  pub shares : SharesKept s
  pub verdict : Stands p s s.verdict

-- two states with the same logs
abbrev pub SameLogs : State → State → Type 0
SameLogs s t = (i : ℕ) → (worker t i).log ≡ (worker s i).log

-- an entry of the one is an entry of the other
pub entry_back : (s t : State) → SameLogs s t → (i k : ℕ) (e : Entry) → IsEntry t i k e → IsEntry s i k e
entry_back s t same i k e h = subst (λ log. slice_get log k ≡ Some e) (same i) h

-- and the other way round
pub entry_forth : (s t : State) → SameLogs s t → (i k : ℕ) (e : Entry) → IsEntry s i k e → IsEntry t i k e
entry_forth s t same i k e h = subst (λ log. slice_get log k ≡ Some e) (sym (same i)) h

-- what holds of the logs holds of the same logs
pub logs_along : (p : Problem) (s t : State) → SameLogs s t → sum_by (λ (w : Worker). length w.log) t.workers ≡ sum_by (λ (w : Worker). length w.log) s.workers → t.next ≡ s.next → LogsKept p s → LogsKept p t
logs_along p s t same total next kept = record {
  counted = total ∙ kept.counted ∙ sym next;
  below = λ i k e h. rw next (kept.below i k e (entry_back s t same i k e h));
  found = λ n h. let r = kept.found n (rw next at h) in (r.0, r.1, r.2, entry_forth s t same r.0 r.1 r.2 r.3, r.4);
  once = λ i j k m e f h g q. kept.once i j k m e f (entry_back s t same i k e h) (entry_back s t same j m f g) q;
  follows = λ i k e h cs low. kept.follows i k e (entry_back s t same i k e h) cs (λ j m f g lt. low j m f (entry_forth s t same j m f g) lt);
}

-- a verdict stands while entries stay
pub stands_along : (p : Problem) (s t : State) (v : Option Verdict) → ((i k : ℕ) (e : Entry) → IsEntry s i k e → IsEntry t i k e) → Stands p s v → Stands p t v
stands_along p s t None stay h = tt
stands_along p s t (Some Unsafe) stay h = h
stands_along p s t (Some Safe) stay h = (h.0, h.1, h.2, stay h.0 h.1 h.2 h.3, h.4)

-- what may be read was shared by some worker
pub readable_shared : (d : Worker) (ns : List ℕ) (ws : List Worker) (e : Entry) → Contains (readable ns ws) e → (j : ℕ) × Contains (get_or ws j d).shared e
readable_shared d [] ws e h = absurd (contains_nothing e h)
readable_shared d (n ∷ ns) [] e h = absurd (contains_nothing e h)
readable_shared d (n ∷ ns) (w ∷ ws) e h =
    elim (Contains-append_cases (take n w.shared) (readable ns ws) e h) [
      | inl m ↦ (0, contains_take n w.shared e m)
      | inr m ↦ let r = readable_shared d ns ws e m in (suc r.0, r.1)
    ]

-- what a worker knows are entries of the logs
pub known_entry : (s : State) (i : ℕ) (e : Entry) → SharesKept s → Contains (known s i) e → (j : ℕ) × (k : ℕ) × IsEntry s j k e
known_entry s i e kept h =
    elim (Contains-append_cases (worker s i).log (readable (worker s i).may_read s.workers) e h) [
      | inl m ↦ let r = place_of (worker s i).log e m in (i, r.0, r.1)
      | inr m ↦
          let r = readable_shared (idle 0) (worker s i).may_read s.workers e m in
          let q = place_of (worker s r.0).log e (kept.owned r.0 e r.1) in
          (r.0, q.0, q.1)
    ]

-- one more entry
module _ (p : Problem) (s : State) (i : ℕ) (lemma : Lemma) (inside : i < length s.workers) where
  abbrev next_state : State
  next_state = after s (Append i lemma)

  abbrev new_entry : Entry
  new_entry = record { ticket = s.next; lemma = lemma; seen = (worker s i).may_read }

  pub entry_after : (j k : ℕ) (e : Entry) → IsEntry next_state j k e → IsEntry s j k e ⊎ ((j ≡ i) × (k ≡ length (worker s i).log) × (e ≡ new_entry))
  entry_after j k e h =
      elim (after_set s.workers i (appended (worker s i) s.next lemma) j (idle 0) inside) [
        | inl r ↦
            let g = subst (λ (w : Worker). slice_get w.log k ≡ Some e) r.1 h in
            elim (get_push_cases (worker s i).log new_entry k e g) [
              | inl old ↦ inl (subst (λ n. IsEntry s n k e) (sym r.0) old)
              | inr q ↦ inr (r.0, q.0, q.1)
            ]
        | inr r ↦ inl (subst (λ (w : Worker). slice_get w.log k ≡ Some e) r.1 h)
      ]

  pub entry_stays : (j k : ℕ) (e : Entry) → IsEntry s j k e → IsEntry next_state j k e
  entry_stays j k e h =
      elim (after_set s.workers i (appended (worker s i) s.next lemma) j (idle 0) inside) [
        | inl r ↦ subst (λ (w : Worker). slice_get w.log k ≡ Some e) (sym r.1) (get_append_left (worker s i).log (new_entry ∷ []) k e (subst (λ n. IsEntry s n k e) r.0 h))
        | inr r ↦ subst (λ (w : Worker). slice_get w.log k ≡ Some e) (sym r.1) h
      ]

  pub entry_new : IsEntry next_state i (length (worker s i).log) new_entry
  entry_new =
      elim (after_set s.workers i (appended (worker s i) s.next lemma) i (idle 0) inside) [
        | inl r ↦ subst (λ (w : Worker). slice_get w.log (length (worker s i).log) ≡ Some new_entry) (sym r.1) (get_push_last (worker s i).log new_entry)
        | inr r ↦ absurd (r.0 refl)
      ]

  pub logs_append : Kept p s → Follows p (lits_of (known s i)) lemma → LogsKept p next_state
  logs_append kept follows = record {
    counted = (let a = sum_by-set (λ (w : Worker). length w.log) s.workers i (appended (worker s i) s.next lemma) (idle 0) inside in let b = kept.logs.counted in let c = length_push (worker s i).log new_entry in omega arith);
    below = λ j k e h. elim (entry_after j k e h) [
      | inl old ↦ let b = kept.logs.below j k e old in omega arith
      | inr r ↦ let t = ap (λ (x : Entry). x.ticket) r.2 in omega arith
    ];
    found = λ t h. elim (cases_lt t s.next) [
      | inl lt ↦ let r = kept.logs.found t lt in (r.0, r.1, r.2, entry_stays r.0 r.1 r.2 r.3, r.4)
      | inr ge ↦ (i, length (worker s i).log, new_entry, entry_new, omega arith)
    ];
    once = λ j l k m e f h g q. elim (entry_after j k e h) [
      | inl old ↦ elim (entry_after l m f g) [
        | inl older ↦ kept.logs.once j l k m e f old older q
        | inr r ↦ let b = kept.logs.below j k e old in let t = ap (λ (x : Entry). x.ticket) r.2 in absurd (omega arith)
      ]
      | inr r ↦ elim (entry_after l m f g) [
        | inl older ↦ let b = kept.logs.below l m f older in let t = ap (λ (x : Entry). x.ticket) r.2 in absurd (omega arith)
        | inr u ↦ (r.0 ∙ sym u.0, r.1 ∙ sym u.1)
      ]
    ];
    follows = λ j k e h cs low. elim (entry_after j k e h) [
      | inl old ↦ kept.logs.follows j k e old cs (λ l m f g lt. low l m f (entry_stays l m f g) lt)
      | inr r ↦
          let within = (λ (x : List Lit) (c : Contains (lits_of (known s i)) x).
          let q = contains_from_map (λ (y : Entry). y.lemma.lits) (known s i) x c in
          let w = known_entry s i q.0 kept.shares q.1 in
          let lt : q.0.ticket < e.ticket = (let b = kept.logs.below w.0 w.1 q.0 w.2 in let t = ap (λ (z : Entry). z.ticket) r.2 in omega arith) in
          subst (λ z. Contains cs z) (sym q.2) (low w.0 w.1 q.0 (entry_stays w.0 w.1 q.0 w.2) lt)) in
          subst (λ (z : Entry). Follows p cs z.lemma) (sym r.2) (follows_more p (lits_of (known s i)) cs lemma within follows)
    ];
  }
