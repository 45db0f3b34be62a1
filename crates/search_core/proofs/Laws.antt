-- What holds after any list of events.
use Rattle.std.proofs.Common.{◌≡◌, ℕ, zero, suc, ◌<◌, ◌≤◌, inl, inr, Bool, true, false, List, [], ◌∷◌, ◌++◌, map, length, take, get_or, slice_get, Option, Some, None, refl, ap, sym, ◌∙◌, subst, arith}
use Rattle.std.specs.Prelude.{Contains, nat_lt, sum_by}
use Rattle.std.proofs.lemmas.Bool.Decides.{nat_tests}
use Rattle.std.proofs.lemmas.List.{append_assoc, append-nil, length_push}
use Rattle.std.proofs.lemmas.List.Elements.{Contains-append_cases, Contains-append_left, Contains-append_right}
use Rattle.std.proofs.lemmas.Option.{same_Some}
use Rattle.dg_base.proofs.Lists.{get_there, get_nothing, contains_place, get_push_cases, contains_head, contains_tail, contains_nothing, contains_cases, contains_map, contains_from_map}
use Rattle.dg_base.specs.declared.Lit.{Lit}
use Rattle.cnf_problem.specs.declared.problem.Problem.{Problem}
use Rattle.cnf_problem.specs.Literals.{IsSatisfied}
use Rattle.cnf_problem.specs.Problems.{IsConsistent, Follows, FollowInTurn}
use Rattle.cnf_problem.proofs.LemmaLaws.{follows_sound, follows_more}
use Rattle.search_core.specs.declared.Verdict.{Verdict}
use Rattle.search_core.specs.declared.Verdict.TheVariants.{Safe, Unsafe}
use Rattle.search_core.specs.declared.Entry.{Entry}
use Rattle.search_core.specs.Core.{Worker, State, Append, Share, Read, Offer, idle, worker, known, lits_of, first_of, after, IsReached}
use Rattle.search_core.specs.CoreLaws.{IsEntry, lower_of, clauses_below, TicketsOnce, IsRight, IsRefuted, IsMerged, IsSound, SoundAfterEvents, SoundIsKept, NoOppositeOffers, VerdictStays}
use Rattle.search_core.proofs.Kept.{LogsKept, Kept, Stands, known_entry}
use Rattle.search_core.proofs.Runs.{kept_after, kept_reached}

-- the clauses below a ticket have those of each entry of a log below it
pub lower_has : (t : ℕ) (es : List Entry) (k : ℕ) (e : Entry) → slice_get es k ≡ Some e → e.ticket < t → Contains (lower_of t es) e.lemma.lits
lower_has t [] k e h lt = absurd (get_nothing k e h)
lower_has t (x ∷ xs) k e h lt = by_test (nat_lt x.ticket t) refl k h (λ m g. lower_has t xs m e g lt)
  where
    by_test : (b : Bool) → nat_lt x.ticket t ≡ b → (k : ℕ) → slice_get (x ∷ xs) k ≡ Some e → ((m : ℕ) → slice_get xs m ≡ Some e → Contains (lower_of t xs) e.lemma.lits) → Contains (lower_of t (x ∷ xs)) e.lemma.lits
    by_test true q zero h later = rw q (subst (λ (z : Entry). Contains (x.lemma.lits ∷ lower_of t xs) z.lemma.lits) (same_Some x e h) (contains_head x.lemma.lits (lower_of t xs)))
    by_test true q (suc k) h later = rw q (contains_tail x.lemma.lits e.lemma.lits (lower_of t xs) (later k h))
    by_test false q zero h later = let s = ap (λ (z : Entry). z.ticket) (same_Some x e h) in absurd (grind (arith, nat_tests))
    by_test false q (suc k) h later = rw q (later k h)

-- and of each log
pub below_has : (t : ℕ) (ws : List Worker) (i k : ℕ) (e : Entry) → slice_get (get_or ws i (idle 0)).log k ≡ Some e → e.ticket < t → Contains (clauses_below t ws) e.lemma.lits
below_has t [] i k e h lt = absurd (get_nothing k e h)
below_has t (w ∷ ws) zero k e h lt = Contains-append_left (lower_of t w.log) (clauses_below t ws) e.lemma.lits (lower_has t w.log k e h lt)
below_has t (w ∷ ws) (suc i) k e h lt = Contains-append_right (lower_of t w.log) (clauses_below t ws) e.lemma.lits (below_has t ws i k e h lt)

-- a clause below a ticket is that of an entry of the log
pub lower_only : (t : ℕ) (es : List Entry) (c : List Lit) → Contains (lower_of t es) c → (k : ℕ) × (e : Entry) × (slice_get es k ≡ Some e) × (e.ticket < t) × (c ≡ e.lemma.lits)
lower_only t [] c h = absurd (contains_nothing c h)
lower_only t (x ∷ xs) c h = by_test (lower_only t xs c) (nat_lt x.ticket t) refl
  where
    behind : (Contains (lower_of t xs) c → (k : ℕ) × (e : Entry) × (slice_get xs k ≡ Some e) × (e.ticket < t) × (c ≡ e.lemma.lits)) → Contains (lower_of t xs) c → (k : ℕ) × (e : Entry) × (slice_get (x ∷ xs) k ≡ Some e) × (e.ticket < t) × (c ≡ e.lemma.lits)
    behind later m = let r = later m in (suc r.0, r.1, r.2, r.3, r.4)

    by_test : (Contains (lower_of t xs) c → (k : ℕ) × (e : Entry) × (slice_get xs k ≡ Some e) × (e.ticket < t) × (c ≡ e.lemma.lits)) → (b : Bool) → nat_lt x.ticket t ≡ b → (k : ℕ) × (e : Entry) × (slice_get (x ∷ xs) k ≡ Some e) × (e.ticket < t) × (c ≡ e.lemma.lits)
    by_test later true q =
        elim (contains_cases x.lemma.lits c (lower_of t xs) (rw q at h)) [
          | inl e ↦ (0, x, refl, grind (arith, nat_tests), e)
          | inr m ↦ behind later m
        ]
    by_test later false q = behind later (rw q at h)

-- or of some log
pub below_only : (t : ℕ) (ws : List Worker) (c : List Lit) → Contains (clauses_below t ws) c → (i : ℕ) × (k : ℕ) × (e : Entry) × (slice_get (get_or ws i (idle 0)).log k ≡ Some e) × (e.ticket < t) × (c ≡ e.lemma.lits)
below_only t [] c h = absurd (contains_nothing c h)
below_only t (w ∷ ws) c h =
    elim (Contains-append_cases (lower_of t w.log) (clauses_below t ws) c h) [
      | inl m ↦ let r = lower_only t w.log c m in (0, r.0, r.1, r.2, r.3, r.4)
      | inr m ↦ let r = below_only t ws c m in (suc r.0, r.1, r.2, r.3, r.4, r.5)
    ]

-- the entries below a ticket are true
pub true_below : (p : Problem) (s : State) → LogsKept p s → (a : List Bool) → IsConsistent p a → (t : ℕ) (i k : ℕ) (e : Entry) → IsEntry s i k e → e.ticket < t → IsSatisfied a e.lemma.lits
true_below p s kept a ok zero i k e h lt = absurd (omega arith)
true_below p s kept a ok (suc t) i k e h lt =
    follows_sound p (clauses_below e.ticket s.workers) a e.lemma ok
    (λ c m.
    let r = below_only e.ticket s.workers c m in
    let low : r.2.ticket < t = (let q = r.4 in omega arith) in
    subst (λ z. IsSatisfied a z) (sym r.5) (true_below p s kept a ok t r.0 r.1 r.2 r.3 low))
    (kept.follows i k e h (clauses_below e.ticket s.workers) (λ j m f g q. below_has e.ticket s.workers j m f g q))

-- an entry with no literal refutes the problem
pub refutes : (p : Problem) (s : State) → LogsKept p s → (i k : ℕ) (e : Entry) → IsEntry s i k e → e.lemma.lits ≡ [] → IsRefuted p
refutes p s kept i k e h none a ok =
    let t = true_below p s kept a ok (suc e.ticket) i k e h (omega arith) in
    contains_nothing t.0 (subst (λ xs. Contains xs t.0) none t.1)

-- where Safe is offered, no assignment is consistent
pub no_opposite_offers : NoOppositeOffers
no_opposite_offers p n m s t r q i j (inside, safe) (inside2, model) =
    let k = kept_reached p n s r in
    let f = contains_from_map (λ (e : Entry). e.lemma.lits) (known s i) [] safe in
    let w = known_entry s i f.0 k.shares f.1 in
    refutes p s k.logs w.0 w.1 f.0 w.2 (sym f.2) model.0 model.1

-- no event changes a verdict
pub verdict_stays : VerdictStays
verdict_stays s [] v h = h
verdict_stays s (Append i lemma ∷ es) v h = verdict_stays (after s (Append i lemma)) es v h
verdict_stays s (Share i entry ∷ es) v h = verdict_stays (after s (Share i entry)) es v h
verdict_stays s (Read i j n ∷ es) v h = verdict_stays (after s (Read i j n)) es v h
verdict_stays s (Offer i w ∷ es) v h = verdict_stays (after s (Offer i w)) es v (ap (λ o. first_of o w) h)

-- where each entry follows from those in front of it, the lemmas follow in turn
pub in_turn_from_each : (p : Problem) (cs : List (List Lit)) (es : List Entry) → ((k : ℕ) (e : Entry) → slice_get es k ≡ Some e → Follows p (cs ++ lits_of (take k es)) e.lemma) → FollowInTurn p cs (map (λ (e : Entry). e.lemma) es)
in_turn_from_each p cs [] h = tt
in_turn_from_each p cs (x ∷ xs) h = (
  rw append-nil at (h 0 x refl),
  in_turn_from_each p (cs ++ x.lemma.lits ∷ []) xs (λ k e g. rw append_assoc (h (suc k) e g)),
)

-- a place in the first part of a list
pub taken_place : {X : Type 0} (xs : List X) (n k : ℕ) (x : X) → k < n → slice_get xs k ≡ Some x → slice_get (take n xs) k ≡ Some x
taken_place [] n k x lt h = absurd (get_nothing k x h)
taken_place (y ∷ ys) zero k x lt h = absurd (omega arith)
taken_place (y ∷ ys) (suc n) zero x lt h = h
taken_place (y ∷ ys) (suc n) (suc k) x lt h = taken_place ys n k x (omega arith) h

-- entries in the order of their tickets follow in turn
pub good_from_merged : (p : Problem) (s : State) → LogsKept p s → (merged : List Entry) → IsMerged s merged → FollowInTurn p [] (map (λ (e : Entry). e.lemma) merged)
good_from_merged p s kept merged m =
    in_turn_from_each p [] merged (λ k e h.
    let r = m.each k e h in
    kept.follows r.1.0 r.1.1 e r.1.2 (lits_of (take k merged)) (λ j l f g lt.
    let below = kept.below j l f g in
    let low : f.ticket < k = (let q = r.0 in omega arith) in
    let q = get_there merged f.ticket (rw m.all below) in
    let u = m.each f.ticket q.0 q.1 in
    let place = kept.once u.1.0 j u.1.1 l q.0 f u.1.2 g u.0 in
    let same : q.0 ≡ f = same_Some q.0 f (sym u.1.2 ∙ ap (λ n. slice_get (worker s n).log u.1.1) place.0 ∙ ap (λ n. slice_get (worker s j).log n) place.1 ∙ g) in
    subst (λ (z : Entry). Contains (lits_of (take k merged)) z.lemma.lits) same
    (contains_map (λ (e : Entry). e.lemma.lits) (take k merged) q.0 (contains_place (take k merged) f.ticket q.0 (taken_place merged k f.ticket q.0 low q.1)))))

-- the merged list of the first tickets
pub first_merged : (p : Problem) (s : State) → LogsKept p s → (n : ℕ) → n ≤ s.next → (merged : List Entry) × (length merged ≡ n) × ((k : ℕ) (e : Entry) → slice_get merged k ≡ Some e → (e.ticket ≡ k) × ((i : ℕ) × (m : ℕ) × IsEntry s i m e))
first_merged p s kept zero le = ([], refl, λ k e h. absurd (get_nothing k e h))
first_merged p s kept (suc n) le =
    let r = first_merged p s kept n (omega arith) in
    let f = kept.found n (omega arith) in (
      r.0 ++ f.2 ∷ [],
      (let q = length_push r.0 f.2 in let l = r.1 in omega arith),
      λ k e h. elim (get_push_cases r.0 f.2 k e h) [
        | inl old ↦ r.2 k e old
        | inr q ↦ (
          (let t = ap (λ (z : Entry). z.ticket) q.1 in let l = r.1 in let b = q.0 in let c = f.4 in omega arith),
          (f.0, f.1, subst (λ z. IsEntry s f.0 f.1 z) (sym q.1) f.3),
        )
      ],
    )

-- what the events keep is what holds of the core
pub sound_from_kept : (p : Problem) (s : State) → Kept p s → IsSound p s
sound_from_kept p s kept = record {
  tickets = record { below = kept.logs.below; found = kept.logs.found; once = kept.logs.once };
  total = kept.logs.counted;
  follows = λ i k e h. kept.logs.follows i k e h (clauses_below e.ticket s.workers) (λ j m f g lt. below_has e.ticket s.workers j m f g lt);
  valid = λ i k e h a ok. true_below p s kept.logs a ok (suc e.ticket) i k e h (omega arith);
  shared = λ i. (kept.shares.owned i, kept.shares.read i);
  verdict = by_verdict s.verdict kept.verdict;
  merged = (
    let m = first_merged p s kept.logs s.next (omega arith) in (m.0, record { all = m.1; each = m.2 }),
    good_from_merged p s kept.logs,
  );
}
  where
    by_verdict : (v : Option Verdict) → Stands p s v → IsRight p s v
    by_verdict None h = tt
    by_verdict (Some Unsafe) h = h
    by_verdict (Some Safe) h = (h, refutes p s kept.logs h.0 h.1 h.2 h.3 h.4)

-- and the other way round
pub kept_from_sound : (p : Problem) (s : State) → IsSound p s → Kept p s
kept_from_sound p s sound = record {
  logs = record {
    below = sound.tickets.below;
    found = sound.tickets.found;
    once = sound.tickets.once;
    follows = λ i k e h cs low. follows_more p (clauses_below e.ticket s.workers) cs e.lemma
        (λ c m. let r = below_only e.ticket s.workers c m in subst (λ z. Contains cs z) (sym r.5) (low r.0 r.1 r.2 r.3 r.4))
        (sound.follows i k e h);
    counted = sound.total;
  };
  shares = record { owned = λ i. (sound.shared i).0; read = λ i. (sound.shared i).1 };
  verdict = by_verdict s.verdict sound.verdict;
}
  where
    by_verdict : (v : Option Verdict) → IsRight p s v → Stands p s v
    by_verdict None h = tt
    by_verdict (Some Unsafe) h = h
    by_verdict (Some Safe) h = h.0

-- the law after any list of events
pub sound_after_events : SoundAfterEvents
sound_after_events p n s r = sound_from_kept p s (kept_reached p n s r)

-- the law after one event
pub sound_is_kept : SoundIsKept
sound_is_kept p s event sound may = sound_from_kept p (after s event) (kept_after p s event (kept_from_sound p s sound) may)

-- the parts of the law that are cited alone
pub tickets_once : (p : Problem) (n : ℕ) (s : State) → IsReached p n s → TicketsOnce s
tickets_once p n s r = (sound_after_events p n s r).tickets

-- the total alone
pub logs_add_up : (p : Problem) (n : ℕ) (s : State) → IsReached p n s → sum_by (λ (w : Worker). length w.log) s.workers ≡ s.next
logs_add_up p n s r = (sound_after_events p n s r).total
