-- A step of a seat with one number keeps the rule, where it keeps what is said of that number.
use Rattle.std.proofs.Common.{◌≡◌, ℕ, suc, ◌*◌, ◌<◌, ◌≤◌, false, List, [], ◌∷◌, ◌++◌, map, length, set, refl, ap, sym, ◌∙◌, subst, arith, Some, slice_get}
use Rattle.std.specs.Prelude.{slice_index, sum_by, Contains}
use Rattle.std.proofs.lemmas.List.{length-map, set-get_or}
use Rattle.std.proofs.lemmas.List.Sums.{sum_by-cons}
use mathlib.Core.Option.{some, none, Option as Found}
use lib.ListN.{get_elem?}
use prog.Atomic.{either}
use Rattle.std.proofs.Common.{eqb}
use Rattle.std.proofs.lemmas.Option.{same_Some}
use Rattle.dg_base.proofs.Lists.{get_from_map}
use Rattle.atomic_table.specs.Table.{State, Me, step, keeps, Allows}
use Rattle.atomic_table.proofs.Lists.{exchanged}
use Rattle.cnf_problem.specs.declared.problem.Lemma.{Lemma}
use Rattle.cnf_problem.specs.declared.problem.Problem.{Problem}
use Rattle.search_core.specs.Core.{Worker, Event, IsReached, MayHappen, AllMayHappen, start, run, after, idle, worker}
use Rattle.search_core.specs.Core
use Rattle.search_core.proofs.Laws.{sound_after_events}
use Rattle.clause_exchange.specs.declared.rule.Part.{Part}
use Rattle.clause_exchange.specs.declared.rule.View.{View}
use Rattle.clause_exchange.specs.Rule.{worker_of, core_of, IsKept, HoldsFor}
use Rattle.clause_exchange.specs.Steps.{IsOne, with_part, Announces, Cuts, Agrees}
use Rattle.clause_exchange.proofs.Sharing.{shared_after, shared_along, has_one}

-- what is kept, in the words of a view
kept_for : (p : Problem) (n share_words : ℕ) (words : List ℕ) (parts : List Part) (v : View) → (v.problem ≡ p) × (v.workers ≡ n) × (v.share_words ≡ share_words) → IsKept p n share_words words parts → IsKept p v.workers v.share_words words parts
kept_for p n share_words words parts v t kept = subst (λ m. IsKept p m v.share_words words parts) (sym t.1) (subst (λ m. IsKept p n m words parts) (sym t.2) kept)

kept_back : (p : Problem) (n share_words : ℕ) (words : List ℕ) (parts : List Part) (v : View) → (v.problem ≡ p) × (v.workers ≡ n) × (v.share_words ≡ share_words) → IsKept p v.workers v.share_words words parts → IsKept p n share_words words parts
kept_back p n share_words words parts v t kept = subst (λ m. IsKept p m share_words words parts) t.1 (subst (λ m. IsKept p v.workers m words parts) t.2 kept)

-- a step of a seat with one number, where what is kept afterwards and what the step tells hang on what the others hold
pub step_tells : (p : Problem) (n share_words : ℕ) (s : State Lemma View) (words : List ℕ) (homes : List (Found Lemma)) (id : ℕ) (v : View) (part : Part) (then : View → Type 0) → HoldsFor p n share_words s → get_elem? s.views id ≡ some v → IsOne v part
    → ((parts : List Part) → slice_get parts part.number ≡ Some part → IsKept p v.workers v.share_words s.words parts → (q : Part) × (q.number ≡ part.number) × IsKept p v.workers v.share_words words (set parts part.number q) × then (with_part v q))
    → (w : View) × HoldsFor p n share_words (record { words = words; homes = homes; views = set s.views id w }) × then w
step_tells p n share_words s words homes id v part then r there one keep =
    let t = r.views.told id v there one.live in
    let at = r.views.same part.number id part (has_one p n share_words s.views r.parts id v v part part there one r.views refl refl refl refl one.live one.one) in
    let k = keep r.parts at (kept_for p n share_words s.words r.parts v t r.kept) in (
      with_part v k.0,
      record {
        parts = set r.parts part.number k.0;
        views = shared_after p n share_words s.views r.parts id v (with_part v k.0) part k.0 there one r.views refl refl refl k.1 one.live refl;
        kept = kept_back p n share_words words (set r.parts part.number k.0) v t k.2;
      },
      k.3,
    )

-- one more event
pub run_push : (events : List Event) (e : Event) (s : Core.State) → run (events ++ e ∷ []) s ≡ after (run events s) e
run_push [] e s = refl
run_push (x ∷ xs) e s = run_push xs e (after s x)

pub may_push : (p : Problem) (events : List Event) (e : Event) (s : Core.State) → AllMayHappen p events s → MayHappen p (run events s) e → AllMayHappen p (events ++ e ∷ []) s
may_push p [] e s all may = (may, tt)
may_push p (x ∷ xs) e s (first, rest) may = (first, may_push p xs e (after s x) rest may)

pub reached_after : (p : Problem) (n : ℕ) (s : Core.State) (e : Event) → IsReached p n s → MayHappen p s e → IsReached p n (after s e)
reached_after p n s e r may = record {
  events = r.events ++ e ∷ [];
  allowed = may_push p r.events e (start n) r.allowed (subst (λ t. MayHappen p t e) (sym r.reached) may);
  reached = run_push r.events e (start n) ∙ ap (λ t. after t e) r.reached;
}

-- a sum of small numbers
pub sum_small : {X : Type 0} (f : X → ℕ) (c : ℕ) (xs : List X) → ((i : ℕ) (x : X) → slice_get xs i ≡ Some x → f x ≤ c) → sum_by f xs ≤ length xs * c
sum_small f c [] h = omega arith
sum_small f c (x ∷ xs) h =
    let a = sum_by-cons f x xs in
    let b = sum_small f c xs (λ i y at. h (suc i) y at) in
    let e = h 0 x refl in
    omega arith

-- the next ticket leaves room in its word
pub next_small : (p : Problem) (n share_words : ℕ) (words : List ℕ) (parts : List Part) → IsKept p n share_words words parts → slice_index words 0 ≤ 16000016
next_small p n share_words words parts kept =
    let total = (sound_after_events p n (core_of words parts) kept.reached).total in
    let bound = sum_small (λ (w : Worker). length w.log) 1000001 (map worker_of parts) (λ i w at. let r = get_from_map worker_of parts i w at in let short = (kept.rows i r.0 r.1).short in let e = ap (λ (x : Worker). length x.log) r.2 in omega arith) in
    let few = kept.few in
    let a = kept.numbers in
    let b = length-map parts worker_of in
    let m : ℕ = length (map worker_of parts) in
    omega arith

-- a step that changes of a view only what it is about to do
pub view_holds : (p : Problem) (n share_words : ℕ) (s : State Lemma View) (words : List ℕ) (homes : List (Found Lemma)) (id : ℕ) (v w : View) → HoldsFor p n share_words s → get_elem? s.views id ≡ some v → v.spent ≡ false
    → w.problem ≡ v.problem → w.workers ≡ v.workers → w.share_words ≡ v.share_words → w.spent ≡ false → w.parts ≡ v.parts → (slice_index s.words 1 < 3 → words ≡ s.words)
    → HoldsFor p n share_words (record { words = words; homes = homes; views = set s.views id w })
view_holds p n share_words s words homes id v w r there live problem workers share alive parts same = record {
  parts = r.parts;
  views = shared_along p n share_words s.views r.parts id v w there live r.views problem workers share alive parts;
  kept = subst (λ ws. IsKept p n share_words ws r.parts) (sym (same r.kept.verdict.small)) r.kept;
}

-- the step that keeps the lemma
pub tells : (p : Problem) (n share_words slots id : ℕ) (me : Me Lemma View) (lemma : Lemma) → me.0.spent ≡ false → Allows (HoldsFor p n share_words) slots id me 1 (λ n. either (eqb n 3) 3 n) (Announces (step slots 1 3 3 (some lemma)) me)
tells p n share_words slots id me lemma live s h homes there small = (
  record { problem = me.0.problem; workers = me.0.workers; share_words = me.0.share_words; parts = me.0.parts; announced = Some lemma; cut = me.0.cut; spent = me.0.spent },
  keeps,
  tt,
  view_holds p n share_words s (set s.words 1 (either (eqb (slice_index s.words 1) 3) 3 (slice_index s.words 1))) s.homes id me.0 (record { problem = me.0.problem; workers = me.0.workers; share_words = me.0.share_words; parts = me.0.parts; announced = Some lemma; cut = me.0.cut; spent = me.0.spent }) h there live refl refl refl live refl unchanged,
  (lemma, refl, refl, refl),
)
  where
    unchanged : slice_index s.words 1 < 3 → set s.words 1 (either (eqb (slice_index s.words 1) 3) 3 (slice_index s.words 1)) ≡ s.words
    unchanged below = exchanged (slice_index s.words 1) 3 3 (λ m. set s.words 1 m ≡ s.words) (λ e. absurd (omega arith)) (λ ne. set-get_or s.words 1 0)

-- the step that keeps where the seat is about to be split
pub cuts : (p : Problem) (n share_words slots id : ℕ) (me : Me Lemma View) (at : ℕ) → me.0.spent ≡ false → Allows (HoldsFor p n share_words) slots id me at (λ n. n) (Cuts (step slots at 0 0 none) me)
cuts p n share_words slots id me at live s h homes there small = (
  record { problem = me.0.problem; workers = me.0.workers; share_words = me.0.share_words; parts = me.0.parts; announced = me.0.announced; cut = at; spent = me.0.spent },
  keeps,
  tt,
  view_holds p n share_words s (set s.words at (slice_index s.words at)) s.homes id me.0 (record { problem = me.0.problem; workers = me.0.workers; share_words = me.0.share_words; parts = me.0.parts; announced = me.0.announced; cut = at; spent = me.0.spent }) h there live refl refl refl live refl (λ below. set-get_or s.words at 0),
  (refl, refl),
)

-- the step that tells that what is kept of each number is one thing
pub agrees : (p : Problem) (n share_words slots id : ℕ) (me : Me Lemma View) → me.0.spent ≡ false → Allows (HoldsFor p n share_words) slots id me 0 (λ n. n) (Agrees (step slots 0 0 0 none) me)
agrees p n share_words slots id me live s h homes there small = (
  me.0,
  keeps,
  tt,
  view_holds p n share_words s (set s.words 0 (slice_index s.words 0)) s.homes id me.0 me.0 h there live refl refl refl live refl (λ below. set-get_or s.words 0 0),
  (refl, refl, λ a b ca cb e. same_Some a b (sym (at a ca) ∙ subst (λ m. slice_get h.parts m ≡ Some b) (sym e) (at b cb))),
)
  where
    at : (x : Part) → Contains me.0.parts x → slice_get h.parts x.number ≡ Some x
    at x c = h.views.same x.number id x (record { view = me.0; there = there; live = live; listed = c; is = refl })
