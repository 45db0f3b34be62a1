-- A checker that takes one more entry.
use Rattle.std.proofs.Common.{◌≡◌, ℕ, ◌+◌, ◌<◌, ◌≤◌, ◌↔◌, Bool, false, Some, List, [], ◌∷◌, ◌++◌, length, take, refl, ap, sym, ◌∙◌, subst, add-one, arith}
use Rattle.std.specs.Prelude.{◌==◌, IsTrue, slice_get}
use Rattle.std.proofs.lemmas.Bool.{eq-eqb, eqb-true}
use Rattle.std.proofs.lemmas.List.{length-append, length-take-le, map-append, nil_from_length, take_all}
use Rattle.std.proofs.lemmas.Option.{slice_get_within}
use Rattle.dg_base.specs.declared.Lit.{Lit}
use Rattle.dg_base.proofs.Lists.{get_push_last}
use Rattle.cnf_problem.specs.declared.problem.Problem.{Problem}
use Rattle.cnf_problem.specs.Problems.{FollowInTurn, Follows}
use Rattle.cnf_problem.proofs.LemmaLaws.{in_turn_push}
use Rattle.lemma_log.specs.Tickets.{AreInOrder}
use Rattle.lemma_log.specs.declared.Entry.{Entry}
use Rattle.unit_refuter.specs.Refuting.{IsReady}
use Rattle.log_checker.specs.Checking.{CheckerView, HasTaken}
use Rattle.log_checker.specs.Goodness.{EndsEmpty, IsGood, clauses_of, lemmas_of}
use Rattle.log_checker.specs.Graphs.{AreFound}
use Rattle.log_checker.specs.Refusals.{IsEntryRefusal, IsRefusal}
use Rattle.log_checker.specs.Refusals.Fails.{entry_fails}
use Rattle.log_checker.specs.declared.refused.Refused.{Refused}
use Rattle.log_checker.specs.declared.refused.Refused.TheVariants.{BadHint, BadNumber, NoCycle, NoEmpty, NotImplied, OutOfMemory}
use Rattle.log_checker.proofs.Evidence.{lemmas_push, map_twice, take_one}

-- the last elements of equal lists
last_same : {X : Type 0} (xs ys : List X) (x y : X) → xs ++ x ∷ [] ≡ ys ++ y ∷ [] → x ≡ y
last_same xs ys x y e =
    let long : length xs ≡ length ys = omega (arith, length-append xs (x ∷ []), length-append ys (y ∷ []), ap length e) in
    let both : Some x ≡ Some y = sym (get_push_last xs x) ∙ (ap (λ z. slice_get z (length xs)) e ∙ (ap (λ z. slice_get (ys ++ y ∷ []) z) long ∙ get_push_last ys y)) in
    cc

pub ends_empty_push : (entries : List Entry) (e : Entry) → EndsEmpty (entries ++ e ∷ []) ↔ (e.lemma.lits ≡ [])
ends_empty_push entries e =
    ((λ ends. let same = last_same entries ends.before e ends.last ends.parts in ap (λ (z : Entry). z.lemma.lits) same ∙ ends.empty), (λ h. record { before = entries; last = e; parts = refl; empty = h }))

pub good_push : (p : Problem) (entries : List Entry) (e : Entry) → IsGood p entries → Follows p (clauses_of entries) e.lemma → IsGood p (entries ++ e ∷ [])
good_push p entries e good follows =
    subst (FollowInTurn p []) (sym (lemmas_push entries e)) (in_turn_push p [] (lemmas_of entries) e.lemma good (subst (λ c. Follows p c e.lemma) (sym (map_twice entries)) follows))

pub taken_more : (p : Problem) (entries : List Entry) (e : Entry) (old new : CheckerView) → HasTaken p entries old → Follows p (clauses_of entries) e.lemma
    → IsReady p (clauses_of entries ++ e.lemma.lits ∷ []) new.refuter → new.atoms ≡ old.atoms → new.taken ≡ old.taken + 1 → (IsTrue new.ends_empty ↔ (e.lemma.lits ≡ []))
    → HasTaken p (entries ++ e ∷ []) new
taken_more p entries e old new taken follows ready atoms count empty = record {
  good = good_push p entries e taken.good follows;
  counted = let was = taken.counted in omega (arith, length-append entries (e ∷ []));
  empty = ((λ t. (ends_empty_push entries e).1 (empty.0 t)), (λ ends. empty.1 ((ends_empty_push entries e).0 ends)));
  refuter = subst (λ z. IsReady p z new.refuter) (sym (map-append (λ (x : Entry). x.lemma.lits) entries (e ∷ []))) ready;
  atoms = subst (λ z. AreFound p z) (sym atoms) taken.atoms;
}

-- ---- whole logs

-- a refusal of one entry is one of the log
pub refusal_at : (p : Problem) (entries : List Entry) (k : ℕ) (e : Entry) (r : Refused) → slice_get entries k ≡ Some e → IsGood p (take k entries) → IsEntryRefusal p (clauses_of (take k entries)) e r → IsRefusal p entries r
refusal_at p entries k e (BadNumber t v) at good h = entry_fails k e (BadNumber t v) at good h
refusal_at p entries k e (NotImplied t reached) at good h = entry_fails k e (NotImplied t reached) at good h
refusal_at p entries k e (BadHint t n) at good h = entry_fails k e (BadHint t n) at good h
refusal_at p entries k e (NoCycle t local global) at good h = entry_fails k e (NoCycle t local global) at good h
refusal_at p entries k e (NoEmpty n) at good h = entry_fails k e (NoEmpty n) at good h
refusal_at p entries k e OutOfMemory at good h = tt

-- the ticket of the entry that comes next, and room for it
pub next_ticket : (entries : List Entry) (i taken : ℕ) (e : Entry) → AreInOrder entries → slice_get entries i ≡ Some e → taken ≡ length (take i entries) → (e.ticket ≡ taken) × (taken < 4294967295)
next_ticket entries i taken e order at count =
    let w = slice_get_within entries i e at in
    let few = order.few in
    let long : length (take i entries) ≡ i = length-take-le i entries (omega arith) in
    let ticket = order.each i e at in
    (omega arith, omega arith)

pub taken_next : (p : Problem) (entries : List Entry) (i : ℕ) (e : Entry) (c : CheckerView) → slice_get entries i ≡ Some e → HasTaken p (take i entries ++ e ∷ []) c → HasTaken p (take (i + 1) entries) c
taken_next p entries i e c at h = subst (λ z. HasTaken p z c) (sym (ap (λ z. take z entries) (add-one i) ∙ take_one entries i e at)) h

pub taken_all : (p : Problem) (entries : List Entry) (i : ℕ) (c : CheckerView) → length entries ≤ i → HasTaken p (take i entries) c → HasTaken p entries c
taken_all p entries i c w h = subst (λ z. HasTaken p z c) (take_all i entries w) h

-- a checker that has taken nothing
pub taken_none : (p : Problem) (c : CheckerView) → IsReady p [] c.refuter → AreFound p c.atoms → c.taken ≡ 0 → c.ends_empty ≡ false → HasTaken p [] c
taken_none p c ready found count flag = record {
  good = tt;
  counted = count;
  empty = ((λ t. absurd (cc)), (λ ends. absurd (nothing_ends ends)));
  refuter = ready;
  atoms = found;
}
  where
    nothing_ends : EndsEmpty [] → ⊥
    nothing_ends ends = let long = ap length ends.parts in omega (arith, length-append ends.before (ends.last ∷ []), long)

-- a checker whose refuter alone has changed, and is ready as before
pub taken_again : (p : Problem) (entries : List Entry) (old new : CheckerView) → HasTaken p entries old → IsReady p (clauses_of entries) new.refuter → new ≡ record old { refuter = new.refuter } → HasTaken p entries new
taken_again p entries old new taken ready same =
    subst (λ (v : CheckerView). HasTaken p entries v) (sym same) (record { good = taken.good; counted = taken.counted; empty = taken.empty; refuter = ready; atoms = taken.atoms })

-- a list is empty where its length is 0
pub empty_flag : (b : Bool) (xs : List Lit) → b ≡ (length xs == 0) → IsTrue b ↔ (xs ≡ [])
empty_flag b xs e = ((λ t. nil_from_length xs (eqb-true (length xs) 0 (sym e ∙ t))), (λ h. e ∙ eq-eqb (length xs) 0 (ap length h)))
