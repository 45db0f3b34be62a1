-- Whole logs with hints.
use Rattle.std.proofs.Common.{◌≡◌, inl, inr, ℕ, suc, zero, ◌<◌, ◌≤◌, ◌+◌, ◌-◌, List, [], ◌∷◌, ◌++◌, length, get_or, take, drop, Option, Some, sym, subst, ap, ◌∙◌, add-one, arith}
use Rattle.std.specs.Prelude.{All, slice_get}
use Rattle.std.proofs.lemmas.Bool.{cases_eq}
use Rattle.std.proofs.lemmas.List.{get_or_read, take-append-drop, take-append-le, take_all}
use Rattle.std.proofs.lemmas.Option.{slice_get-get_or, slice_get_within}
use Rattle.dg_base.proofs.Lists.{get_from_map, one_answer}
use Rattle.dg_base.specs.declared.Lit.{Lit}
use Rattle.cnf_problem.specs.declared.problem.Problem.{Problem}
use Rattle.cnf_problem.specs.Literals.{IsOver}
use Rattle.lemma_log.specs.declared.Entry.{Entry}
use Rattle.lemma_log.specs.declared.hints.Hint.{Hint}
use Rattle.log_checker.specs.declared.refused.Refused.{Refused}
use Rattle.log_checker.specs.declared.refused.Refused.TheVariants.{BadHint, BadNumber, NoCycle, NoEmpty, NotImplied, OutOfMemory}
use Rattle.log_checker.specs.Goodness.{EndsEmpty, clauses_of}
use Rattle.log_checker.specs.Hints.{FollowsHinted, IsGoodHinted, hints_at}
use Rattle.log_checker.specs.Refusals.{IsHintedRefusal}
use Rattle.log_checker.specs.Refusals.HintedFails.{entry_fails, no_empty}
use Rattle.hint_checker.specs.Checking.{IsHintedEntryRefusal}
use Rattle.hint_checker.specs.Counting.{most_looks, most_looks_at, most_looks_in}
use Rattle.unit_refuter.proofs.Chaining.{take_next}
use Rattle.hint_checker.proofs.Following.{in_front}

-- the first so many entries follow by their hints
pub record AreGoodTo (p : Problem) (entries : List Entry) (hints : List (List Hint)) (n : ℕ) : Type 0 where
  pub each : (k : ℕ) (e : Entry) → k < n → slice_get entries k ≡ Some e → FollowsHinted p (clauses_of (take k entries)) e (hints_at hints k)

pub good_none : (p : Problem) (entries : List Entry) (hints : List (List Hint)) → AreGoodTo p entries hints 0
good_none p entries hints = record { each = λ k e lt at. absurd (omega arith) }

pub good_more : (p : Problem) (entries : List Entry) (hints : List (List Hint)) (n : ℕ) (e : Entry) → slice_get entries n ≡ Some e → AreGoodTo p entries hints n → FollowsHinted p (clauses_of (take n entries)) e (hints_at hints n)
    → AreGoodTo p entries hints (n + 1)
good_more p entries hints n e at good follows = record {
  each = λ k x lt there. elim (cases_eq k n) [
    | inl same ↦
        let is : x ≡ e = one_answer (slice_get entries n) x e (subst (λ j. slice_get entries j ≡ Some x) same there) at in
        subst (λ (y : Entry). FollowsHinted p (clauses_of (take k entries)) y (hints_at hints k)) (sym is) (subst (λ j. FollowsHinted p (clauses_of (take j entries)) e (hints_at hints j)) (sym same) follows)
    | inr other ↦ good.each k x (omega arith) there
  ];
}

-- a shorter front of a front
take_front : (entries : List Entry) (n k : ℕ) → k ≤ length (take n entries) → take k entries ≡ take k (take n entries)
take_front entries n k h = sym (ap (λ z. take k z) (take-append-drop n entries)) ∙ take-append-le k (take n entries) (drop n entries) h

pub good_front : (p : Problem) (entries : List Entry) (hints : List (List Hint)) (n : ℕ) → AreGoodTo p entries hints n → IsGoodHinted p (take n entries) hints
good_front p entries hints n good k e at =
    let there = in_front entries n k e at in
    let within : k < length (take n entries) = slice_get_within (take n entries) k e at in
    subst (λ z. FollowsHinted p (clauses_of z) e (hints_at hints k)) (take_front entries n k (omega arith)) (good.each k e there.0 there.1)

pub good_whole : (p : Problem) (entries : List Entry) (hints : List (List Hint)) (n : ℕ) → length entries ≤ n → AreGoodTo p entries hints n → IsGoodHinted p entries hints
good_whole p entries hints n all good k e at = let within = slice_get_within entries k e at in good.each k e (omega arith) at

-- the variables of the entries passed are the problem's
pub front_over : (p : Problem) (entries : List Entry) (hints : List (List Hint)) (n : ℕ) → AreGoodTo p entries hints n → All (All (IsOver p.vars)) (clauses_of (take n entries))
front_over p entries hints n good k d within =
    let clause = get_or (clauses_of (take n entries)) k d in
    let e = get_from_map (λ (x : Entry). x.lemma.lits) (take n entries) k clause (slice_get-get_or (clauses_of (take n entries)) k d within) in
    let there = in_front entries n k e.0 e.1 in
    subst (λ (z : List Lit). All (IsOver p.vars) z) e.2 (good.each k e.0 there.0 there.1).variables

-- a refusal of the next entry is one of the log
pub refused_at : (p : Problem) (entries : List Entry) (hints : List (List Hint)) (n : ℕ) (e : Entry) (r : Refused) → slice_get entries n ≡ Some e → AreGoodTo p entries hints n
    → IsHintedEntryRefusal p (clauses_of (take n entries)) e (hints_at hints n) r → IsHintedRefusal p entries hints r
refused_at p entries hints n e (BadNumber t v) at good h = entry_fails n e (BadNumber t v) at (good_front p entries hints n good) h
refused_at p entries hints n e (NotImplied t reached) at good h = entry_fails n e (NotImplied t reached) at (good_front p entries hints n good) h
refused_at p entries hints n e (BadHint t k) at good h = entry_fails n e (BadHint t k) at (good_front p entries hints n good) h
refused_at p entries hints n e (NoCycle t local global) at good h = entry_fails n e (NoCycle t local global) at (good_front p entries hints n good) h
refused_at p entries hints n e (NoEmpty k) at good h = entry_fails n e (NoEmpty k) at (good_front p entries hints n good) h
refused_at p entries hints n e OutOfMemory at good h = tt

pub refused_at_end : (p : Problem) (entries : List Entry) (hints : List (List Hint)) (r : Refused) → IsGoodHinted p entries hints → ¬ EndsEmpty entries → r ≡ NoEmpty (length entries) → IsHintedRefusal p entries hints r
refused_at_end p entries hints r good not is = subst (λ (x : Refused). IsHintedRefusal p entries hints x) (sym is) (no_empty good not)

-- ---- counting

pub looks_more : (p : Problem) (entries : List Entry) (hints : List (List Hint)) (n : ℕ) (e : Entry) → slice_get entries n ≡ Some e
    → most_looks_in p entries hints (n + 1) ≡ most_looks_in p entries hints n + most_looks e.lemma.kind p (clauses_of (take n entries)) e.lemma.lits (hints_at hints n)
looks_more p entries hints n e at =
    ap (λ k. most_looks_in p entries hints k) (add-one n) ∙ ap (λ (o : Option Entry). most_looks_in p entries hints n + most_looks_at p entries hints n o) at

pub looks_rise : (p : Problem) (entries : List Entry) (hints : List (List Hint)) (k n : ℕ) → k ≤ n → most_looks_in p entries hints k ≤ most_looks_in p entries hints n
looks_rise p entries hints k zero h = let none : k ≡ 0 = omega arith in subst (λ j. most_looks_in p entries hints j ≤ most_looks_in p entries hints 0) (sym none) (omega arith)
looks_rise p entries hints k (suc n) h =
    elim (cases_eq k (suc n)) [
      | inl same ↦ subst (λ j. most_looks_in p entries hints j ≤ most_looks_in p entries hints (suc n)) (sym same) (omega arith)
      | inr other ↦ let r = looks_rise p entries hints k n (omega arith) in omega (arith, r)
    ]

-- ---- reading a log

-- the hints that were read at a place are those of the entry there
pub hints_read : (hints items : List (List Hint)) (item got : List Hint) (i : ℕ) → items ≡ hints → i < length hints → item ≡ get_or items i item → got ≡ item → got ≡ hints_at hints i
hints_read hints items item got i same within is was = was ∙ get_or_read hints i item within (subst (λ z. item ≡ get_or z i item) same is) []

-- the last entry, and those before it
pub last_parts : (entries : List Entry) (e : Entry) → slice_get entries (length entries - 1) ≡ Some e → entries ≡ take (length entries - 1) entries ++ e ∷ []
last_parts entries e at = sym (take_all (suc (length entries - 1)) entries (omega arith)) ∙ take_next entries (length entries - 1) e at
