-- Along a chain of hints.
use Rattle.std.proofs.Common.{◌≡◌, ◌≢◌, inl, inr, ℕ, suc, zero, ◌<◌, ◌≤◌, ◌+◌, List, [], ◌∷◌, ◌++◌, map, length, take, drop, Some, refl, sym, subst, ap, ◌∙◌, add-one, arith}
use Rattle.std.specs.Prelude.{All, Contains, slice_get, sum_by}
use Rattle.std.specs.List.Sorted.{IsStrictlyIncreasing}
use Rattle.std.proofs.lemmas.List.{append_assoc, length-append, length-map, length-take, map-append, take-append-drop}
use Rattle.std.proofs.lemmas.List.Elements.{All-contains, Contains-append_left, Contains-append_right}
use Rattle.std.proofs.lemmas.List.Sums.{sum_by-append, sum_by-cons, sum_by_push}
use Rattle.std.proofs.lemmas.List.Kept.{AllPairs-from_increasing}
use Rattle.std.proofs.lemmas.Option.{get_or_from_slice_get, slice_get_within}
use Rattle.dg_base.proofs.Lists.{contains_cases, contains_from_map, contains_head, contains_place, contains_tail, get_append_left, get_map, get_nothing, place_of}
use Rattle.dg_base.specs.declared.Lit.{Lit}
use Rattle.cnf_problem.specs.declared.problem.Problem.{Problem}
use Rattle.cnf_problem.specs.Literals.{IsOver, negated, var}
use Rattle.cnf_problem.specs.Chains.{IsUnassigned}
use Rattle.cnf_problem.specs.Laws.{IsWithin}
use Rattle.cnf_problem.proofs.ChainLaws.{all_false_more, others_false_more, within_cons}
use Rattle.cnf_problem.proofs.LiteralLaws.{var-negated}
use Rattle.lemma_log.specs.declared.hints.Hint.{Hint}
use Rattle.lemma_log.specs.declared.hints.Hint.TheVariants.{Clause, Ticket}
use Rattle.log_checker.specs.Hints.{AreRight, Gives, GoesWrong, IsRightLast, IsRightNext, named}
use Rattle.log_checker.specs.Hints.AreRight.{last, next}
use Rattle.log_checker.specs.Hints.GoesWrong.{none, at_last, at_next, later}
use Rattle.unit_refuter.proofs.Chaining.{take_next}
use Rattle.trail_state.specs.Trails.{Assigned, lit_of, true_lits}
use Rattle.hint_checker.specs.Counting.{literals_named, literals_of_hints}
use Rattle.hint_checker.specs.Findings.{IsFindingAt}
use Rattle.hint_checker.specs.declared.look.Finding.{Finding}
use Rattle.hint_checker.specs.declared.look.Finding.TheVariants.{False, Gives as Giving, Neither}
use Rattle.hint_checker.proofs.Looks.{push_cases}

-- ---- sets with the same members

pub record AreSame (xs ys : List Lit) : Type 0 where
  pub there : IsWithin xs ys
  pub back : IsWithin ys xs

same_more : (x : Lit) (xs ys : List Lit) → AreSame xs ys → AreSame (x ∷ xs) (x ∷ ys)
same_more x xs ys s = record { there = within_cons x xs ys s.there; back = within_cons x ys xs s.back }

other_way : (xs ys : List Lit) → AreSame xs ys → AreSame ys xs
other_way xs ys s = record { there = s.back; back = s.there }

-- one more at the end, or in front
pub same_pushed : (xs : List Lit) (x : Lit) → AreSame (xs ++ x ∷ []) (x ∷ xs)
same_pushed xs x = record {
  there = λ y c. elim (push_cases xs x y c) [ inl d ↦ contains_tail x y xs d | inr e ↦ subst (λ z. Contains (x ∷ xs) z) (sym e) (contains_head x xs) ];
  back = λ y c. elim (contains_cases x y xs c) [
    | inl e ↦ subst (λ z. Contains (xs ++ x ∷ []) z) (sym e) (Contains-append_right xs (x ∷ []) x (contains_head x []))
    | inr d ↦ Contains-append_left xs (x ∷ []) y d
  ];
}

gives_same : (xs ys clause : List Lit) (l : Lit) → AreSame xs ys → Gives xs clause l → Gives ys clause l
gives_same xs ys clause l s gives = record {
  has = gives.has;
  free = ((λ c. gives.free.0 (s.back l c)), (λ c. gives.free.1 (s.back (negated l) c)));
  others = others_false_more xs ys clause l s.there gives.others;
}

next_same : (p : Problem) (before : List (List Lit)) (xs ys : List Lit) (h : Hint) (l : Lit) → AreSame xs ys → IsRightNext p before xs h l → IsRightNext p before ys h l
next_same p before xs ys h l s r = record { clause = r.clause; is = r.is; gives = gives_same xs ys r.clause l s r.gives }

last_same : (p : Problem) (before : List (List Lit)) (xs ys : List Lit) (h : Hint) → AreSame xs ys → IsRightLast p before xs h → IsRightLast p before ys h
last_same p before xs ys h s r = record { clause = r.clause; is = r.is; false = all_false_more xs ys r.clause s.there r.false }

-- hints are right, or go wrong, by the members of the set alone
pub right_same : {p : Problem} {before : List (List Lit)} {xs : List Lit} {hints : List Hint} (ys : List Lit) → AreSame xs ys → AreRight p before xs hints → AreRight p before ys hints
right_same {xs = xs} ys s (last h clause is false) = last h clause is (all_false_more xs ys clause s.there false)
right_same {xs = xs} ys s (next h clause l is gives rest) = next h clause l is (gives_same xs ys clause l s gives) (right_same (l ∷ ys) (same_more l xs ys s) rest)

pub wrong_same : {p : Problem} {before : List (List Lit)} {xs : List Lit} {hints : List Hint} {n : ℕ} (ys : List Lit) → AreSame xs ys → GoesWrong p before xs hints n → GoesWrong p before ys hints n
wrong_same ys s none = none
wrong_same {p = p} {before = before} {xs = xs} ys s (at_last h not) = at_last h (λ r. not (last_same p before ys xs h (other_way xs ys s) r))
wrong_same {p = p} {before = before} {xs = xs} ys s (at_next h hints some not) = at_next h hints some (λ l r. not l (next_same p before ys xs h l (other_way xs ys s) r))
wrong_same {p = p} {before = before} {xs = xs} ys s (later h hints l n some right wrong) = later h hints l n some (next_same p before xs ys h l s right) (wrong_same (l ∷ ys) (same_more l xs ys s) wrong)

-- ---- the hints passed

-- from the start, these hints lead to this set: hints that are right or go wrong from it do so behind these
pub record IsRightSoFar (p : Problem) (before : List (List Lit)) (start : List Lit) (done : List Hint) (set : List Lit) : Type 0 where
  pub right : (rest : List Hint) → AreRight p before set rest → AreRight p before start (done ++ rest)
  pub wrong : (rest : List Hint) (n : ℕ) → rest ≢ [] → GoesWrong p before set rest n → GoesWrong p before start (done ++ rest) (length done + n)

pub nothing_done : (p : Problem) (before : List (List Lit)) (start set : List Lit) → set ≡ start → IsRightSoFar p before start [] set
nothing_done p before start set e = record {
  right = λ rest r. subst (λ s. AreRight p before s rest) e r;
  wrong = λ rest n some w.
      let n_is : n ≡ 0 + n = omega arith in
      subst (λ k. GoesWrong p before start rest k) n_is (subst (λ s. GoesWrong p before s rest n) e w);
}

-- one more right hint
pub one_more : (p : Problem) (before : List (List Lit)) (start set more : List Lit) (done : List Hint) (h : Hint) (l : Lit) → IsRightNext p before set h l → more ≡ set ++ l ∷ []
    → IsRightSoFar p before start done set → IsRightSoFar p before start (done ++ h ∷ []) more
one_more p before start set more done h l r is so_far = record {
  right = λ rest a.
      let here : AreRight p before (l ∷ set) rest = right_same (l ∷ set) (same_pushed set l) (subst (λ s. AreRight p before s rest) is a) in
      subst (λ hs. AreRight p before start hs) (sym (append_assoc done (h ∷ []) rest)) (so_far.right (h ∷ rest) (next h r.clause l r.is r.gives here));
  wrong = λ rest n some w.
      let here : GoesWrong p before (l ∷ set) rest n = wrong_same (l ∷ set) (same_pushed set l) (subst (λ s. GoesWrong p before s rest n) is w) in
      let nonempty : (h ∷ rest) ≢ [] = λ e. cc in
      let whole = so_far.wrong (h ∷ rest) (suc n) nonempty (later h rest l n some r here) in
      let count : length done + suc n ≡ length (done ++ h ∷ []) + n = omega (arith, length-append done (h ∷ [])) in
      subst (λ k. GoesWrong p before start ((done ++ h ∷ []) ++ rest) k) count
      (subst (λ hs. GoesWrong p before start hs (length done + suc n)) (sym (append_assoc done (h ∷ []) rest)) whole);
}

-- the next hint but the last is wrong, or the last one is, or all are right
pub wrong_next : (p : Problem) (before : List (List Lit)) (start set : List Lit) (done rest hints : List Hint) (h : Hint) (n : ℕ) → IsRightSoFar p before start done set → done ++ h ∷ rest ≡ hints → rest ≢ []
    → ((l : Lit) → ¬ IsRightNext p before set h l) → n ≡ length done + 1 → GoesWrong p before start hints n
wrong_next p before start set done rest hints h n so_far parts some not is =
    let nonempty : (h ∷ rest) ≢ [] = λ e. cc in
    subst (λ k. GoesWrong p before start hints k) (sym is) (subst (λ hs. GoesWrong p before start hs (length done + 1)) parts (so_far.wrong (h ∷ rest) 1 nonempty (at_next h rest some not)))

pub wrong_last : (p : Problem) (before : List (List Lit)) (start set : List Lit) (done hints : List Hint) (h : Hint) (n : ℕ) → IsRightSoFar p before start done set → done ++ h ∷ [] ≡ hints
    → ¬ IsRightLast p before set h → n ≡ length done + 1 → GoesWrong p before start hints n
wrong_last p before start set done hints h n so_far parts not is =
    let nonempty : (h ∷ []) ≢ [] = λ e. cc in
    subst (λ k. GoesWrong p before start hints k) (sym is) (subst (λ hs. GoesWrong p before start hs (length done + 1)) parts (so_far.wrong (h ∷ []) 1 nonempty (at_last h not)))

pub right_last : (p : Problem) (before : List (List Lit)) (start set : List Lit) (done hints : List Hint) (h : Hint) → IsRightSoFar p before start done set → done ++ h ∷ [] ≡ hints → IsRightLast p before set h → AreRight p before start hints
right_last p before start set done hints h so_far parts r = subst (λ hs. AreRight p before start hs) parts (so_far.right (h ∷ []) (last h r.clause r.is r.false))

-- a hint is not right in both ways
pub next_not_last : (p : Problem) (before : List (List Lit)) (set : List Lit) (h : Hint) (l : Lit) → IsRightNext p before set h l → ¬ IsRightLast p before set h
next_not_last p before set h l gives false =
    let both : Some gives.clause ≡ Some false.clause = sym gives.is ∙ false.is in
    let same : gives.clause ≡ false.clause = cc in
    gives.gives.free.1 (false.false l (subst (λ c. Contains c l) same gives.gives.has))

-- ---- variables

-- the clause that a hint names is over the variables of the problem's clauses and of the others
pub named_over : (p : Problem) (before : List (List Lit)) (h : Hint) (clause : List Lit) → All (All (IsOver p.vars)) before → named p before h ≡ Some clause → All (IsOver p.vars) clause
named_over p before (Clause zero) clause over is = cc
named_over p before (Clause (suc n)) clause over is = All-contains (All (IsOver p.vars)) p.clauses clause p.over.each_literal (contains_place p.clauses n clause is)
named_over p before (Ticket t) clause over is = All-contains (All (IsOver p.vars)) before clause over (contains_place before t clause is)

-- what is in a list's front is in the list, at a lower place
pub in_front : {X : Type 0} (xs : List X) (n k : ℕ) (x : X) → slice_get (take n xs) k ≡ Some x → (k < n) × (slice_get xs k ≡ Some x)
in_front xs n k x e =
    let within = slice_get_within (take n xs) k x e in
    (omega (arith, length-take n xs), subst (λ z. slice_get z k ≡ Some x) (take-append-drop n xs) (get_append_left (take n xs) (drop n xs) k x e))

-- where the variables rise, the next negation is of another variable than those before it
pub next_free : (lits : List Lit) (n : ℕ) (l : Lit) → IsStrictlyIncreasing (map var lits) → slice_get lits n ≡ Some l → IsUnassigned (map negated (take n lits)) (negated l)
next_free lits n l rising at = ((λ c. other (negated l) c (var-negated l)), (λ c. other (negated (negated l)) c (var-negated (negated l) ∙ var-negated l)))
  where
    other : (x : Lit) → Contains (map negated (take n lits)) x → var x ≡ var l → ⊥
    other x c same =
        let m = contains_from_map negated (take n lits) x c in
        let k = place_of (take n lits) m.0 m.1 in
        let there = in_front lits n k.0 m.0 k.1 in
        let is : var x ≡ var m.0 = ap var m.2 ∙ var-negated m.0 in
        let here = get_or_from_slice_get (map var lits) n (var l) 0 (get_map var lits n l at) in
        let lower = get_or_from_slice_get (map var lits) k.0 (var m.0) 0 (get_map var lits k.0 m.0 there.1) in
        let within : n < length (map var lits) = subst (λ z. n < z) (sym (length-map lits var)) (slice_get_within lits n l at) in
        let rise = AllPairs-from_increasing (map var lits) rising k.0 n 0 there.0 within in
        omega arith

-- one more of a list's front
pub front_next : {X : Type 0} (xs : List X) (n : ℕ) (x : X) → slice_get xs n ≡ Some x → take (n + 1) xs ≡ take n xs ++ x ∷ []
front_next xs n x at = ap (λ k. take k xs) (add-one n) ∙ take_next xs n x at

pub denied_next : (lits : List Lit) (n : ℕ) (l : Lit) → slice_get lits n ≡ Some l → map negated (take (n + 1) lits) ≡ map negated (take n lits) ++ negated l ∷ []
denied_next lits n l at = ap (λ z. map negated z) (front_next lits n l at) ∙ map-append negated (take n lits) (l ∷ [])

-- ---- what a look at a hint tells

pub not_next : (p : Problem) (before : List (List Lit)) (set : List Lit) (h : Hint) (f : Finding) → IsFindingAt p before set h f → ((l : Lit) → f ≡ Giving l → ⊥) → (l : Lit) → ¬ IsRightNext p before set h l
not_next p before set h False found not l right = next_not_last p before set h l right found
not_next p before set h (Giving m) found not l right = not m refl
not_next p before set h Neither found not l right = found.1 l right

pub not_last : (p : Problem) (before : List (List Lit)) (set : List Lit) (h : Hint) (f : Finding) → IsFindingAt p before set h f → (f ≡ False → ⊥) → ¬ IsRightLast p before set h
not_last p before set h False found not right = not refl
not_last p before set h (Giving m) found not right = next_not_last p before set h m found right
not_last p before set h Neither found not right = found.0 right

-- a literal that a hint gives is over the problem's variables
pub next_over : (p : Problem) (before : List (List Lit)) (set : List Lit) (h : Hint) (l : Lit) → All (All (IsOver p.vars)) before → IsRightNext p before set h l → IsOver p.vars l
next_over p before set h l over r = All-contains (IsOver p.vars) r.clause l (named_over p before h r.clause over r.is) r.gives.has

-- a list at a place
pub split_at : {X : Type 0} (xs ys : List X) (n : ℕ) (x : X) → slice_get xs n ≡ Some x → take n xs ++ x ∷ (drop (suc n) xs ++ ys) ≡ xs ++ ys
split_at [] ys n x at = absurd (get_nothing n x at)
split_at (z ∷ zs) ys zero x at = let same : x ≡ z = cc in ap (λ y. y ∷ (zs ++ ys)) same
split_at (z ∷ zs) ys (suc n) x at = ap (λ l. z ∷ l) (split_at zs ys n x at)

pub push_not_nil : {X : Type 0} (xs : List X) (x : X) → (xs ++ x ∷ []) ≢ []
push_not_nil xs x e = let long = ap length e in omega (arith, length-append xs (x ∷ []), long)

pub one_longer : (es more : List Assigned) (l : Lit) → true_lits more ≡ true_lits es ++ l ∷ [] → length more ≡ length es + 1
one_longer es more l e = let long = ap length e in omega (arith, length-map es lit_of, length-map more lit_of, long, length-append (true_lits es) (l ∷ []))

-- ---- counting

pub looks_next : (p : Problem) (before : List (List Lit)) (done : List Hint) (h : Hint) → literals_of_hints p before (done ++ h ∷ []) ≡ literals_of_hints p before done + literals_named p before h
looks_next p before done h = sum_by_push (λ (k : Hint). literals_named p before k) done h

pub looks_within : (p : Problem) (before : List (List Lit)) (done rest hints : List Hint) (h : Hint) → done ++ h ∷ rest ≡ hints → literals_of_hints p before done + literals_named p before h ≤ literals_of_hints p before hints
looks_within p before done rest hints h parts =
    let f : Hint → ℕ = λ k. literals_named p before k in
    let whole : sum_by f (done ++ h ∷ rest) ≡ sum_by f hints = ap (λ hs. sum_by f hs) parts in
    omega (arith, whole, sum_by-append f done (h ∷ rest), sum_by-cons f h rest)
