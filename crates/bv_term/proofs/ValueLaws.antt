-- The values of terms, one behind another.
use Rattle.std.proofs.Common.{◌≡◌, ℕ, zero, suc, ◌+◌, ◌^◌, ◌<◌, List, [], ◌∷◌, ◌++◌, length, get_or, refl, ap, sym, ◌∙◌, subst, arith, Some}
use Rattle.std.specs.Prelude.{slice_get}
use Rattle.std.proofs.lemmas.List.{get_or_append_left, length_push, get_or_push, append_assoc, append-nil}
use Rattle.std.proofs.lemmas.Option.{slice_get_within, get_or_from_slice_get}
use Rattle.dg_base.proofs.Fits.{operator_fits}
use Rattle.dg_base.specs.Values.{operator}
use Rattle.bv_term.specs.declared.term.TermId.{TermId}
use Rattle.bv_term.specs.declared.term.Term.{Term}
use Rattle.bv_term.specs.declared.term.Term.TheVariants.{Input, Constant, Apply}
use Rattle.bv_term.specs.Values.{IsListed, IsBehind, AreTerms, AreWords, value_behind, values_from, value, Grows}
use Rattle.bv_term.specs.Laws.{value_by}

-- the values of further terms stand behind those of the others
pub values-append : (inputs : ℕ → ℕ) (before : List ℕ) (xs ys : List Term) → values_from inputs before (xs ++ ys) ≡ values_from inputs (values_from inputs before xs) ys
values-append inputs before [] ys = refl
values-append inputs before (x ∷ xs) ys = values-append inputs (before ++ value_behind inputs before x ∷ []) xs ys

-- there is one value for each term
pub length-values : (inputs : ℕ → ℕ) (before : List ℕ) (xs : List Term) → length (values_from inputs before xs) ≡ length before + length xs
length-values inputs before [] = omega arith
length-values inputs before (x ∷ xs) =
    let rest = length-values inputs (before ++ value_behind inputs before x ∷ []) xs in
    let one = length_push before (value_behind inputs before x) in
    omega arith

-- a value stays as terms are added
values_keep : (inputs : ℕ → ℕ) (before : List ℕ) (xs : List Term) (k : ℕ) → k < length before → get_or (values_from inputs before xs) k 0 ≡ get_or before k 0
values_keep inputs before [] k h = refl
values_keep inputs before (x ∷ xs) k h =
    let one = length_push before (value_behind inputs before x) in
    values_keep inputs (before ++ value_behind inputs before x ∷ []) xs k (omega arith)
    ∙ get_or_append_left before (value_behind inputs before x ∷ []) 0 k h

-- older terms keep their values
pub value-append : (inputs : ℕ → ℕ) (xs ys : List Term) (t : TermId) → IsListed xs t → value inputs (xs ++ ys) t ≡ value inputs xs t
unfolding value
value-append inputs xs ys t h =
    let all = length-values inputs [] xs in
    ap (λ vs. get_or vs t.0 0) (values-append inputs [] xs ys)
    ∙ values_keep inputs (values_from inputs [] xs) ys t.0 (omega arith)

-- the terms with more behind them
pub grows_by : (xs ys zs : List Term) → zs ≡ xs ++ ys → Grows xs zs
grows_by xs ys zs e = record {
  added = ys;
  terms = e;
  kept = λ inputs t h. subst (λ z. value inputs z t ≡ value inputs xs t) (sym e) (value-append inputs xs ys t h);
}

-- the terms as they are
pub grows_self : (xs ys : List Term) → ys ≡ xs → Grows xs ys
grows_self xs ys e = grows_by xs [] ys (e ∙ sym (append-nil xs))

-- what grows in two steps grows
pub grows_steps : (xs ys zs : List Term) → Grows xs ys → Grows ys zs → Grows xs zs
grows_steps xs ys zs first second =
    grows_by xs (first.added ++ second.added) zs
    (second.terms ∙ ap (λ l. l ++ second.added) first.terms ∙ append_assoc xs first.added second.added)

-- the value of the next term
pub value-next : (inputs : ℕ → ℕ) (xs : List Term) (x : Term) (t : TermId) → t.0 ≡ length xs
    → value inputs (xs ++ x ∷ []) t ≡ value_behind inputs (values_from inputs [] xs) x
unfolding value
value-next inputs xs x t e =
    let all = length-values inputs [] xs in
    ap (λ vs. get_or vs t.0 0) (values-append inputs [] xs (x ∷ []))
    ∙ get_or_push (values_from inputs [] xs) (value_behind inputs (values_from inputs [] xs) x) 0 t.0 (omega arith)

-- the value of a term by what it is, from all values
abbrev by_values : (ℕ → ℕ) → List ℕ → ℕ → Term → ℕ
by_values inputs vs k Input = inputs k
by_values inputs vs k (Constant v) = v
by_values inputs vs k (Apply op a b c) = operator op (get_or vs a.0 0) (get_or vs b.0 0) (get_or vs c.0 0)

-- for the values before a term one may take all values
behind_by : (inputs : ℕ → ℕ) (before : List ℕ) (xs : List Term) (x : Term) → IsBehind (length before) x
    → value_behind inputs before x ≡ by_values inputs (values_from inputs before xs) (length before) x
behind_by inputs before xs Input h = refl
behind_by inputs before xs (Constant v) h = refl
behind_by inputs before xs (Apply op a b c) h =
    let p = values_keep inputs before xs a.0 h.0 in
    let q = values_keep inputs before xs b.0 h.1 in
    let r = values_keep inputs before xs c.0 h.2 in
    cc (p, q, r)

-- the value at each place
value_at : (inputs : ℕ → ℕ) (before : List ℕ) (xs : List Term) (n : ℕ) (term : Term) → slice_get xs n ≡ Some term → IsBehind (length before + n) term
    → get_or (values_from inputs before xs) (length before + n) 0 ≡ by_values inputs (values_from inputs before xs) (length before + n) term
value_at inputs before [] n term e h = cc
value_at inputs before (x ∷ xs) zero term e h =
    let same : x ≡ term = cc in
    let v = value_behind inputs before x in
    let here : length before + 0 ≡ length before = omega arith in
    let long = length_push before v in
    let at : get_or (values_from inputs before (x ∷ xs)) (length before) 0 ≡ v =
    values_keep inputs (before ++ v ∷ []) xs (length before) (omega arith) ∙ get_or_push before v 0 (length before) refl in
    rw (here, ← same) (at ∙ behind_by inputs before (x ∷ xs) x (rw (same, ← here) h))
value_at inputs before (x ∷ xs) (suc n) term e h =
    let v = value_behind inputs before x in
    let long = length_push before v in
    let there : length (before ++ v ∷ []) + n ≡ length before + suc n = omega arith in
    let P : ℕ → Type 0 = λ k. get_or (values_from inputs before (x ∷ xs)) k 0 ≡ by_values inputs (values_from inputs before (x ∷ xs)) k term in
    subst P there (value_at inputs (before ++ v ∷ []) xs n term e (subst (λ k. IsBehind k term) (sym there) h))

-- each term has the value that follows from what it is
pub value_by_term : (terms : List Term) (inputs : ℕ → ℕ) (t : TermId) (term : Term) → AreTerms terms → slice_get terms t.0 ≡ Some term
    → value inputs terms t ≡ value_by inputs terms t term
unfolding value
value_by_term terms inputs t term are e =
    let within = slice_get_within terms t.0 term e in
    let behind : IsBehind t.0 term = subst (λ x. IsBehind t.0 x) (get_or_from_slice_get terms t.0 term Input e) (are t.0 within) in
    let here : 0 + t.0 ≡ t.0 = omega arith in
    let P : ℕ → Type 0 = λ k. get_or (values_from inputs [] terms) k 0 ≡ by_values inputs (values_from inputs [] terms) k term in
    subst P here (value_at inputs [] terms t.0 term e (subst (λ k. IsBehind k term) (sym here) behind)) ∙ own term
  where
    own : (x : Term) → by_values inputs (values_from inputs [] terms) t.0 x ≡ value_by inputs terms t x
    own Input = refl
    own (Constant v) = refl
    own (Apply op a b c) = refl

-- values that fit 32 bits
abbrev Fit : List ℕ → Type 0
Fit vs = (k : ℕ) → get_or vs k 0 < 2 ^ 32

fit_push : (vs : List ℕ) (v : ℕ) → Fit vs → v < 2 ^ 32 → Fit (vs ++ v ∷ [])
fit_push [] v all h zero = h
fit_push [] v all h (suc k) = omega arith
fit_push (x ∷ xs) v all h zero = all 0
fit_push (x ∷ xs) v all h (suc k) = fit_push xs v (λ k. all (suc k)) h k

fit_behind : (inputs : ℕ → ℕ) (before : List ℕ) (x : Term) → AreWords inputs → Fit before → IsBehind (length before) x → value_behind inputs before x < 2 ^ 32
fit_behind inputs before Input words all h = words (length before)
fit_behind inputs before (Constant v) words all h = h
fit_behind inputs before (Apply op a b c) words all h = operator_fits op (get_or before a.0 0) (get_or before b.0 0) (get_or before c.0 0) (all a.0) (all b.0) (all c.0)

fit_from : (inputs : ℕ → ℕ) (before : List ℕ) (xs : List Term) → AreWords inputs → Fit before
    → ((n : ℕ) → n < length xs → IsBehind (length before + n) (get_or xs n Input)) → Fit (values_from inputs before xs)
fit_from inputs before [] words all are = all
fit_from inputs before (x ∷ xs) words all are =
    let v = value_behind inputs before x in
    let long = length_push before v in
    let here : length before + 0 ≡ length before = omega arith in
    let first : IsBehind (length before) x = subst (λ k. IsBehind k x) here (are 0 (omega arith)) in
    fit_from inputs (before ++ v ∷ []) xs words (fit_push before v all (fit_behind inputs before x words all first))
    (λ n h. let there : length before + suc n ≡ length (before ++ v ∷ []) + n = omega arith in
    subst (λ k. IsBehind k (get_or xs n Input)) there (are (suc n) (omega arith)))

-- values fit 32 bits where the inputs do
pub value_fits : (terms : List Term) (inputs : ℕ → ℕ) (t : TermId) → AreTerms terms → AreWords inputs → value inputs terms t < 2 ^ 32
unfolding value
value_fits terms inputs t are words =
    fit_from inputs [] terms words (λ k. omega arith)
    (λ n h. let here : n ≡ 0 + n = omega arith in subst (λ k. IsBehind k (get_or terms n Input)) here (are n h)) t.0
