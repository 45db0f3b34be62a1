-- What a reader concludes from the words of a row.
use Rattle.std.proofs.Common.{◌≡◌, ℕ, zero, suc, ◌+◌, ◌-◌, ◌*◌, ◌/◌, ◌%◌, ◌<◌, ◌≤◌, List, [], ◌∷◌, ◌++◌, length, take, get_or, refl, ap, sym, ◌∙◌, subst, arith, Some, slice_get}
use Rattle.std.specs.Prelude.{Contains}
use Rattle.std.proofs.lemmas.List.{length-append}
use Rattle.std.proofs.lemmas.Option.{same_Some}
use Rattle.dg_base.proofs.Lists.{get_append_front, get_nothing, contains_head, contains_tail}
use Rattle.dg_base.specs.declared.Lit.{Lit}
use Rattle.clause_exchange.specs.declared.rule.Received.{Received}
use Rattle.clause_exchange.specs.declared.rule.RowView.{RowView}
use Rattle.clause_exchange.specs.Spelling.{spelled, spelled_entry, spelled_lits}
use Rattle.clause_exchange.specs.Steps.{IsAt}
use Rattle.clause_exchange.proofs.Listed.{spelled_append}

get_behind : {X : Type 0} (xs ys : List X) (i : ℕ) → slice_get (xs ++ ys) (length xs + i) ≡ slice_get ys i
get_behind [] ys i = ap (λ n. slice_get ys n) (omega arith)
get_behind (x ∷ xs) ys i = ap (λ n. slice_get (x ∷ xs ++ ys) n) (later (length xs) i) ∙ get_behind xs ys i
  where
    later : (n i : ℕ) → suc n + i ≡ suc (n + i)
    later n i = omega arith

contains_middle : {X : Type 0} (xs ys : List X) (x : X) → Contains (xs ++ x ∷ ys) x
contains_middle [] ys x = contains_head x ys
contains_middle (z ∷ zs) ys x = contains_tail z x (zs ++ x ∷ ys) (contains_middle zs ys x)

module _ (r : RowView) (h : Received) (i : ℕ) (at : IsAt r h i) where
  words : spelled r.known ≡ spelled at.before ++ (spelled_entry h ++ spelled at.later)
  words = ap spelled at.all ∙ spelled_append at.before (h ∷ at.later)

  pub entry_known : Contains r.known h
  entry_known = subst (λ hs. Contains hs h) (sym at.all) (contains_middle at.before at.later h)

  -- the rest of the entry lies below what is known
  pub rest_below : i ≤ length (spelled_entry h) → r.loaded + (length (spelled_entry h) - i) ≤ length (spelled r.known)
  rest_below le =
      let a = ap length words in
      let b = length-append (spelled at.before) (spelled_entry h ++ spelled at.later) in
      let c = length-append (spelled_entry h) (spelled at.later) in
      let d = at.place in
      omega arith

  -- the word is the entry's
  pub word_of_entry : (w : ℕ) → i < length (spelled_entry h) → slice_get (spelled r.known) r.loaded ≡ Some w → slice_get (spelled_entry h) i ≡ Some w
  word_of_entry w lt found =
      sym (get_append_front (spelled_entry h) (spelled at.later) i lt)
      ∙ sym (get_behind (spelled at.before) (spelled_entry h ++ spelled at.later) i)
      ∙ ap (λ n. slice_get (spelled at.before ++ (spelled_entry h ++ spelled at.later)) n) (sym at.place)
      ∙ ap (λ ws. slice_get ws r.loaded) (sym words)
      ∙ found

-- the head word
pub head_told : (t l w : ℕ) → l ≤ 32 → 64 * t + l ≡ w → (w / 64 ≡ t) × (w % 64 ≡ l)
head_told t l w few is = (omega arith, omega arith)

-- two codes in a word
two_codes : (a b w : ℕ) → a < 4294967296 → a + 4294967296 * b ≡ w → (w % 4294967296 ≡ a) × (w / 4294967296 ≡ b)
two_codes a b w small is = (omega arith, omega arith)

one_code : (a w : ℕ) → a < 4294967296 → a ≡ w → w % 4294967296 ≡ a
one_code a w small is = omega arith

abbrev pub no_lit : Lit
no_lit = record { 0 = 0 }

-- the word spells the two literals at its place
pub lits_told : (lits : List Lit) (i w : ℕ) → ((l : Lit) → Contains lits l → l.0 < 4294967296) → slice_get (spelled_lits lits) i ≡ Some w
    → (w % 4294967296 ≡ (get_or lits (2 * i) no_lit).0) × (2 * i + 1 < length lits → w / 4294967296 ≡ (get_or lits (2 * i + 1) no_lit).0) × (w / 4294967296 < 4294967296)
lits_told [] i w codes found = absurd (get_nothing i w found)
lits_told (x ∷ []) zero w codes found =
    let small = codes x (contains_head x []) in
    let is : x.0 ≡ w = same_Some x.0 w found in
    (one_code x.0 w small is, (λ lt. absurd (omega arith)), omega arith)
lits_told (x ∷ []) (suc i) w codes found = absurd (get_nothing i w found)
lits_told (x ∷ y ∷ rest) zero w codes found =
    let small = codes x (contains_head x (y ∷ rest)) in
    let small2 = codes y (contains_tail x y (y ∷ rest) (contains_head y rest)) in
    let t = two_codes x.0 y.0 w small (same_Some (x.0 + 4294967296 * y.0) w found) in
    (t.0, (λ lt. t.1), (let q = t.1 in omega arith))
lits_told (x ∷ y ∷ rest) (suc i) w codes found =
    let r = lits_told rest i w (λ l c. codes l (contains_tail x l (y ∷ rest) (contains_tail y l rest c))) found in (
      r.0 ∙ ap (λ n. (get_or (x ∷ y ∷ rest) n no_lit).0) (twice i),
      (λ lt. r.1 (omega arith) ∙ ap (λ n. (get_or (x ∷ y ∷ rest) n no_lit).0) (once i)),
      r.2,
    )
  where
    twice : (i : ℕ) → suc (suc (2 * i)) ≡ 2 * suc i
    twice i = omega arith

    once : (i : ℕ) → suc (suc (2 * i + 1)) ≡ 2 * suc i + 1
    once i = omega arith

-- lists with the same codes in their places
pub same_lits : (n : ℕ) (xs ys : List Lit) → length ys ≡ n → n ≤ length xs → ((k : ℕ) → k < n → (get_or xs k no_lit).0 ≡ (get_or ys k no_lit).0) → take n xs ≡ ys
same_lits n xs [] e le same = subst (λ m. take m xs ≡ []) e refl
same_lits n [] (y ∷ ys) e le same = absurd (omega arith)
same_lits n (x ∷ xs) (y ∷ ys) e le same =
    let rest = same_lits (length ys) xs ys refl (omega arith) (λ k lt. same (suc k) (omega arith)) in
    let first : x ≡ y = same_code_lit x y (same 0 (omega arith)) in
    ap (λ m. take m (x ∷ xs)) (sym e) ∙ (ap (λ z. z ∷ take (length ys) xs) first ∙ ap (λ zs. y ∷ zs) rest)
  where
    same_code_lit : (x y : Lit) → x.0 ≡ y.0 → x ≡ y
    same_code_lit x y q = λ j. record { 0 = q j }
