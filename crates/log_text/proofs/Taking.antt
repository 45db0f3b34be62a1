-- Reading words up to a `0` in turn: what was read, with what the rest holds, is what the text holds.
use Rattle.std.proofs.Common.{◌≡◌, ℕ, ◌<◌, ◌≤◌, Bool, true, false, ◌&&◌, cond, eqb, nat_lt, List, [], ◌∷◌, ◌++◌, drop, Option, Some, None, refl, ap, sym, ◌∙◌, append_assoc, append-nil, arith, lt-ltb, ltb-true, eq-eqb}
use Rattle.dg_base.specs.declared.Lit.{Lit}
use Rattle.cnf_problem.specs.Literals.{var}
use Rattle.line_text.specs.Words.{Cut, front_word, given, next_word, number_in, opens, place, words_behind}
use Rattle.line_text.proofs.Worded.{next_words, no_words, rest_opens, words_rest}
use Rattle.lemma_log.specs.declared.hints.Hint.{Hint}
use Rattle.log_text.specs.Lines.{Opening, Upto, hint_in, hints_from, is_zero, kind_in, lit_in, lits_from, opening_by, opening_in, push_front, worker_in}

-- values in front of those that are read
abbrev pub before : {A : Type 0} → List A → Option (Upto A) → Option (Upto A)
before xs None = None
before xs (Some u) = Some (record { read = xs ++ u.read; behind = u.behind })

pub before_nothing : {A : Type 0} (o : Option (Upto A)) → before [] o ≡ o
before_nothing None = refl
before_nothing (Some u) = refl

push_before : {A : Type 0} (xs : List A) (x : A) (o : Option (Upto A)) → before xs (given o (push_front x)) ≡ before (xs ++ x ∷ []) o
push_before xs x None = refl
push_before {A} xs x (Some u) = ap (λ l. let r : Upto A = record { read = l; behind = u.behind } in Some r) (sym (append_assoc xs (x ∷ []) u.read))

-- ---- literals

-- one literal more
pub lits_step : (xs : List Lit) (v : ℕ) (t : List ℕ) (p : Cut) (l : Lit) → next_word t ≡ Some p → is_zero p.front ≡ false → lit_in p.front ≡ Some l → v < var l
    → before xs (lits_from v (words_behind t)) ≡ before (xs ++ l ∷ []) (lits_from (var l) (words_behind p.behind))
lits_step xs v t p l e zero lit low =
    let n = next_words t p e in
    ap (λ ws. before xs (lits_from v ws)) n.words ∙ (rw (zero, lit, lt-ltb v (var l) low) refl ∙ push_before xs l (lits_from (var l) (words_behind p.behind)))

-- the `0`
pub lits_done : (xs : List Lit) (v : ℕ) (t : List ℕ) (p : Cut) → next_word t ≡ Some p → is_zero p.front ≡ true → before xs (lits_from v (words_behind t)) ≡ Some (record { read = xs; behind = words_behind p.behind })
lits_done xs v t p e zero =
    let n = next_words t p e in
    ap (λ ws. before xs (lits_from v ws)) n.words ∙ (rw zero refl ∙ ap (λ l. let r : Upto Lit = record { read = l; behind = words_behind p.behind } in Some r) (append-nil xs))

-- no literal
pub lits_stop : (xs : List Lit) (v : ℕ) (t : List ℕ) (p : Cut) → next_word t ≡ Some p → is_zero p.front ≡ false → lit_in p.front ≡ None → before xs (lits_from v (words_behind t)) ≡ None
lits_stop xs v t p e zero lit = ap (λ ws. before xs (lits_from v ws)) (next_words t p e).words ∙ rw (zero, lit) refl

-- a variable that does not rise
pub lits_low : (xs : List Lit) (v : ℕ) (t : List ℕ) (p : Cut) (l : Lit) → next_word t ≡ Some p → is_zero p.front ≡ false → lit_in p.front ≡ Some l → var l ≤ v → before xs (lits_from v (words_behind t)) ≡ None
lits_low xs v t p l e zero lit high = ap (λ ws. before xs (lits_from v ws)) (next_words t p e).words ∙ rw (zero, lit, not_below (nat_lt v (var l)) refl) refl
  where
    not_below : (b : Bool) → nat_lt v (var l) ≡ b → nat_lt v (var l) ≡ false
    not_below false k = k
    not_below true k = let low = ltb-true v (var l) k in absurd (omega arith)

-- no word
pub lits_end : (xs : List Lit) (v : ℕ) (t : List ℕ) → opens t ≡ true → next_word t ≡ None → before xs (lits_from v (words_behind t)) ≡ None
lits_end xs v t k e = ap (λ l. before xs (lits_from v (words_behind l))) (no_words t k e)

-- ---- hints

pub hints_step : (xs : List Hint) (t : List ℕ) (p : Cut) (h : Hint) → next_word t ≡ Some p → is_zero p.front ≡ false → hint_in p.front ≡ Some h
    → before xs (hints_from (words_behind t)) ≡ before (xs ++ h ∷ []) (hints_from (words_behind p.behind))
hints_step xs t p h e zero hint =
    let n = next_words t p e in
    ap (λ ws. before xs (hints_from ws)) n.words ∙ (rw (zero, hint) refl ∙ push_before xs h (hints_from (words_behind p.behind)))

pub hints_done : (xs : List Hint) (t : List ℕ) (p : Cut) → next_word t ≡ Some p → is_zero p.front ≡ true → before xs (hints_from (words_behind t)) ≡ Some (record { read = xs; behind = words_behind p.behind })
hints_done xs t p e zero =
    let n = next_words t p e in
    ap (λ ws. before xs (hints_from ws)) n.words ∙ (rw zero refl ∙ ap (λ l. let r : Upto Hint = record { read = l; behind = words_behind p.behind } in Some r) (append-nil xs))

pub hints_stop : (xs : List Hint) (t : List ℕ) (p : Cut) → next_word t ≡ Some p → is_zero p.front ≡ false → hint_in p.front ≡ None → before xs (hints_from (words_behind t)) ≡ None
hints_stop xs t p e zero hint = ap (λ ws. before xs (hints_from ws)) (next_words t p e).words ∙ rw (zero, hint) refl

pub hints_end : (xs : List Hint) (t : List ℕ) → opens t ≡ true → next_word t ≡ None → before xs (hints_from (words_behind t)) ≡ None
hints_end xs t k e = ap (λ l. before xs (hints_from (words_behind l))) (no_words t k e)

-- ---- `TICKET WORKER KIND`

-- no word behind the ticket
pub opening_short : (next : ℕ) (line : List ℕ) → next_word (drop (place 32 line) line) ≡ None → opening_in next line ≡ None
opening_short next line e =
    let none : words_behind line ≡ [] = sym (words_rest line) ∙ ap words_behind (no_words (drop (place 32 line) line) (rest_opens line) e) in
    ap (λ ws. opening_by next (front_word line ∷ ws)) none

-- no worker
pub opening_no_worker : (next : ℕ) (line : List ℕ) (p : Cut) → next_word (drop (place 32 line) line) ≡ Some p → worker_in p.front ≡ None → opening_in next line ≡ None
opening_no_worker next line p e f =
    let words : words_behind line ≡ p.front ∷ words_behind p.behind = sym (words_rest line) ∙ (next_words (drop (place 32 line) line) p e).words in
    ap (λ ws. opening_by next (front_word line ∷ ws)) words ∙ split (words_behind p.behind)
  where
    split : (ws : List (List ℕ)) → opening_by next (front_word line ∷ p.front ∷ ws) ≡ None
    split [] = refl
    split (k ∷ ws) = by_number (number_in (front_word line))
      where
        by_test : (b : Bool) → cond b (given (worker_in p.front) (λ worker. given (kind_in k) (λ kind. let o : Opening = record { worker = worker; kind = kind; behind = ws } in Some o))) None ≡ None
        by_test true = rw f refl
        by_test false = refl

        by_number : (o : Option ℕ) → given o (λ ticket. cond (eqb ticket next && nat_lt next 4294967295) (given (worker_in p.front) (λ worker. given (kind_in k) (λ kind. let o : Opening = record { worker = worker; kind = kind; behind = ws } in Some o))) None) ≡ None
        by_number None = refl
        by_number (Some n) = by_test (eqb n next && nat_lt next 4294967295)

-- no word behind the worker
pub opening_shorter : (next : ℕ) (line : List ℕ) (p : Cut) → next_word (drop (place 32 line) line) ≡ Some p → next_word p.behind ≡ None → opening_in next line ≡ None
opening_shorter next line p e f =
    let first = next_words (drop (place 32 line) line) p e in
    let words : words_behind line ≡ p.front ∷ [] = sym (words_rest line) ∙ (first.words ∙ ap (λ t. p.front ∷ words_behind t) (no_words p.behind first.opens_behind f)) in
    ap (λ ws. opening_by next (front_word line ∷ ws)) words

-- no kind, or all
pub opening_with : (next : ℕ) (line : List ℕ) (p q : Cut) (v : ℕ) → number_in (front_word line) ≡ Some next → next < 4294967295 → next_word (drop (place 32 line) line) ≡ Some p → worker_in p.front ≡ Some v → next_word p.behind ≡ Some q
    → opening_in next line ≡ given (kind_in q.front) (λ kind. Some (record { worker = v; kind = kind; behind = words_behind q.behind }))
opening_with next line p q v number small e worker f =
    let first = next_words (drop (place 32 line) line) p e in
    let second = next_words p.behind q f in
    let words : words_behind line ≡ p.front ∷ q.front ∷ words_behind q.behind = sym (words_rest line) ∙ (first.words ∙ ap (λ ws. p.front ∷ ws) second.words) in
    ap (λ ws. opening_by next (front_word line ∷ ws)) words ∙ rw (number, eq-eqb next next refl, lt-ltb next 4294967295 small, worker) refl
