-- What follows from the contracts of the calls.
use Rattle.std.proofs.Common.{◌≡◌, ℕ, ◌+◌, ◌-◌, ◌≤◌, false, List, [], ◌∷◌, ◌++◌, length, refl, ap, sym, ◌∙◌, arith}
use Rattle.std.specs.Prelude.{nat_lt}
use Rattle.std.proofs.lemmas.Bool.{le-ltb, lt-ltb}
use Rattle.std.proofs.lemmas.List.{length-append, append_assoc, append-nil}
use Rattle.clause_exchange.specs.declared.rule.Received.{Received}
use Rattle.clause_exchange.specs.Spelling.{spelled, spelled_entry, entry_size, whole_within}
use Rattle.clause_exchange.specs.ExchangeLaws.{ReadingGrows, ReadingIsAll}
use Rattle.clause_exchange.proofs.Listed.{spelled_append}
use Rattle.clause_exchange.proofs.Words.{lits_size}

not_less : (m n : ℕ) → n ≤ m → nat_lt m n ≡ false
not_less m n le = le-ltb m n le

-- what is whole within the words of the first entries are these entries
pub whole_first : (before later : List Received) → whole_within (length (spelled before)) (before ++ later) ≡ before
whole_first [] [] = refl
whole_first [] (h ∷ hs) = rw (lt-ltb 0 (length (spelled_entry h)) (omega arith)) refl
whole_first (b ∷ bs) later =
    let n = length-append (spelled_entry b) (spelled bs) in
    rw (not_less (length (spelled (b ∷ bs))) (length (spelled_entry b)) (omega arith))
    (ap (λ m. b ∷ whole_within m (bs ++ later)) (let e : length (spelled (b ∷ bs)) - length (spelled_entry b) ≡ length (spelled bs) = omega arith in e) ∙ ap (λ l. b ∷ l) (whole_first bs later))

pub reading_grows_law : ReadingGrows
reading_grows_law r h at =
    let size = lits_size h.lits in
    let first : r.loaded ≡ length (spelled at.before) = (let p = at.place in omega arith) in
    let all : r.known ≡ (at.before ++ h ∷ []) ++ at.later = at.all ∙ sym (append_assoc at.before (h ∷ []) at.later) in
    let words = ap length (spelled_append at.before (h ∷ [])) in
    let words2 = length-append (spelled at.before) (spelled (h ∷ [])) in
    let words3 = length-append (spelled_entry h) [] in
    let whole : r.loaded + entry_size (length h.lits) ≡ length (spelled (at.before ++ h ∷ [])) = omega arith in
    let old : whole_within r.loaded r.known ≡ at.before = ap (λ m. whole_within m r.known) first ∙ (ap (λ l. whole_within (length (spelled at.before)) l) at.all ∙ whole_first at.before (h ∷ at.later)) in
    ap (λ m. whole_within m r.known) whole
    ∙ (ap (λ l. whole_within (length (spelled (at.before ++ h ∷ []))) l) all ∙ whole_first (at.before ++ h ∷ []) at.later)
    ∙ ap (λ l. l ++ h ∷ []) (sym old)

pub reading_is_all_law : ReadingIsAll
reading_is_all_law r all =
    ap (λ m. whole_within m r.known) all
    ∙ ap (λ l. whole_within (length (spelled r.known)) l) (sym (append-nil r.known))
    ∙ whole_first r.known []
