-- Lines that are written part by part.
use Rattle.std.proofs.Common.{◌≡◌, ℕ, suc, ◌+◌, ◌<◌, Bool, true, cond, Ok, Err, List, [], ◌∷◌, ◌++◌, map, length, drop, get_or, refl, ap, sym, ◌∙◌, subst, append_assoc, arith}
use Rattle.std.specs.Prelude.{OnOk, Result, codes, decimal, slice_index_or}
use Rattle.std.specs.List.{AllByRecursion}
use Rattle.std.proofs.lemmas.Result.{on_ok_weaker}
use Rattle.cnf_problem.specs.declared.problem.LemmaKind.{LemmaKind}
use Rattle.cnf_problem.specs.declared.problem.LemmaKind.TheVariants.{Unit as ByUnit}
use Rattle.line_text.specs.Lines.{text_of}
use Rattle.line_text.specs.Words.{shown}
use Rattle.line_text.proofs.Texts.{then_part}
use Rattle.lemma_log.specs.declared.Entry.{Entry}
use Rattle.lemma_log.specs.declared.hints.Hint.{Hint}
use Rattle.log_text.specs.Formats.{Row, hint_text, hint_words, kind_text, lit_text, row_line}
use Rattle.log_text.specs.Spelling.{hinted_rows, row_of}
use Rattle.log_text.proofs.Logs.{rows_at}

-- the last part behind the others, where it was written
pub ends_with : {T E : Type 0} (r : Result T E) (before written after all part : List ℕ) → OnOk r (after ≡ before ++ part) → before ≡ written → written ++ part ≡ all → OnOk r (after ≡ all)
ends_with r before written after all part h e f = on_ok_weaker r (λ (g : after ≡ before ++ part). then_part part e g ∙ f) h

-- values as words
pub shown_words : {A : Type 0} (show : A → List ℕ) (vs : List A) (ws : List (List ℕ)) → shown (λ (w : List ℕ). w) (map show vs ++ ws) ≡ shown show vs ++ shown (λ (w : List ℕ). w) ws
shown_words show [] ws = refl
shown_words show (v ∷ vs) ws = ap (λ l. (32 ∷ show v) ++ l) (shown_words show vs ws) ∙ sym (append_assoc (32 ∷ show v) (shown show vs) (shown (λ (w : List ℕ). w) ws))

nine_parts : (o t w k l h : List ℕ) → (((((((((o ++ t) ++ 32 ∷ []) ++ w) ++ 32 ∷ []) ++ k) ++ l) ++ 32 ∷ 48 ∷ []) ++ h) ++ 10 ∷ []) ≡ o ++ ((t ++ 32 ∷ (w ++ 32 ∷ (k ++ (l ++ 32 ∷ 48 ∷ h)))) ++ 10 ∷ [])
nine_parts o t w k l h = simp append_assoc

-- the parts of an entry's line
pub row_parts : (o : List ℕ) (hinted : Bool) (r : Row) → (((((((((o ++ decimal r.ticket) ++ 32 ∷ []) ++ decimal r.worker) ++ 32 ∷ []) ++ kind_text r.kind) ++ shown lit_text r.lits) ++ 32 ∷ 48 ∷ []) ++ shown (λ (w : List ℕ). w) (cond hinted (hint_words r.kind r.hints) [])) ++ 10 ∷ [])
    ≡ o ++ (row_line hinted r ++ 10 ∷ [])
row_parts o hinted r =
    let h = shown (λ (w : List ℕ). w) (cond hinted (hint_words r.kind r.hints) []) in
    let words = shown_words lit_text r.lits (codes "0" ∷ cond hinted (hint_words r.kind r.hints) []) in
    nine_parts o (decimal r.ticket) (decimal r.worker) (kind_text r.kind) (shown lit_text r.lits) h
    ∙ ap (λ x. o ++ ((decimal r.ticket ++ 32 ∷ (decimal r.worker ++ 32 ∷ (kind_text r.kind ++ x))) ++ 10 ∷ [])) (sym words)

-- one line more
pub rows_turn : (hinted : Bool) (es : List Entry) (hs : List (List Hint)) (at : ℕ) (e : Entry) (before now all : List ℕ) → at < length es → e ≡ get_or es at e → now ≡ before ++ (row_line hinted (row_of e (slice_index_or hs at [])) ++ 10 ∷ [])
    → before ++ text_of (map (row_line hinted) (hinted_rows (drop at es) (drop at hs))) ≡ all → now ++ text_of (map (row_line hinted) (hinted_rows (drop (at + 1) es) (drop (at + 1) hs))) ≡ all
rows_turn hinted es hs at e before now all within is new was =
    let one : at + 1 ≡ suc at = omega arith in
    let rest = text_of (map (row_line hinted) (hinted_rows (drop (suc at) es) (drop (suc at) hs))) in
    let line = row_line hinted (row_of e (slice_index_or hs at [])) ++ 10 ∷ [] in
    let here : text_of (map (row_line hinted) (hinted_rows (drop at es) (drop at hs))) ≡ line ++ rest = ap (λ rs. text_of (map (row_line hinted) rs)) (rows_at es hs at e within is) in
    ap (λ n. now ++ text_of (map (row_line hinted) (hinted_rows (drop n es) (drop n hs)))) one ∙ (ap (λ t. t ++ rest) new ∙ (append_assoc before line rest ∙ (ap (λ t. before ++ t) (sym here) ∙ was)))

-- the hints and a `0`
pub hint_parts : (o : List ℕ) (hinted : Bool) (kind : LemmaKind) (hs : List Hint) → hinted ≡ true → kind ≡ ByUnit → (o ++ shown hint_text hs) ++ 32 ∷ 48 ∷ [] ≡ o ++ shown (λ (w : List ℕ). w) (cond hinted (hint_words kind hs) [])
hint_parts o hinted kind hs h k = rw (h, k) (append_assoc o (shown hint_text hs) (32 ∷ 48 ∷ []) ∙ ap (λ t. o ++ t) (sym (shown_words hint_text hs (codes "0" ∷ []))))

-- what holds in any case
pub always : {T E : Type 0} (r : Result T E) (P : Type 0) → P → OnOk r P
always (Ok v) P p = p
always (Err e) P p = tt

-- what holds of the entry at a place and of those behind it
pub rows_from : (P : Row → Type 0) (es : List Entry) (hs : List (List Hint)) (at : ℕ) (e : Entry) → at < length es → e ≡ get_or es at e → P (row_of e (slice_index_or hs at [])) → AllByRecursion P (hinted_rows (drop (at + 1) es) (drop (at + 1) hs))
    → AllByRecursion P (hinted_rows (drop at es) (drop at hs))
rows_from P es hs at e within is p rest =
    let one : at + 1 ≡ suc at = omega arith in
    subst (AllByRecursion P) (sym (rows_at es hs at e within is)) (p, subst (λ n. AllByRecursion P (hinted_rows (drop n es) (drop n hs))) one rest)
