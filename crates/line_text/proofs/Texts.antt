-- Lines as bytes: which lines a text begins with, and that a text goes wrong at one line.
use Rattle.std.proofs.Common.{◌≡◌, ℕ, suc, List, [], ◌∷◌, ◌++◌, length, true, None, Result, Ok, Err, refl, ap, sym, ◌∙◌, subst, append_assoc}
use Rattle.std.specs.Prelude.{OnOk}
use Rattle.std.specs.List.{AllByRecursion}
use Rattle.std.proofs.lemmas.List.{append_cancel_left}
use Rattle.line_text.specs.Words.{cut, lacks}
use Rattle.line_text.specs.Lines.{Begins, BeginsWhole, IsLine, OneFault, RefusesLines, text_of, told}
use Rattle.line_text.proofs.Bytes.{cut_none, has_byte, one_cut}

-- ---- lists of lines as bytes

pub text_of_append : (a b : List (List ℕ)) → text_of (a ++ b) ≡ text_of a ++ text_of b
text_of_append [] b = refl
text_of_append (l ∷ a) b = ap (λ t. (l ++ 10 ∷ []) ++ t) (text_of_append a b) ∙ sym (append_assoc (l ++ 10 ∷ []) (text_of a) (text_of b))

pub all_push : {A : Type 0} (P : A → Type 0) (xs : List A) (y : A) → AllByRecursion P xs → P y → AllByRecursion P (xs ++ y ∷ [])
all_push P [] y h k = (k, tt)
all_push P (x ∷ xs) y h k = (h.0, all_push P xs y h.1 k)

pub all_back : {A : Type 0} (P : A → Type 0) (xs ys : List A) → AllByRecursion P (xs ++ ys) → AllByRecursion P ys
all_back P [] ys h = h
all_back P (x ∷ xs) ys h = all_back P xs ys h.1

-- whole lines at the front of whole lines
pub record IsFront (ls ms : List (List ℕ)) (more : List ℕ) : Type 0 where
  pub rest : List (List ℕ)
  pub all : ms ≡ ls ++ rest
  pub text : more ≡ text_of rest

pub first_of_text : (l : List ℕ) (ls : List (List ℕ)) (more : List ℕ) → text_of (l ∷ ls) ++ more ≡ l ++ 10 ∷ (text_of ls ++ more)
first_of_text l ls more = append_assoc (l ++ 10 ∷ []) (text_of ls) more ∙ append_assoc l (10 ∷ []) (text_of ls ++ more)

-- a line is some bytes
no_text : (l : List ℕ) (r : List ℕ) → l ++ 10 ∷ r ≡ [] → ⊥
no_text [] r e = cc
no_text (x ∷ l) r e = cc

pub text_front : (ls ms : List (List ℕ)) (more : List ℕ) → AllByRecursion IsLine ls → AllByRecursion IsLine ms → text_of ls ++ more ≡ text_of ms → IsFront ls ms more
text_front [] ms more h k e = record { rest = ms; all = refl; text = e }
text_front (l ∷ ls) [] more h k e = absurd (no_text l (text_of ls ++ more) (sym (first_of_text l ls more) ∙ e))
text_front (l ∷ ls) (m ∷ ms) more h k e =
    let whole : l ++ 10 ∷ (text_of ls ++ more) ≡ m ++ 10 ∷ text_of ms = sym (first_of_text l ls more) ∙ (e ∙ append_assoc m (10 ∷ []) (text_of ms)) in
    let parts = one_cut 10 l m (text_of ls ++ more) (text_of ms) h.0 k.0 whole in
    let f = text_front ls ms more h.1 k.1 parts.1 in
    record { rest = f.rest; all = ap (λ x. x ∷ ms) (sym parts.0) ∙ ap (λ x. l ∷ x) f.all; text = f.text }

-- one line more at the front
pub front_line : (lines : List (List ℕ)) (line more : List ℕ) → text_of lines ++ (line ++ 10 ∷ more) ≡ text_of (lines ++ line ∷ []) ++ more
front_line lines line more =
    let one : text_of (line ∷ []) ++ more ≡ line ++ 10 ∷ more = first_of_text line [] more in
    ap (λ t. text_of lines ++ t) (sym one) ∙ (sym (append_assoc (text_of lines) (text_of (line ∷ [])) more) ∙ ap (λ t. t ++ more) (sym (text_of_append lines (line ∷ []))))

-- without a line feed there is no whole line
pub no_line : (rest : List ℕ) (lines : List (List ℕ)) → cut 10 rest ≡ None → AllByRecursion IsLine lines → rest ≡ text_of lines → lines ≡ []
no_line rest [] k h e = refl
no_line rest (l ∷ lines) k h e = absurd (cut_none 10 rest l (text_of lines) k h.0 (e ∙ append_assoc l (10 ∷ []) (text_of lines)))

-- ---- the longest run

-- what begins with lines begins with the first of them
pub begins_front : {V : Type 0} (Spells : V → List ℕ → Type 0) (a b : List (List ℕ)) → Begins Spells (a ++ b) → Begins Spells a
begins_front Spells a b h = record {
  value = h.value;
  more = text_of b ++ h.more;
  spelled = subst (Spells h.value) (ap (λ t. t ++ h.more) (text_of_append a b) ∙ append_assoc (text_of a) (text_of b) h.more) h.spelled;
}

-- Two runs of whole lines at the front of a text are one, where what holds of lines holds of the first of them, holds of both
-- runs, and of neither with one line more.
same_lines : (P : List (List ℕ) → Type 0) → ((a b : List (List ℕ)) → P (a ++ b) → P a) → (ls ms : List (List ℕ)) (r s : List ℕ) → AllByRecursion IsLine ls → AllByRecursion IsLine ms
    → text_of ls ++ r ≡ text_of ms ++ s → P ls → P ms → ((line more : List ℕ) → IsLine line → r ≡ line ++ 10 ∷ more → P (ls ++ line ∷ []) → ⊥)
    → ((line more : List ℕ) → IsLine line → s ≡ line ++ 10 ∷ more → P (ms ++ line ∷ []) → ⊥) → ls ≡ ms
same_lines P front [] [] r s h k e p q stops ends = refl
same_lines P front [] (m ∷ ms) r s h k e p q stops ends = absurd (stops m (text_of ms ++ s) k.0 (e ∙ first_of_text m ms s) (front (m ∷ []) ms q))
same_lines P front (l ∷ ls) [] r s h k e p q stops ends = absurd (ends l (text_of ls ++ r) h.0 (sym e ∙ first_of_text l ls r) (front (l ∷ []) ls p))
same_lines P front (l ∷ ls) (m ∷ ms) r s h k e p q stops ends =
    let whole : l ++ 10 ∷ (text_of ls ++ r) ≡ m ++ 10 ∷ (text_of ms ++ s) = sym (first_of_text l ls r) ∙ (e ∙ first_of_text m ms s) in
    let parts = one_cut 10 l m (text_of ls ++ r) (text_of ms ++ s) h.0 k.0 whole in
    let first : l ≡ m = parts.0 in
    let rest : ls ≡ ms =
    same_lines (λ xs. P (m ∷ xs)) (λ a b. front (m ∷ a) b) ls ms r s h.1 k.1 parts.1 (subst (λ x. P (x ∷ ls)) first p) q
    (λ line more plain is b. stops line more plain is (subst (λ x. P (x ∷ (ls ++ line ∷ []))) (sym first) b)) ends in
    ap (λ x. x ∷ ls) first ∙ ap (λ xs. m ∷ xs) rest

pub one_fault : {V : Type 0} (Spells : V → List ℕ → Type 0) → OneFault Spells
one_fault Spells text a b h k =
    let left = h.run in
    let right = k.run in
    let same = same_lines (Begins Spells) (begins_front Spells) h.lines k.lines h.rest k.rest left.whole right.whole (sym left.all ∙ right.all) left.begins right.begins left.ends right.ends in
    h.number ∙ (ap (λ ls. told (suc (length ls))) same ∙ sym k.number)

-- whole lines that begin a spelling are not refused
pub not_refused : {V : Type 0} (Spells : V → List ℕ → Type 0) (text : List ℕ) (n : ℕ) → BeginsWhole Spells text → RefusesLines Spells text n → ⊥
not_refused Spells text n h k =
    let refused = k.refuses in
    let run = refused.run in
    let no_line_behind : (line more : List ℕ) → h.rest ≡ line ++ 10 ∷ more → ⊥ = λ line more is. has_byte 10 line more (subst (λ t. lacks 10 t ≡ true) is h.last) in
    let same = same_lines (Begins Spells) (begins_front Spells) h.lines refused.lines h.rest refused.rest h.whole run.whole (sym h.all ∙ run.all) h.begins run.begins (λ line more plain is b. no_line_behind line more is) run.ends in
    let both : text_of h.lines ++ h.rest ≡ text_of h.lines ++ refused.rest = sym h.all ∙ (run.all ∙ ap (λ ls. text_of ls ++ refused.rest) (sym same)) in
    no_line_behind k.next k.more (append_cancel_left (text_of h.lines) h.rest refused.rest both ∙ k.goes_on)

-- ---- texts that are written part by part

-- what follows from the value of an Ok
pub on_ok : {T E : Type 0} (r : Result T E) (P Q : Type 0) → (P → Q) → OnOk r P → OnOk r Q
on_ok (Ok v) P Q f p = f p
on_ok (Err e) P Q f p = p

-- one more part behind what was there with the parts before
pub then_part : {x y z : List ℕ} (part : List ℕ) → x ≡ y → z ≡ x ++ part → z ≡ y ++ part
then_part part e f = f ∙ ap (λ l. l ++ part) e
