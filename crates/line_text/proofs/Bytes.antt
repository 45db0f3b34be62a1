-- Texts that lack a byte, cutting at a byte, and what stands behind a front.
use Rattle.std.proofs.Common.{◌≡◌, ℕ, suc, ◌+◌, ◌<◌, Bool, true, false, not, cond, eqb, nat_lt, List, [], ◌∷◌, ◌++◌, length, take, drop, Some, None, refl, ap, sym, ◌∙◌, arith, one-add, add-one, eq-eqb, eqb-true, lt-ltb, ltb-true, take-append-drop, subst}
use Rattle.std.proofs.lemmas.Bool.{false≢true}
use Rattle.std.proofs.lemmas.List.{take_at, drop_at}
use Rattle.std.specs.Prelude.{◌↔◌, bytes_eq}
use Rattle.std.proofs.lemmas.Slice.Eq.{bytes_eq-Decides}
use Rattle.line_text.specs.Words.{Cut, IsParted, cut, given, lacks, place, strip}

-- ---- a front

pub strip_front : (a r : List ℕ) → strip a (a ++ r) ≡ Some r
strip_front a r = rw (take_at a r (length a) refl, drop_at a r (length a) refl, (bytes_eq-Decides a a).1 refl) refl

pub strip_from : (a t r : List ℕ) → strip a t ≡ Some r → t ≡ a ++ r
strip_from a t r = step (bytes_eq (take (length a) t) a) refl
  where
    step : (b : Bool) → bytes_eq (take (length a) t) a ≡ b → cond b (Some (drop (length a) t)) None ≡ Some r → t ≡ a ++ r
    step true e h =
        let front = (bytes_eq-Decides (take (length a) t) a).0 e in
        let behind : drop (length a) t ≡ r = cc in
        sym (take-append-drop (length a) t) ∙ (ap (λ l. l ++ drop (length a) t) front ∙ ap (λ l. a ++ l) behind)
    step false e h = cc

pub lacks_append : (b : ℕ) (x y : List ℕ) → lacks b x ≡ true → lacks b y ≡ true → lacks b (x ++ y) ≡ true
lacks_append b [] y e f = f
lacks_append b (c ∷ xs) y e f = step (eqb c b) e (λ g. lacks_append b xs y g f)
  where
    step : (t : Bool) → cond t false (lacks b xs) ≡ true → (lacks b xs ≡ true → lacks b (xs ++ y) ≡ true) → cond t false (lacks b (xs ++ y)) ≡ true
    step true g more = g
    step false g more = more g

pub place_at : (b : ℕ) (x r : List ℕ) → lacks b x ≡ true → place b (x ++ b ∷ r) ≡ length x
place_at b [] r e = rw (eq-eqb b b refl) refl
place_at b (c ∷ xs) r e = step (eqb c b) e (place_at b xs r)
  where
    step : (t : Bool) → cond t false (lacks b xs) ≡ true → (lacks b xs ≡ true → place b (xs ++ b ∷ r) ≡ length xs) → cond (not t) (1 + place b (xs ++ b ∷ r)) 0 ≡ suc (length xs)
    step true g more = absurd (false≢true g)
    step false g more = ap (λ n. 1 + n) (more g) ∙ one-add (length xs)

drop_behind : (x r : List ℕ) (b : ℕ) → drop (suc (length x)) (x ++ b ∷ r) ≡ r
drop_behind [] r b = refl
drop_behind (c ∷ xs) r b = drop_behind xs r b

longer : (x r : List ℕ) (b : ℕ) → length x < length (x ++ b ∷ r)
longer [] r b = omega arith
longer (c ∷ xs) r b = let h = longer xs r b in omega arith

pub cut_at : (b : ℕ) (x r : List ℕ) → lacks b x ≡ true → cut b (x ++ b ∷ r) ≡ Some (record { front = x; behind = r })
cut_at b x r e =
    rw (place_at b x r e, lt-ltb _ _ (longer x r b), add-one, take_at x (b ∷ r) (length x) refl, drop_behind x r b) refl

-- a text at such a byte, with none before it
pub record AtIndex (b n : ℕ) (t : List ℕ) : Type 0 where
  pub parts : t ≡ take n t ++ b ∷ drop (suc n) t
  pub front : lacks b (take n t) ≡ true

at_place : (b : ℕ) (t : List ℕ) → place b t < length t → AtIndex b (place b t) t
at_place b [] h = absurd (omega arith)
at_place b (c ∷ xs) h = step (eqb c b) refl h (at_place b xs)
  where
    step : (t : Bool) → eqb c b ≡ t → cond (not t) (1 + place b xs) 0 < suc (length xs) → (place b xs < length xs → AtIndex b (place b xs) xs)
        → AtIndex b (cond (not t) (1 + place b xs) 0) (c ∷ xs)
    step true k g more = record { parts = ap (λ e. e ∷ xs) (eqb-true c b k); front = refl }
    step false k g more =
        let ih = more (omega arith) in
        subst (λ n. AtIndex b n (c ∷ xs)) (sym (one-add (place b xs))) (record { parts = ap (λ l. c ∷ l) ih.parts; front = rw k ih.front })

pub cut_from : (b : ℕ) (t : List ℕ) (p : Cut) → cut b t ≡ Some p → IsParted b t p
cut_from b t p = step (nat_lt (place b t) (length t)) refl
  where
    step : (u : Bool) → nat_lt (place b t) (length t) ≡ u
        → given (cond u (Some (place b t)) None) (λ i. Some (record { front = take i t; behind = drop (i + 1) t })) ≡ Some p → IsParted b t p
    step true k e =
        let at = at_place b t (ltb-true _ _ k) in
        let cut_is : Cut = record { front = take (place b t) t; behind = drop (place b t + 1) t } in
        let same : cut_is ≡ p = cc in
        subst (λ q. IsParted b t q) same (record { parts = rw add-one at.parts; front = at.front })
    step false k e = cc

pub cut_none : (b : ℕ) (t x r : List ℕ) → cut b t ≡ None → lacks b x ≡ true → t ≡ x ++ b ∷ r → ⊥
cut_none b t x r e h k =
    let some = cut_at b x r h in
    let here : cut b t ≡ Some (record { front = x; behind = r }) = rw k some in
    cc

-- a text has one first such byte
pub one_cut : (b : ℕ) (x y r s : List ℕ) → lacks b x ≡ true → lacks b y ≡ true → x ++ b ∷ r ≡ y ++ b ∷ s → (x ≡ y) × (r ≡ s)
one_cut b x y r s h k e =
    let f = cut_at b x r h in
    let g = cut_at b y s k in
    let same : cut b (x ++ b ∷ r) ≡ cut b (y ++ b ∷ s) = ap (cut b) e in
    let left : Cut = record { front = x; behind = r } in
    let right : Cut = record { front = y; behind = s } in
    let some : Some left ≡ Some right = sym f ∙ (same ∙ g) in
    let both : left ≡ right = cc in
    (ap (λ (p : Cut). p.front) both, ap (λ (p : Cut). p.behind) both)

-- ---- no such byte

pub has_byte : (b : ℕ) (x r : List ℕ) → lacks b (x ++ b ∷ r) ≡ true → ⊥
has_byte b [] r e = false≢true (rw (eq-eqb b b refl) at e)
has_byte b (c ∷ xs) r e = step (eqb c b) e (has_byte b xs r)
  where
    step : (t : Bool) → cond t false (lacks b (xs ++ b ∷ r)) ≡ true → (lacks b (xs ++ b ∷ r) ≡ true → ⊥) → ⊥
    step true g more = false≢true g
    step false g more = more g

place_within : (b : ℕ) (t : List ℕ) → lacks b t ≡ false → place b t < length t
place_within b [] e = absurd (false≢true (sym e))
place_within b (c ∷ xs) e = step (eqb c b) e (place_within b xs)
  where
    step : (t : Bool) → cond t false (lacks b xs) ≡ false → (lacks b xs ≡ false → place b xs < length xs) → cond (not t) (1 + place b xs) 0 < suc (length xs)
    step true g more = omega arith
    step false g more = let h = more g in omega arith

pub cut_lacking : (b : ℕ) (t : List ℕ) → lacks b t ≡ true → cut b t ≡ None
cut_lacking b t h = step (nat_lt (place b t) (length t)) refl
  where
    step : (u : Bool) → nat_lt (place b t) (length t) ≡ u → given {B = Cut} (cond u (Some (place b t)) None) (λ i. Some (record { front = take i t; behind = drop (i + 1) t })) ≡ None
    step true k =
        let at = at_place b t (ltb-true _ _ k) in
        absurd (has_byte b (take (place b t) t) (drop (suc (place b t)) t) (subst (λ l. lacks b l ≡ true) at.parts h))
    step false k = refl

pub lacking_cut : (b : ℕ) (t : List ℕ) → cut b t ≡ None → lacks b t ≡ true
lacking_cut b t e = step (lacks b t) refl
  where
    step : (u : Bool) → lacks b t ≡ u → u ≡ true
    step true k = refl
    step false k =
        let here : cut b t ≡ Some (record { front = take (place b t) t; behind = drop (place b t + 1) t }) = rw (lt-ltb _ _ (place_within b t k)) refl in
        cc

pub cuts_at_first : (b : ℕ) (t : List ℕ) → ((p : Cut) → (cut b t ≡ Some p) ↔ IsParted b t p) × ((cut b t ≡ None) ↔ (lacks b t ≡ true))
cuts_at_first b t = (λ p. (cut_from b t p, λ h. ap (cut b) h.parts ∙ cut_at b p.front p.behind h.front), (lacking_cut b t, cut_lacking b t))
