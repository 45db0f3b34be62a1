-- The effects of tokens of uses, from the last one on.
use Rattle.std.proofs.Common.{◌≡◌, ℕ, zero, suc, ◌+◌, ◌-◌, ◌<◌, ◌≤◌, Bool, true, false, List, [], ◌∷◌, ◌++◌, length, drop, get_or, slice_get, Some, None, refl, sym, ap, subst, ◌∙◌, arith, add-one, drop-cons, ⊎_elim}
use Rattle.std.proofs.lemmas.Bool.{cases_lt}
use Rattle.std.specs.Option.{option_or}
use Rattle.dg_base.specs.declared.Place.{Place}
use Rattle.token_list.specs.declared.Token.{Token}
use Rattle.c_token.specs.declared.macros.Macro.{Macro}
use Rattle.c_token.specs.declared.macros.Use.{Use}
use Rattle.c_token.specs.declared.macros.Use.TheVariants.{Macro as MacroUse}
use Rattle.c_token.specs.declared.skim.Class.{Class}
use Rattle.c_token.specs.declared.skim.Class.TheVariants.{Open, Close}
use Rattle.c_token.specs.declared.skim.Effect.{Effect}
use Rattle.c_token.specs.declared.skim.Effects.{Effects}
use Rattle.c_token.specs.Macros.{all_at, put_at}
use Rattle.c_token.specs.Searching.{uses_in, uses_of}
use Rattle.c_token.specs.Skimming.{class_of, extern_after, extern_behind, last_after, last_of, bracket, open_more, bounded, effect, effects, effect_in, Joins}
use Rattle.c_token.specs.Tables.{use_tokens, all_tokens, AreEnds, IsMacro, IsTable}
use Rattle.c_token.proofs.Effects.{effect_append, same_effect}
use Rattle.c_token.proofs.Running.{class_at, extern_at, ahead_at, opened_at}

-- one token
abbrev one_of : Bool → Class → Effect
one_of e c = record { closers = bracket e c 0; openers = open_more e c 0 0; in_extern = extern_after e c; last = last_after e c }

abbrev held_of : Bool → Class → Effect
held_of e c = record { closers = bounded (bracket e c 0); openers = bounded (open_more e c 0 0); in_extern = extern_after e c; last = option_or None (last_after e c) }

one_held : (e : Bool) (c : Class) → one_of e c ≡ held_of e c
one_held true _ = refl
one_held false Open = refl
one_held false Close = refl
one_held false _ = refl

pub token_effect_is : (e : Bool) (c : Class) (t : Token) → c ≡ class_of t → one_of e c ≡ effect e (t ∷ [])
token_effect_is e c t h = one_held e c ∙ ap (held_of e) h

-- ---- places
pub all_at_again : (p q : Place) (ts : List Token) → all_at p (all_at q ts) ≡ all_at p ts
all_at_again p q [] = refl
all_at_again p q (t ∷ ts) = ap (λ us. put_at p t ∷ us) (all_at_again p q ts)

last_at : (p : Place) (e : Bool) (ts : List Token) → last_of e (all_at p ts) ≡ last_of e ts
last_at p e [] = refl
last_at p e (t ∷ ts) =
    ap (λ c. option_or (last_of (extern_after e c) (all_at p ts)) (last_after e c)) (class_at p t)
    ∙ ap (λ l. option_or l (last_after e (class_of t))) (last_at p (extern_after e (class_of t)) ts)

effect_at : (p : Place) (e : Bool) (ts : List Token) → effect e (all_at p ts) ≡ effect e ts
effect_at p e ts = same_effect _ _ _ _ _ _ _ _ (ap bounded (ahead_at p 0 e ts)) (ap bounded (opened_at p e ts)) (extern_at p e ts) (last_at p e ts)

pub effects_at : (p : Place) (ts : List Token) → effects (all_at p ts) ≡ effects ts
effects_at p ts = ap (λ (x : Effect). record { outside = x; inside = effect true (all_at p ts) }) (effect_at p false ts) ∙ ap (λ (x : Effect). record { outside = effect false ts; inside = x }) (effect_at p true ts)

-- ---- one list behind another
pub effect_in_is : (e : Bool) (ts : List Token) → effect_in e (effects ts) ≡ effect e ts
effect_in_is false ts = refl
effect_in_is true ts = refl

pub effects_append : (f s r : Effects) (a b : List Token) → f ≡ effects a → s ≡ effects b → Joins f.outside (effect_in f.outside.in_extern s) r.outside → Joins f.inside (effect_in f.inside.in_extern s) r.inside
    → r ≡ effects (a ++ b)
effects_append f s r a b h i j k =
    let Both : Effects → Effects → Type 0 = λ f s. Joins f.outside (effect_in f.outside.in_extern s) r.outside × Joins f.inside (effect_in f.inside.in_extern s) r.inside in
    let there = subst (Both (effects a)) i (subst (λ g. Both g s) h (j, k)) in
    let outside = effect_append false a b r.outside (subst (λ g. Joins (effect false a) g r.outside) (effect_in_is (extern_behind false a) b) there.0) in
    let inside = effect_append true a b r.inside (subst (λ g. Joins (effect true a) g r.inside) (effect_in_is (extern_behind true a) b) there.1) in
    ap (λ (x : Effect). record { outside = x; inside = r.inside }) outside ∙ ap (λ (x : Effect). record { outside = effect false (a ++ b); inside = x }) inside

-- ---- uses
pub next_tokens : (bodies : List (List Token)) (uses : List Use) (i : ℕ) (d : Use) → i < length uses → all_tokens bodies (drop i uses) ≡ use_tokens bodies (get_or uses i d) ++ all_tokens bodies (drop (i + 1) uses)
next_tokens bodies uses i d h = rw (add-one, drop-cons uses i d) refl

got_front : {A : Type 0} (xs : List A) (x : A) (k : ℕ) → k < length xs → slice_get (xs ++ x ∷ []) k ≡ slice_get xs k
got_front [] x k h = absurd (omega arith)
got_front (y ∷ ys) x zero h = refl
got_front (y ∷ ys) x (suc k) h = got_front ys x k (omega arith)

got_last : {A : Type 0} (xs : List A) (x : A) (k : ℕ) → k ≡ length xs → slice_get (xs ++ x ∷ []) k ≡ Some x
got_last [] x zero h = refl
got_last [] x (suc k) h = absurd (omega arith)
got_last (y ∷ ys) x zero h = absurd (omega arith)
got_last (y ∷ ys) x (suc k) h = got_last ys x k (omega arith)

-- the effects are known from this use on
abbrev pub EndsFrom : List (List Token) → List Use → ℕ → List Effects → Type 0
EndsFrom bodies uses first ends = (j : ℕ) → j ≤ length uses - first → slice_get ends j ≡ Some (effects (all_tokens bodies (drop (length uses - j) uses)))

pub ends_more : (bodies : List (List Token)) (uses : List Use) (first next : ℕ) (ends : List Effects) (x : Effects) → first ≡ next + 1 → first ≤ length uses → length ends ≡ length uses - first + 1
    → x ≡ effects (all_tokens bodies (drop next uses)) → EndsFrom bodies uses first ends → EndsFrom bodies uses next (ends ++ x ∷ [])
ends_more bodies uses first next ends x e h len is before = λ j k.
    ⊎_elim
    (λ low. let within : j < length ends = omega arith in got_front ends x j within ∙ before j (omega arith))
    (λ high.
    let same : j ≡ length ends = omega arith in
    let place : next ≡ length uses - j = omega arith in
    got_last ends x j same ∙ ap Some (is ∙ ap (λ i. effects (all_tokens bodies (drop i uses))) place))
    (cases_lt j (length uses - first + 1))

-- what stands behind the first uses
pub ends_at : (bodies : List (List Token)) (uses : List Use) (ends : List Effects) (first : ℕ) → AreEnds bodies uses ends → first ≤ length uses
    → slice_get ends (length uses - first) ≡ Some (effects (all_tokens bodies (drop first uses)))
ends_at bodies uses ends first are h =
    let same : length uses - (length uses - first) ≡ first = omega arith in
    are (length uses - first) (omega arith) ∙ ap (λ i. Some (effects (all_tokens bodies (drop i uses)))) same

pub ends_some : (bodies : List (List Token)) (uses : List Use) (ends : List Effects) (first : ℕ) (x : Effects) → AreEnds bodies uses ends → first ≤ length uses → slice_get ends (length uses - first) ≡ Some x
    → x ≡ effects (all_tokens bodies (drop first uses))
ends_some bodies uses ends first x are h e = let there = ends_at bodies uses ends first are h in cc

pub ends_none : {A : Type 0} (bodies : List (List Token)) (uses : List Use) (ends : List Effects) (first : ℕ) → AreEnds bodies uses ends → first ≤ length uses → slice_get ends (length uses - first) ≡ None → A
ends_none bodies uses ends first are h e = let there = ends_at bodies uses ends first are h in absurd (let no : ⊥ = cc in no)

pub got_in : {A : Type 0} (xs : List A) (n : ℕ) (x : A) → slice_get xs n ≡ Some x → (n < length xs) × (get_or xs n x ≡ x)
got_in [] n x e = cc
got_in (y ∷ ys) zero x e = let same : y ≡ x = cc in (omega arith, same)
got_in (y ∷ ys) (suc n) x e = let there = got_in ys n x e in (omega (arith, there.0), there.1)

pub got_or : {A : Type 0} (xs : List A) (n : ℕ) (x : A) → n < length xs → x ≡ get_or xs n x → slice_get xs n ≡ Some x
got_or [] n x h e = absurd (omega arith)
got_or (y ∷ ys) zero x h e = ap Some (sym e)
got_or (y ∷ ys) (suc n) x h e = got_or ys n x (omega arith) e

pub got_past : {A : Type 0} (xs : List A) (n : ℕ) → length xs ≤ n → slice_get xs n ≡ None
got_past [] n h = refl
got_past (y ∷ ys) zero h = absurd (omega arith)
got_past (y ∷ ys) (suc n) h = got_past ys n (omega arith)

-- one more use, from the last one on
pub ends_step : (bodies : List (List Token)) (uses : List Use) (first : ℕ) (d : Use) (f s r : Effects) → f ≡ effects (use_tokens bodies (get_or uses (first - 1) d)) → 0 < first → first ≤ length uses
    → s ≡ effects (all_tokens bodies (drop first uses)) → Joins f.outside (effect_in f.outside.in_extern s) r.outside × Joins f.inside (effect_in f.inside.in_extern s) r.inside
    → r ≡ effects (all_tokens bodies (drop (first - 1) uses))
ends_step bodies uses first d f s r h some within i j =
    let same : first ≡ first - 1 + 1 = omega arith in
    let low : first - 1 < length uses = omega arith in
    effects_append f s r (use_tokens bodies (get_or uses (first - 1) d)) (all_tokens bodies (drop (first - 1 + 1) uses)) h (i ∙ ap (λ k. effects (all_tokens bodies (drop k uses))) same) j.0 j.1
    ∙ ap effects (sym (next_tokens bodies uses (first - 1) d low))

-- the macro with a number is made of its body
pub macro_here : (macros : List Macro) (bodies : List (List Token)) (n : ℕ) (m : Macro) → IsTable macros bodies → slice_get macros n ≡ Some m → IsMacro bodies n m (get_or bodies n [])
macro_here macros bodies n m t e =
    let there = got_in macros n m e in
    let P : Macro → Type 0 = λ x. IsMacro bodies n x (get_or bodies n []) in
    subst P there.1 (t.at n m there.0)

-- the effects behind the first uses of a macro
pub effects_from : (macros : List Macro) (bodies : List (List Token)) (n : ℕ) (m : Macro) (us : List Use) (es : List Effects) (first : ℕ) (r : Effects) → IsTable macros bodies → slice_get macros n ≡ Some m → us ≡ m.uses → es ≡ m.ends
    → (AreEnds bodies us es → first ≤ length us → r ≡ effects (all_tokens bodies (drop first us))) → first ≤ length (uses_of macros n) → r ≡ effects (all_tokens bodies (drop first (uses_of macros n)))
effects_from macros bodies n m us es first r t e k l f h =
    let made = macro_here macros bodies n m t e in
    let same : uses_of macros n ≡ us = ap uses_in e ∙ sym k in
    f (subst (λ x. AreEnds bodies x es) (sym k) (subst (λ y. AreEnds bodies m.uses y) (sym l) made.ends)) (subst (λ x. first ≤ length x) same h)
    ∙ ap (λ x. effects (all_tokens bodies (drop first x))) (sym same)

pub effects_from_none : (macros : List Macro) (bodies : List (List Token)) (n first : ℕ) (r : Effects) → slice_get macros n ≡ None → r ≡ effects [] → r ≡ effects (all_tokens bodies (drop first (uses_of macros n)))
effects_from_none macros bodies n first r e h = h ∙ (sym (nothing first) ∙ ap (λ x. effects (all_tokens bodies (drop first (uses_in x)))) (sym e))
  where
    nothing : (k : ℕ) → effects (all_tokens bodies (drop k [])) ≡ effects []
    nothing zero = refl
    nothing (suc k) = refl

-- the effects of a macro
pub effects_used : (macros : List Macro) (bodies : List (List Token)) (n : ℕ) (used : Macro) (us : List Use) (es : List Effects) (r : Effects) → IsTable macros bodies → n < length macros → used ≡ get_or macros n used → us ≡ used.uses
    → es ≡ used.ends → (AreEnds bodies us es → 0 ≤ length us → r ≡ effects (all_tokens bodies (drop 0 us))) → r ≡ effects (get_or bodies n [])
effects_used macros bodies n used us es r t h is k l f =
    let P : Macro → Type 0 = λ x. IsMacro bodies n x (get_or bodies n []) in
    let made : IsMacro bodies n used (get_or bodies n []) = subst P (sym is) (t.at n used h) in
    f (subst (λ x. AreEnds bodies x es) (sym k) (subst (λ y. AreEnds bodies used.uses y) (sym l) made.ends)) (omega arith)
    ∙ (ap (λ x. effects (all_tokens bodies x)) k ∙ ap effects made.tokens)

pub use_effects_are : (macros : List Macro) (bodies : List (List Token)) (n : ℕ) (p : Place) (one : Use) (r : Effects) → one ≡ MacroUse n p → r ≡ effects (get_or bodies n []) → r ≡ effects (use_tokens bodies one)
use_effects_are macros bodies n p one r is h = h ∙ (sym (effects_at p (get_or bodies n [])) ∙ ap (λ u. effects (use_tokens bodies u)) (sym is))

-- what closes behind a use
pub closers_are : (bodies : List (List Token)) (ut rest : List Token) (e : Bool) (used : Effects) (here there : Effect) (after : Effects) → used ≡ effects ut → here ≡ effect_in e used → after ≡ effects rest
    → there ≡ effect_in here.in_extern after → there ≡ effect (extern_behind e ut) rest
closers_are bodies ut rest e used here there after h i j k =
    let first : here ≡ effect e ut = i ∙ (ap (effect_in e) h ∙ effect_in_is e ut) in
    k ∙ (ap (λ (x : Effect). effect_in x.in_extern after) first ∙ (ap (effect_in (extern_behind e ut)) j ∙ effect_in_is (extern_behind e ut) rest))
