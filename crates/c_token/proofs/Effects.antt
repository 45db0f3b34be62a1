-- Brackets in lists of tokens, and the effect of one list behind another.
use Rattle.std.proofs.Common.{◌≡◌, ℕ, ◌+◌, ◌-◌, Bool, true, false, List, [], ◌∷◌, ◌++◌, Option, Some, None, unwrap_or, refl, sym, ap, ◌∙◌, arith}
use Rattle.std.specs.Option.{option_or}
use Rattle.token_list.specs.declared.Token.{Token}
use Rattle.c_token.specs.declared.skim.Class.{Class}
use Rattle.c_token.specs.declared.skim.Class.TheVariants.{Open, Close}
use Rattle.c_token.specs.declared.skim.Context.{Context}
use Rattle.c_token.specs.declared.skim.Effect.{Effect}
use Rattle.c_token.specs.declared.skim.Last.{Last}
use Rattle.c_token.specs.Skimming.{class_of, extern_after, extern_behind, last_after, last_of, context_after, context_behind, bracket, ahead, open_more, opened, bounded, effect, Joins}

pub extern_append : (e : Bool) (a b : List Token) → extern_behind e (a ++ b) ≡ extern_behind (extern_behind e a) b
extern_append e [] b = refl
extern_append e (t ∷ ts) b = extern_append (extern_after e (class_of t)) ts b

pub ahead_append : (k : ℕ) (e : Bool) (a b : List Token) → ahead k e (a ++ b) ≡ ahead (ahead k (extern_behind e a) b) e a
ahead_append k e [] b = refl
ahead_append k e (t ∷ ts) b = ap (bracket e (class_of t)) (ahead_append k (extern_after e (class_of t)) ts b)

bracket_behind : (e : Bool) (cl : Class) (c o k : ℕ) → bracket e cl (c + (k - o)) ≡ bracket e cl c + (k - open_more e cl c o)
bracket_behind true cl c o k = refl
bracket_behind false Open c o k = omega arith
bracket_behind false Close c o k = omega arith
bracket_behind false _ c o k = refl

-- what closes behind counts only beyond what is opened
pub ahead_is : (k : ℕ) (e : Bool) (ts : List Token) → ahead k e ts ≡ ahead 0 e ts + (k - opened e ts)
ahead_is k e [] = omega arith
ahead_is k e (t ∷ ts) =
    let f = extern_after e (class_of t) in
    ap (bracket e (class_of t)) (ahead_is k f ts) ∙ bracket_behind e (class_of t) (ahead 0 f ts) (opened f ts) k

open_behind : (e : Bool) (cl : Class) (c o d p : ℕ) → open_more e cl (c + (d - o)) (p + (o - d)) ≡ p + (open_more e cl c o - d)
open_behind true cl c o d p = refl
open_behind false Open c o d p = omega arith
open_behind false _ c o d p = refl

pub opened_append : (e : Bool) (a b : List Token) → opened e (a ++ b) ≡ opened (extern_behind e a) b + (opened e a - ahead 0 (extern_behind e a) b)
opened_append e [] b = omega arith
opened_append e (t ∷ ts) b =
    let f = extern_after e (class_of t) in
    let d = ahead 0 (extern_behind f ts) b in
    ap (λ c. open_more e (class_of t) c (opened f (ts ++ b))) (ahead_append 0 f ts b ∙ ahead_is d f ts)
    ∙ (ap (open_more e (class_of t) (ahead 0 f ts + (d - opened f ts))) (opened_append f ts b)
    ∙ open_behind e (class_of t) (ahead 0 f ts) (opened f ts) d (opened (extern_behind f ts) b))

or_assoc : (a b c : Option Last) → option_or (option_or a b) c ≡ option_or a (option_or b c)
or_assoc None b c = refl
or_assoc (Some x) b c = refl

or_none : (a : Option Last) → option_or a None ≡ a
or_none None = refl
or_none (Some x) = refl

pub last_append : (e : Bool) (a b : List Token) → last_of e (a ++ b) ≡ option_or (last_of (extern_behind e a) b) (last_of e a)
last_append e [] b = sym (or_none (last_of e b))
last_append e (t ∷ ts) b =
    let f = extern_after e (class_of t) in
    ap (λ l. option_or l (last_after e (class_of t))) (last_append f ts b) ∙ or_assoc (last_of (extern_behind f ts) b) (last_of f ts) (last_after e (class_of t))

or_else : (a b : Option Last) (l : Last) → unwrap_or a (unwrap_or b l) ≡ unwrap_or (option_or a b) l
or_else None b l = refl
or_else (Some x) b l = refl

-- the context behind tokens, by their effect
pub context_is : (m : Context) (ts : List Token) → context_behind m ts ≡ record { in_extern = extern_behind m.in_extern ts; last = unwrap_or (last_of m.in_extern ts) m.last }
context_is m [] = refl
context_is m (t ∷ ts) =
    let f = extern_after m.in_extern (class_of t) in
    let i : Bool = extern_behind f ts in
    context_is (context_after m (class_of t)) ts
    ∙ ap (λ (l : Last). record { in_extern = i; last = l }) (or_else (last_of f ts) (last_after m.in_extern (class_of t)) m.last)

pub same_effect : (c d o p : ℕ) (e f : Bool) (l m : Option Last) → c ≡ d → o ≡ p → e ≡ f → l ≡ m
    → record { closers = c; openers = o; in_extern = e; last = l } ≡ let r : Effect = record { closers = d; openers = p; in_extern = f; last = m } in r
same_effect c d o p e f l m h i j k =
    ap (λ (x : ℕ). record { closers = x; openers = o; in_extern = e; last = l }) h
    ∙ (ap (λ (x : ℕ). record { closers = d; openers = x; in_extern = e; last = l }) i
    ∙ (ap (λ (x : Bool). record { closers = d; openers = p; in_extern = x; last = l }) j
    ∙ ap (λ (x : Option Last). record { closers = d; openers = p; in_extern = f; last = x }) k))

-- the effect of one list behind another
pub effect_append : (e : Bool) (a b : List Token) (r : Effect) → Joins (effect e a) (effect (extern_behind e a) b) r → r ≡ effect e (a ++ b)
effect_append e a b r j =
    let f = extern_behind e a in
    let closers : r.closers ≡ bounded (ahead 0 e (a ++ b)) =
    j.closers (ahead 0 e a) (opened e a) (ahead 0 f b) refl refl refl ∙ ap bounded (sym (ahead_append 0 e a b ∙ ahead_is (ahead 0 f b) e a)) in
    let openers : r.openers ≡ bounded (opened e (a ++ b)) =
    j.openers (opened e a) (ahead 0 f b) (opened f b) refl refl refl ∙ ap bounded (sym (opened_append e a b)) in
    let in_extern : r.in_extern ≡ extern_behind e (a ++ b) = j.in_extern ∙ sym (extern_append e a b) in
    let is_last : r.last ≡ last_of e (a ++ b) = j.last ∙ sym (last_append e a b) in
    same_effect r.closers (bounded (ahead 0 e (a ++ b))) r.openers (bounded (opened e (a ++ b))) r.in_extern (extern_behind e (a ++ b)) r.last (last_of e (a ++ b)) closers openers in_extern is_last
