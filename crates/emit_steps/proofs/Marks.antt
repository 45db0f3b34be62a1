-- Calls in an expression without a begin or an end; and what a mark says of a call.
use Rattle.std.proofs.Common.{◌≡◌, inl, inr, List, [], ◌∷◌, Bool, true, false, Option, Some, None, refl, subst, ◌⊎◌}
use Rattle.std.proofs.lemmas.Bool.{or_parts, not-true, both_ways}
use Rattle.std.proofs.lemmas.Slice.Eq.{bytes_eq-Decides}
use Rattle.std.specs.Prelude.{cond, not, ◌||◌}
use Rattle.std.specs.Str.{bytes_eq}
use Rattle.dg_base.specs.declared.Place.{Place}
use Rattle.c_rules.specs.declared.builtin.Builtin.{Builtin}
use Rattle.c_rules.specs.declared.builtin.Builtin.TheVariants as b
use Rattle.c_rules.specs.Names.{Name, or_else, look_up, thread_calls, other_calls, builtin_named}
use Rattle.c_rules.specs.Scopes.{First, unless}
use Rattle.c_check.specs.declared.sections.Mark.{Mark}
use Rattle.c_check.specs.declared.sections.Mark.TheVariants.{Begins, Ends, Neither}
use Rattle.c_check.specs.Sections.{begin_name, end_name, call_mark, is_marked, broken_call}
use Rattle.emit_steps.proofs.Growth.{Each}

-- it is no begin and no end of a section
abbrev pub IsPlainCall : Builtin → Type 0
IsPlainCall b.Begin = ⊥
IsPlainCall b.Finish = ⊥
IsPlainCall _ = Unit {0}

pub both_none : (f g : First) → or_else f g ≡ None → (f ≡ None) × (g ≡ None)
both_none (Some p) g e = absurd (let no : ◌≡◌ {A = First} (Some p) None = e in cc)
both_none None g e = (refl, e)

pub holds_at : (t : Bool) (p : Place) → unless t p ≡ None → t ≡ true
holds_at true p e = refl
holds_at false p e = absurd (let no : ◌≡◌ {A = First} (Some p) None = e in cc)

abbrev Entry : Type 0
Entry = Name × Builtin

-- an entry of the name is plain
abbrev IsPlainEntry : Name → Entry → Type 0
IsPlainEntry n p = IsPlainCall p.1 ⊎ (bytes_eq p.0 n ≡ false)

plain_same : (x y : Builtin) → ◌≡◌ {A = Option Builtin} (Some x) (Some y) → IsPlainCall x → IsPlainCall y
plain_same x y q plain = let r : x ≡ y = cc in subst IsPlainCall r plain

plain_here : (n : Name) (p : Entry) → IsPlainEntry n p → bytes_eq p.0 n ≡ true → IsPlainCall p.1
plain_here n p (inl plain) t = plain
plain_here n p (inr other) t = absurd (both_ways (bytes_eq p.0 n) other t)

plain_at : (n : Name) (c : Builtin) (p : Entry) (rest : Option Builtin) (t : Bool) → bytes_eq p.0 n ≡ t → IsPlainEntry n p → (rest ≡ Some c → IsPlainCall c) → cond t (Some p.1) rest ≡ Some c → IsPlainCall c
plain_at n c p rest true t h k q = plain_same p.1 c q (plain_here n p h t)
plain_at n c p rest false t h k q = k q

plain_look : (n : Name) (c : Builtin) (ps : List Entry) → Each (IsPlainEntry n) ps → look_up ps n ≡ Some c → IsPlainCall c
plain_look n c [] h e = absurd (let no : ◌≡◌ {A = Option Builtin} None (Some c) = e in cc)
plain_look n c (p ∷ ps) h e = plain_at n c p (look_up ps n) (bytes_eq p.0 n) refl h.0 (plain_look n c ps h.1) e

plain_or : (c : Builtin) (o q : Option Builtin) → (o ≡ Some c → IsPlainCall c) → (q ≡ Some c → IsPlainCall c) → or_else o q ≡ Some c → IsPlainCall c
plain_or c None q h k e = k e
plain_or c (Some d) q h k e = h e

-- a call whose name is neither is plain
pub plain_named : (n : Name) (c : Builtin) → bytes_eq begin_name n ≡ false → bytes_eq end_name n ≡ false → builtin_named n ≡ Some c → IsPlainCall c
plain_named n c no_begin no_end e =
    plain_or c (look_up thread_calls n) (look_up other_calls n)
    (plain_look n c thread_calls (inl tt, (inl tt, (inl tt, (inl tt, (inl tt, (inl tt, (inl tt, tt))))))))
    (plain_look n c other_calls (inl tt, (inl tt, (inl tt, (inl tt, (inl tt, (inl tt, (inl tt, (inl tt, (inl tt, (inl tt, (inr no_begin, (inr no_end, (inl tt, tt))))))))))))))
    e

pub plain_call : (p : Place) (n : Name) (c : Builtin) → broken_call p n ≡ None → builtin_named n ≡ Some c → IsPlainCall c
plain_call p n c whole e =
    let none : (bytes_eq begin_name n || bytes_eq end_name n) ≡ false = not-true (bytes_eq begin_name n || bytes_eq end_name n) (holds_at (not (bytes_eq begin_name n || bytes_eq end_name n)) p whole) in
    let parts : (bytes_eq begin_name n ≡ false) × (bytes_eq end_name n ≡ false) = or_parts (bytes_eq begin_name n) (bytes_eq end_name n) none in
    plain_named n c parts.0 parts.1 e

-- ---- marks

begun : (p q : Place) (n : Name) (b c : Bool) → bytes_eq begin_name n ≡ b → cond b (Begins p) (cond c (Ends p) Neither) ≡ Begins q → begin_name ≡ n
begun p q n true c is h = (bytes_eq-Decides begin_name n).0 is
begun p q n false true is h = absurd (let no : Ends p ≡ Begins q = h in cc)
begun p q n false false is h = absurd (let no : Neither ≡ Begins q = h in cc)

ended : (p q : Place) (n : Name) (b c : Bool) → bytes_eq end_name n ≡ c → cond b (Begins p) (cond c (Ends p) Neither) ≡ Ends q → end_name ≡ n
ended p q n true c is h = absurd (let no : Begins p ≡ Ends q = h in cc)
ended p q n false true is h = (bytes_eq-Decides end_name n).0 is
ended p q n false false is h = absurd (let no : Neither ≡ Ends q = h in cc)

-- a call that is marked as a begin has its name, and one that is marked as an end
pub begin_call : (p q : Place) (n : Name) → call_mark p n ≡ Begins q → begin_name ≡ n
begin_call p q n h = begun p q n (bytes_eq begin_name n) (bytes_eq end_name n) refl h

pub end_call : (p q : Place) (n : Name) → call_mark p n ≡ Ends q → end_name ≡ n
end_call p q n h = ended p q n (bytes_eq begin_name n) (bytes_eq end_name n) refl h

-- a mark among some that is not the first is among the rest
pub rest_marked : (q : Mark) (b : Bool) → (is_marked q || b) ≡ true → q ≡ Neither → b ≡ true
rest_marked (Begins p) b h is = absurd (let no : Begins p ≡ Neither = is in cc)
rest_marked (Ends p) b h is = absurd (let no : Ends p ≡ Neither = is in cc)
rest_marked Neither b h is = h
