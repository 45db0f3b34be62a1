-- A well formed program has no first refusal, and any program has one at most: each first refusal breaks the rule that it is
-- for, and the rules before that hold.
use Rattle.std.proofs.Common.{◌≡◌, ◌≢◌, ◌⊎◌, inl, inr, ℕ, ◌<◌, ◌≤◌, List, Some, refl, sym, ap, ◌∙◌, arith}
use Rattle.std.specs.Prelude.{slice_get}
use Rattle.std.proofs.lemmas.Bool.{cases_order}
use Rattle.dg_base.proofs.Lists.{not_none, one_answer}
use Rattle.dg_base.specs.declared.Place.{Place}
use Rattle.dg_base.specs.declared.refusal.LimitKind.{LimitKind}
use Rattle.dg_base.specs.declared.refusal.Refusal.{Refusal}
use Rattle.dg_base.specs.declared.refusal.Refusal.TheVariants as refusal
use Rattle.c_tree.specs.Level.{capped}
use Rattle.c_tree.specs.declared.program.Function.{Function}
use Rattle.c_tree.specs.declared.program.Item.{Item}
use Rattle.c_tree.specs.declared.program.Item.TheVariants as item
use Rattle.c_tree.specs.declared.program.Program.{Program}
use Rattle.c_rules.specs.Naming.{HasMain, DeclaresOnce, KnowsNames}
use Rattle.c_rules.specs.Typing.{IsTyped}
use Rattle.c_check.specs.Recursion.{IsFirstRecursive}
use Rattle.c_check.specs.Limits.{Limited, exceeds}
use Rattle.c_check.specs.WellFormed.{MatchesSections, IsNotRecursive, KeepsLimits, Exceeds, IsFirstRefusal, IsWellFormed}

-- the rule that a refusal is for
abbrev pub Holds : ℕ → Program → Refusal → Type 0
Holds k program refusal.NoMain = HasMain program
Holds k program (refusal.Duplicate p) = DeclaresOnce program
Holds k program (refusal.Unknown p) = KnowsNames program
Holds k program (refusal.BadType p) = IsTyped program
Holds k program (refusal.UnmatchedAtomic p) = MatchesSections program
Holds k program (refusal.Recursion p) = IsNotRecursive program
Holds k program (refusal.Limit c m) = KeepsLimits k program
Holds k program _ = Unit {0}

-- it is broken where the refusal is the first
pub is_broken : (k : ℕ) (program : Program) (e : Refusal) → IsFirstRefusal k program e → e ≢ refusal.OutOfMemory → Holds k program e → ⊥
is_broken k program refusal.NoMain h n w = h w
is_broken k program (refusal.Duplicate p) h n w = not_none _ p w h.1
is_broken k program (refusal.Unknown p) h n w = not_none _ p w h.2
is_broken k program (refusal.BadType p) h n w = not_none _ p w h.1
is_broken k program (refusal.UnmatchedAtomic p) h n w = not_none _ p w h.2
is_broken k program (refusal.Recursion p) h n w = w h.3.number h.3.recursive
is_broken k program (refusal.Limit c m) h n w = not_none _ h.4.limited w h.4.first
is_broken k program refusal.OutOfMemory h n w = n refl
is_broken k program (refusal.BadByte p) h n w = h
is_broken k program (refusal.Unsupported p text) h n w = h
is_broken k program (refusal.Syntax p) h n w = h

-- and holds of a well formed program
pub well_formed_holds : (k : ℕ) (program : Program) (e : Refusal) → IsWellFormed k program → Holds k program e
well_formed_holds k program refusal.NoMain w = w.main
well_formed_holds k program (refusal.Duplicate p) w = w.once
well_formed_holds k program (refusal.Unknown p) w = w.known
well_formed_holds k program (refusal.BadType p) w = w.typed
well_formed_holds k program (refusal.UnmatchedAtomic p) w = w.sections
well_formed_holds k program (refusal.Recursion p) w = w.straight
well_formed_holds k program (refusal.Limit c m) w = w.limits
well_formed_holds k program _ w = tt

same_function : (items : List Item) (m n : ℕ) (f g : Function) → m ≡ n → slice_get items m ≡ Some (item.Function f) → slice_get items n ≡ Some (item.Function g) → f ≡ g
same_function items m n f g e h k = cc

-- one function is the first that leads back to itself
one_recursive : (items : List Item) (p q : Place) → IsFirstRecursive items p → IsFirstRecursive items q → p ≡ q
one_recursive items p q x y = by (cases_order x.number y.number)
  where
    by : (x.number ≡ y.number) ⊎ ((x.number < y.number) ⊎ (y.number < x.number)) → p ≡ q
    by (inl e) = sym x.is ∙ (ap (λ (f : Function). f.place) (same_function items x.number y.number x.function y.function e x.stands y.stands) ∙ y.is)
    by (inr (inl l)) = absurd (y.first x.number l x.recursive)
    by (inr (inr l)) = absurd (x.first y.number l y.recursive)

one_limit : (k : ℕ) (program : Program) (c d : LimitKind) (m n : ℕ) → Exceeds k program c m → Exceeds k program d n → refusal.Limit c m ≡ refusal.Limit d n
one_limit k program c d m n x y =
    let same : x.limited ≡ y.limited = one_answer (exceeds k program) x.limited y.limited x.first y.first in
    let kinds : c ≡ d = sym x.same_kind ∙ (ap (λ (l : Limited). l.kind) same ∙ y.same_kind) in
    let counts : m ≡ n = x.told ∙ (ap (λ (l : Limited). capped l.count) same ∙ sym y.told) in
    cc

-- the place of a refusal in the order of the rules
abbrev rank : Refusal → ℕ
rank refusal.NoMain = 0
rank (refusal.Duplicate p) = 1
rank (refusal.Unknown p) = 2
rank (refusal.BadType p) = 3
rank (refusal.UnmatchedAtomic p) = 4
rank (refusal.Recursion p) = 5
rank (refusal.Limit c m) = 6
rank refusal.OutOfMemory = 7
rank (refusal.BadByte p) = 8
rank (refusal.Unsupported p w) = 9
rank (refusal.Syntax p) = 10

-- the rules before that of a first refusal hold
main_before : (k : ℕ) (program : Program) (e : Refusal) → IsFirstRefusal k program e → 0 < rank e → rank e ≤ 6 → HasMain program
main_before k program (refusal.Duplicate p) h l small = h.0
main_before k program (refusal.Unknown p) h l small = h.0
main_before k program (refusal.BadType p) h l small = h.0.main
main_before k program (refusal.UnmatchedAtomic p) h l small = h.0.main
main_before k program (refusal.Recursion p) h l small = h.0.main
main_before k program (refusal.Limit c m) h l small = h.0.main
main_before k program _ h l small = absurd (omega arith)

once_before : (k : ℕ) (program : Program) (e : Refusal) → IsFirstRefusal k program e → 1 < rank e → rank e ≤ 6 → DeclaresOnce program
once_before k program (refusal.Unknown p) h l small = h.1
once_before k program (refusal.BadType p) h l small = h.0.once
once_before k program (refusal.UnmatchedAtomic p) h l small = h.0.once
once_before k program (refusal.Recursion p) h l small = h.0.once
once_before k program (refusal.Limit c m) h l small = h.0.once
once_before k program _ h l small = absurd (omega arith)

known_before : (k : ℕ) (program : Program) (e : Refusal) → IsFirstRefusal k program e → 2 < rank e → rank e ≤ 6 → KnowsNames program
known_before k program (refusal.BadType p) h l small = h.0.known
known_before k program (refusal.UnmatchedAtomic p) h l small = h.0.known
known_before k program (refusal.Recursion p) h l small = h.0.known
known_before k program (refusal.Limit c m) h l small = h.0.known
known_before k program _ h l small = absurd (omega arith)

typed_before : (k : ℕ) (program : Program) (e : Refusal) → IsFirstRefusal k program e → 3 < rank e → rank e ≤ 6 → IsTyped program
typed_before k program (refusal.UnmatchedAtomic p) h l small = h.1
typed_before k program (refusal.Recursion p) h l small = h.1
typed_before k program (refusal.Limit c m) h l small = h.1
typed_before k program _ h l small = absurd (omega arith)

sections_before : (k : ℕ) (program : Program) (e : Refusal) → IsFirstRefusal k program e → 4 < rank e → rank e ≤ 6 → MatchesSections program
sections_before k program (refusal.Recursion p) h l small = h.2
sections_before k program (refusal.Limit c m) h l small = h.2
sections_before k program _ h l small = absurd (omega arith)

straight_before : (k : ℕ) (program : Program) (e : Refusal) → IsFirstRefusal k program e → 5 < rank e → rank e ≤ 6 → IsNotRecursive program
straight_before k program (refusal.Limit c m) h l small = h.3
straight_before k program _ h l small = absurd (omega arith)

rule_before : (k : ℕ) (program : Program) (e f : Refusal) → IsFirstRefusal k program e → rank e ≤ 6 → rank f < rank e → Holds k program f
rule_before k program e refusal.NoMain h small l = main_before k program e h l small
rule_before k program e (refusal.Duplicate p) h small l = once_before k program e h l small
rule_before k program e (refusal.Unknown p) h small l = known_before k program e h l small
rule_before k program e (refusal.BadType p) h small l = typed_before k program e h l small
rule_before k program e (refusal.UnmatchedAtomic p) h small l = sections_before k program e h l small
rule_before k program e (refusal.Recursion p) h small l = straight_before k program e h l small
rule_before k program e (refusal.Limit c m) h small l = absurd (omega arith)
rule_before k program e _ h small l = tt

rank_small : (k : ℕ) (program : Program) (e : Refusal) → IsFirstRefusal k program e → e ≢ refusal.OutOfMemory → rank e ≤ 6
rank_small k program refusal.OutOfMemory h n = absurd (n refl)
rank_small k program (refusal.BadByte p) h n = absurd h
rank_small k program (refusal.Unsupported p w) h n = absurd h
rank_small k program (refusal.Syntax p) h n = absurd h
rank_small k program _ h n = omega arith

none_earlier : (k : ℕ) (program : Program) (e f : Refusal) → IsFirstRefusal k program e → e ≢ refusal.OutOfMemory → IsFirstRefusal k program f → f ≢ refusal.OutOfMemory → rank f < rank e → ⊥
none_earlier k program e f h n g m l = is_broken k program f g m (rule_before k program e f h (rank_small k program e h n) l)

-- two refusals for one rule are one
same_rule : (k : ℕ) (program : Program) (e f : Refusal) → rank e ≡ rank f → IsFirstRefusal k program e → IsFirstRefusal k program f → e ≢ refusal.OutOfMemory → e ≡ f
same_rule k program refusal.NoMain refusal.NoMain s h g n = refl
same_rule k program (refusal.Duplicate p) (refusal.Duplicate q) s h g n = ap refusal.Duplicate (one_answer _ p q h.1 g.1)
same_rule k program (refusal.Unknown p) (refusal.Unknown q) s h g n = ap refusal.Unknown (one_answer _ p q h.2 g.2)
same_rule k program (refusal.BadType p) (refusal.BadType q) s h g n = ap refusal.BadType (one_answer _ p q h.1 g.1)
same_rule k program (refusal.UnmatchedAtomic p) (refusal.UnmatchedAtomic q) s h g n = ap refusal.UnmatchedAtomic (one_answer _ p q h.2 g.2)
same_rule k program (refusal.Recursion p) (refusal.Recursion q) s h g n = ap refusal.Recursion (one_recursive program.items p q h.3 g.3)
same_rule k program (refusal.Limit c m) (refusal.Limit d l) s h g n = one_limit k program c d m l h.4 g.4
same_rule k program refusal.OutOfMemory f s h g n = absurd (n refl)
same_rule k program (refusal.BadByte p) f s h g n = absurd h
same_rule k program (refusal.Unsupported p w) f s h g n = absurd h
same_rule k program (refusal.Syntax p) f s h g n = absurd h
same_rule k program _ _ s h g n = absurd (omega arith)

-- a program has one first refusal
pub one_first : (k : ℕ) (program : Program) (e f : Refusal) → IsFirstRefusal k program e → e ≢ refusal.OutOfMemory → IsFirstRefusal k program f → f ≢ refusal.OutOfMemory → e ≡ f
one_first k program e f h n g m = by (cases_order (rank e) (rank f))
  where
    by : (rank e ≡ rank f) ⊎ ((rank e < rank f) ⊎ (rank f < rank e)) → e ≡ f
    by (inl s) = same_rule k program e f s h g n
    by (inr (inl l)) = absurd (none_earlier k program f e g m h n l)
    by (inr (inr l)) = absurd (none_earlier k program e f h n g m l)
