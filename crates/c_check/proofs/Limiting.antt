-- A limit by a capped count.
use Rattle.std.proofs.Common.{◌≡◌, ◌∙◌, ◌<◌, ℕ, ap, sym, refl, cond, Bool, true, false, Option, Some, None, List, ◌∷◌, length, arith}
use Rattle.std.specs.Prelude.{nat_lt, codes}
use Rattle.std.proofs.lemmas.Bool.Decides.{nat_tests}
use Rattle.c_tree.specs.Level.{capped}
use Rattle.dg_base.specs.declared.refusal.LimitKind.{LimitKind}
use Rattle.c_check.specs.declared.limits.Exceeded.{Exceeded}
use Rattle.c_check.specs.Limits.{Limited, limited, first_exceeded, exceeds, limits_by, told}
use Rattle.c_tree.specs.declared.program.Item.{Item}
use Rattle.c_check.specs.declared.counts.Counts.{Counts}
use Rattle.c_check.specs.Counts.{counts_named, counts_within}
use Rattle.c_check.specs.Capped.{capped_counts}
use Rattle.c_check.specs.WellFormed.{Exceeds}
use Rattle.c_tree.specs.declared.program.Program.{Program}
use Rattle.std.proofs.lemmas.Option.{same_Some}

same_test : (l n : ℕ) → l < 40000 → nat_lt l (capped n) ≡ nat_lt l n
same_test l n h = grind (arith, nat_tests)

choice : (b : Bool) (k : LimitKind) (l n : ℕ) (ls : List Limited) (r : Option Exceeded) → r ≡ told (first_exceeded ls)
    → cond b (Some (record { kind = k; count = capped n })) r ≡ told (cond b (Some (limited k l n)) (first_exceeded ls))
choice true k l n ls r e = refl
choice false k l n ls r e = e

pub limit : (k : LimitKind) (l n c : ℕ) (ls : List Limited) (r s : Option Exceeded) → l < 40000 → c ≡ capped n → r ≡ told (first_exceeded ls)
    → s ≡ cond (nat_lt l c) (Some (record { kind = k; count = c })) r → s ≡ told (first_exceeded (limited k l n ∷ ls))
limit k l n c ls r s h e q z =
    z ∙ (ap (λ (m : ℕ). cond (nat_lt l m) (Some (record { kind = k; count = m })) r) e
    ∙ (ap (λ (b : Bool). cond b (Some (record { kind = k; count = capped n })) r) (same_test l n h) ∙ choice (nat_lt l n) k l n ls r q))

same_told : {A : Type 0} (f : Exceeded → A) (a b : Exceeded) → Some a ≡ Some b → f a ≡ f b
same_told f a b h = ap f (same_Some a b h)

exceeds_by : (k : ℕ) (program : Program) (o : Option Limited) (l : Exceeded) → exceeds k program ≡ o → Some l ≡ told o → Exceeds k program l.kind l.count
exceeds_by k program None l e h = absurd (cc)
exceeds_by k program (Some m) l e h = record {
  limited = m;
  first = e;
  same_kind = sym (same_told (λ (x : Exceeded). x.kind) l (record { kind = m.kind; count = capped m.count }) h);
  told = same_told (λ (x : Exceeded). x.count) l (record { kind = m.kind; count = capped m.count }) h;
}

-- what is told exceeds its limit
pub exceeds_told : (k : ℕ) (program : Program) (l : Exceeded) → Some l ≡ told (exceeds k program) → Exceeds k program l.kind l.count
exceeds_told k program l h = exceeds_by k program (exceeds k program) l refl h

pub exceeds_by_counts : (k : ℕ) (program : Program) (items : List Item) (counts : Counts) (l : Exceeded) → items ≡ program.items
    → counts ≡ capped_counts (counts_named (counts_within (length items) k items) items (codes "main"))
    → ((n : Counts) → counts ≡ capped_counts n → Some l ≡ told (first_exceeded (limits_by items n))) → Exceeds k program l.kind l.count
exceeds_by_counts k program items counts l e h f =
    exceeds_told k program l
    (f (counts_named (counts_within (length items) k items) items (codes "main")) h
    ∙ ap (λ (is : List Item). told (first_exceeded (limits_by is (counts_named (counts_within (length is) k is) is (codes "main"))))) e)
