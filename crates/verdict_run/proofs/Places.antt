-- Facts on each place of a list, one place further.
use Rattle.std.proofs.Common.{◌≡◌, ℕ, ◌+◌, ◌<◌, ◌≤◌, ◌⊎◌, inl, inr, true, false, List, [], ◌∷◌, ◌++◌, length, cond, sum_by, ap, sym, ◌∙◌, subst, arith}
use Rattle.std.specs.Prelude.{slice_get, Option, Some, None, MatchOption}
use Rattle.std.proofs.lemmas.List.{append_assoc, length-append}
use Rattle.std.proofs.lemmas.List.Sums.{sum_by_more, sum_by-take-le}
use Rattle.std.proofs.lemmas.Option.{get_or_from_slice_get, slice_get_within}
use Rattle.lemma_log.specs.declared.Entry.{Entry}
use Rattle.lemma_log.specs.Tickets.{AreInOrder}
use Rattle.dg_base.proofs.Lists.{one_answer, get_append_left}

pub not_false : false ≡ true → ⊥
not_false e = let one : ◌≡◌ {A = ℕ} 0 1 = ap (λ b. cond b 1 0) e in omega (arith, one)

-- what holds of each element below a place and of the one there holds below the next
pub next_place : {X : Type 0} (P : X → Type 0) (xs : List X) (i : ℕ) (x : X) → slice_get xs i ≡ Some x → ((k : ℕ) (y : X) → k < i → slice_get xs k ≡ Some y → P y) → P x → (k : ℕ) (y : X) → k < i + 1 → slice_get xs k ≡ Some y → P y
next_place P xs i x at below here k y lt at_y = elim (near k i lt) [
  | inl h ↦ below k y h at_y
  | inr h ↦ subst P (one_answer (slice_get xs i) x y at (subst (λ n. slice_get xs n ≡ Some y) h at_y)) here
]
  where
    near : (a b : ℕ) → a < b + 1 → (a < b) ⊎ (a ≡ b)
    near a b h = grind arith

-- a list is no longer than all together
pub within_sum : {X : Type 0} (lists : List (List X)) (i : ℕ) (xs : List X) → slice_get lists i ≡ Some xs → length xs < sum_by length lists + 1
within_sum lists i xs at =
    let more = sum_by_more length lists i xs (slice_get_within lists i xs at) in
    let is = ap length (get_or_from_slice_get lists i xs xs at) in
    omega (arith, more, is, sum_by-take-le length lists (i + 1))

-- the last of the first ones goes
pub popped : (log old new rest : List Entry) (o : Option Entry) (n : ℕ) → MatchOption o ((old ≡ []) × (new ≡ [])) (λ last. old ≡ new ++ last ∷ []) → n < length old → log ≡ old ++ rest → (n ≤ length new) × ((more : List Entry) × (log ≡ new ++ more))
popped log old new rest None n is lt all = let none = ap length is.0 in absurd (omega (arith, none, lt))
popped log old new rest (Some x) n is lt all =
    let long = ap length is ∙ length-append new (x ∷ []) in
    (omega (arith, long, lt), (x ∷ rest, all ∙ ap (λ l. l ++ rest) is ∙ append_assoc new (x ∷ []) rest))

-- the first entries of a log are in order
pub first_in_order : (log entries rest : List Entry) → log ≡ entries ++ rest → AreInOrder log → AreInOrder entries
first_in_order log entries rest all order = record {
  few = let long = ap length all ∙ length-append entries rest in omega (arith, long, order.few);
  each = λ k e at. order.each k e (subst (λ l. slice_get l k ≡ Some e) (sym all) (get_append_left entries rest k e at));
}
