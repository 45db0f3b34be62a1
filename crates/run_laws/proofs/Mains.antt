-- The main function of a checked program keeps the limits, and so does each thread below it.
use Rattle.std.proofs.Common.{◌≡◌, ℕ, ◌+◌, ◌≤◌, max, List, [], ◌∷◌, Option, Some, None, Bool, true, false, length, refl, sym, ap, subst, arith}
use Rattle.std.specs.Prelude.{IsTrue, cond, codes, nat_lt, unwrap_or}
use Rattle.std.specs.List.{AllByRecursion}
use Rattle.std.proofs.lemmas.Bool.{false≢true, ltb-false}
use Rattle.c_tree.specs.Level.{capped}
use Rattle.c_tree.specs.declared.program.Function.{Function}
use Rattle.c_tree.specs.declared.program.Item.{Item}
use Rattle.c_tree.specs.declared.program.Item.TheVariants as item
use Rattle.c_rules.specs.Names.{functions_of, function_named, is_some}
use Rattle.c_check.specs.declared.checked.Checked.{Checked}
use Rattle.c_check.specs.declared.counts.Counts.{Counts}
use Rattle.c_check.specs.Counts.{counts_of}
use Rattle.c_check.specs.Capped.{capped_counts}
use Rattle.c_check.specs.Limits.{Limited, first_exceeded, limits_of}
use Rattle.c_check.specs.WellFormed.{KeepsLimits, IsChecked}
use Rattle.run_model.specs.Names.{first_named}
use Rattle.run_model.specs.Programs.{shape_of}
use Rattle.run_laws.proofs.Routines.{has_number}
use Rattle.run_laws.proofs.FunctionCounts.{counts_for, named_counts}
use Rattle.run_laws.proofs.Threads.{Fine}
use Rattle.run_laws.proofs.Steady.{found, enough_fuel}

-- ---- limits

kept_at : (t : Bool) (l : Limited) (ls : List Limited) → cond t (Some l) (first_exceeded ls) ≡ None → (t ≡ false) × (first_exceeded ls ≡ None)
kept_at true l ls e = absurd (let no : ◌≡◌ {A = Option Limited} (Some l) None = e in cc)
kept_at false l ls e = (refl, e)

-- where no limit is exceeded, each is kept
pub all_kept : (ls : List Limited) → first_exceeded ls ≡ None → AllByRecursion (λ (l : Limited). l.count ≤ l.limit) ls
all_kept [] e = tt
all_kept (l ∷ ls) e = let parts = kept_at (nat_lt l.limit l.count) l ls e in (ltb-false l.limit l.count parts.0, all_kept ls parts.1)

-- the limits on counts
abbrev Few : Counts → Type 0
Few c = (max c.creates c.most ≤ 63) × (c.depth ≤ 4) × (c.accesses ≤ 1024) × (c.weight ≤ 32768)

-- main and the threads below it keep them
few_counted : (p : Checked) → KeepsLimits p.k p.program
    → Few (counts_of p.k p.program)
few_counted p h = let kept = (all_kept (limits_of p.k p.program) h).1.1 in (kept.0, kept.1.1.0, kept.1.1.1.0, kept.1.1.1.1.0)

-- ---- main

main_in : (fs : List Function) (o : Option Function) → function_named fs (codes "main") ≡ o → IsTrue (is_some o) → (h : Function) × (function_named fs (codes "main") ≡ Some h)
main_in fs None e t = absurd (false≢true t)
main_in fs (Some h) e t = (h, e)

functions_fewer : (xs : List Item) → length (functions_of xs) ≤ length xs
functions_fewer [] = omega arith
functions_fewer (item.Function f ∷ xs) = omega (arith, functions_fewer xs)
functions_fewer (item.Prototype p w n ∷ xs) = omega (arith, functions_fewer xs)
functions_fewer (item.Shared d ∷ xs) = omega (arith, functions_fewer xs)

still_few : (a b t : ℕ) → capped a ≡ capped b → a ≤ t → t ≤ 32768 → b ≤ t
still_few a b t e h low = omega (arith, e, h, low)

module _ (p : Checked) (checked : IsChecked p) where
  abbrev items : List Item
  items = p.program.items

  -- main has a number
  main_number : (f : ℕ) × (first_named (λ (h : Function). h.name) 0 (functions_of items) (codes "main") ≡ Some f)
  main_number =
      let there = main_in (functions_of items) (function_named (functions_of items) (codes "main")) refl checked.well_formed.main in
      has_number (functions_of items) 0 (codes "main") there.0 there.1

  -- main's thread is fine, with as much fuel as one wants
  pub main_fine : (least : ℕ) → Fine p least 0 (shape_of p.program).main
  main_fine least =
      let number = main_number in
      let main : ℕ = number.0 in
      let there = found (codes "main") (functions_of items) main number.1 in
      let n : ℕ = length items in
      let counted : counts_of p.k p.program ≡ counts_for p n main = named_counts p (codes "main") n main number.1 in
      let few : Few (counts_for p n main) = subst Few counted (few_counted p checked.well_formed.limits) in
      let low : length (functions_of items) ≤ n = functions_fewer items in
      let same : capped_counts (counts_for p n main) ≡ capped_counts (counts_for p (n + least) main) = enough_fuel p checked.well_formed.straight least n main there.0 there.1 low in
      let it : Fine p least 0 main = record {
        fuel = n + least;
        enough = omega arith;
        level = omega arith;
        few = still_few _ _ 63 (ap (λ (c : Counts). c.creates) same) (omega (arith, few.0)) (omega arith);
        low = (
          still_few _ _ 63 (ap (λ (c : Counts). c.most) same) (omega (arith, few.0)) (omega arith),
          still_few _ _ 4 (ap (λ (c : Counts). c.depth) same) few.1 (omega arith),
          still_few _ _ 1024 (ap (λ (c : Counts). c.accesses) same) few.2 (omega arith),
          still_few _ _ 32768 (ap (λ (c : Counts). c.weight) same) few.3 (omega arith),
        );
      } in
      let main_is : (shape_of p.program).main ≡ main = ap (λ (o : Option ℕ). unwrap_or o 0) number.1 in
      subst (Fine p least 0) (sym main_is) it
