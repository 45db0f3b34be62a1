-- More fuel changes no count that is far from the largest u32, in a program without recursion.
use Rattle.std.proofs.Common.{◌≡◌, ℕ, zero, suc, ◌+◌, ◌≤◌, List, [], ◌∷◌, Option, Some, None, Bool, true, false, length, refl, sym, ap, ◌∙◌, subst, arith}
use Rattle.std.specs.Prelude.{slice_get, cond}
use Rattle.std.specs.List.{Contains}
use Rattle.std.specs.Str.{bytes_eq}
use Rattle.c_tree.specs.declared.program.Function.{Function}
use Rattle.c_tree.specs.declared.program.Item.{Item}
use Rattle.c_tree.specs.declared.program.Item.TheVariants as item
use Rattle.c_rules.specs.Names.{Name, functions_of}
use Rattle.c_rules.specs.declared.names.Entry.{Entry}
use Rattle.c_rules.specs.Walk.{walk_body}
use Rattle.c_check.specs.declared.checked.Checked.{Checked}
use Rattle.c_check.specs.declared.counts.Counts.{Counts}
use Rattle.c_check.specs.Recursion.{called_by, number_from, number_of, NoRecursion}
use Rattle.c_check.specs.Counts.{exact, top_before, counts_walk, at_number, counts_within}
use Rattle.c_check.specs.Capped.{capped_counts}
use Rattle.c_check.proofs.SameWalk.{body_capped}
use Rattle.run_model.specs.Names.{first_named}
use Rattle.run_model.specs.Calls.{Setting, function_named}
use Rattle.run_model.specs.Programs.{setting_of}
use Rattle.run_model.proofs.Fuel.{number_in, Way, not_all, further, no_way}
use Rattle.run_laws.proofs.FunctionCounts.{counts_for, bodies, named_counts, counts_are}

-- ---- numbers of names

module _ (n : Name) where
  no_number_at : (f : Function) (xs : List Item) (i j : ℕ) (t : Bool) → (first_named (λ (f : Function). f.name) (i + 1) (functions_of xs) n ≡ None → number_from (j + 1) xs n ≡ None)
      → cond t (Some i) (first_named (λ (f : Function). f.name) (i + 1) (functions_of xs) n) ≡ None → cond t (Some j) (number_from (j + 1) xs n) ≡ None
  no_number_at f xs i j true rest e = absurd (let no : ◌≡◌ {A = Option ℕ} (Some i) None = e in cc)
  no_number_at f xs i j false rest e = rest e

  -- a name that is no function's has no number among the items
  no_number : (xs : List Item) (i j : ℕ) → first_named (λ (f : Function). f.name) i (functions_of xs) n ≡ None → number_from j xs n ≡ None
  no_number [] i j e = refl
  no_number (item.Function f ∷ xs) i j e = no_number_at f xs i j (bytes_eq f.name n) (no_number xs (i + 1) (j + 1)) e
  no_number (item.Prototype p w m ∷ xs) i j e = no_number xs i (j + 1) e
  no_number (item.Shared d ∷ xs) i j e = no_number xs i (j + 1) e

  -- a number that is found is one of the list
  abbrev Stands : List Function → ℕ → ℕ → Type 0
  Stands fs i k = (m : ℕ) × (h : Function) × (k ≡ i + m) × (slice_get fs m ≡ Some h)

  stands_in : (x : Function) (fs : List Function) (i k : ℕ) (t : Bool) → (first_named (λ (f : Function). f.name) (i + 1) fs n ≡ Some k → Stands fs (i + 1) k)
      → cond t (Some i) (first_named (λ (f : Function). f.name) (i + 1) fs n) ≡ Some k → Stands (x ∷ fs) i k
  stands_in x fs i k true rest e = let same : i ≡ k = cc in (0, x, omega (arith, same), refl)
  stands_in x fs i k false rest e = let later : Stands fs (i + 1) k = rest e in (suc later.0, later.1, omega (arith, later.2), later.3)

  stands : (fs : List Function) (i k : ℕ) → first_named (λ (f : Function). f.name) i fs n ≡ Some k → Stands fs i k
  stands [] i k e = absurd (let no : ◌≡◌ {A = Option ℕ} None (Some k) = e in cc)
  stands (x ∷ fs) i k e = stands_in x fs i k (bytes_eq x.name n) (stands fs (i + 1) k) e

  -- the function of a number
  pub found : (fs : List Function) (k : ℕ) → first_named (λ (f : Function). f.name) 0 fs n ≡ Some k → (h : Function) × (slice_get fs k ≡ Some h)
  found fs k e =
      let it : Stands fs 0 k = stands fs 0 k e in
      let same : it.0 ≡ k = omega (arith, it.2) in
      (it.1, subst (λ (m : ℕ). slice_get fs m ≡ Some it.1) same it.3)

-- ---- fuel

-- a body comes to the same, capped, where what it calls does
same_body : (k : ℕ) (a b : Name → Counts) (top : List Entry) (f : Function) → ((n : Name) → Contains (called_by f) n → capped_counts (a n) ≡ capped_counts (b n))
    → capped_counts (walk_body (counts_walk exact k a) top f) ≡ capped_counts (walk_body (counts_walk exact k b) top f)
same_body k a b top f h = sym (body_capped k a (λ n. capped_counts (a n)) top f (λ n c. refl)) ∙ body_capped k b (λ n. capped_counts (a n)) top f h

module _ (p : Checked) (straight : NoRecursion p.program.items) where
  abbrev items : List Item
  items = p.program.items

  abbrev g : Setting
  g = setting_of p 0

  abbrev IsWay : List ℕ → ℕ → Type 0
  IsWay path f = Way items g refl straight path f

  -- one more of fuel changes nothing
  abbrev Stays : ℕ → ℕ → Type 0
  Stays m f = capped_counts (counts_for p m f) ≡ capped_counts (counts_for p (suc m) f)

  named_stays : (n : Name) (m : ℕ) (o : Option ℕ) → function_named g n ≡ o → ((f : ℕ) → o ≡ Some f → Stays m f) → capped_counts (bodies p m n) ≡ capped_counts (bodies p (suc m) n)
  named_stays n m None e rest =
      let none : number_of items n ≡ None = no_number n items 0 0 e in
      ap (λ (o : Option ℕ). capped_counts (at_number (counts_within m p.k items) o)) none ∙ sym (ap (λ (o : Option ℕ). capped_counts (at_number (counts_within (suc m) p.k items) o)) none)
  named_stays n m (Some f) e rest = ap capped_counts (named_counts p n m f e) ∙ rest f refl ∙ sym (ap capped_counts (named_counts p n (suc m) f e))

  stays : (m : ℕ) (path : List ℕ) (f : ℕ) (h : Function) → slice_get g.functions f ≡ Some h → IsWay path f → length g.functions ≤ m + length path → Stays m f
  stays zero path f h e way enough = absurd (let long : length (f ∷ path) ≤ length g.functions = not_all items g refl straight path f h e way in omega (arith, long, enough))
  stays (suc m) path f h e way enough =
      ap capped_counts (counts_are p m f h e)
      ∙ same_body p.k (bodies p m) (bodies p (suc m)) (top_before items (number_in items f)) h (λ n c.
      named_stays n m (function_named g n) refl (λ k named.
      let there = found n g.functions k named in
      stays m (f ∷ path) k there.0 there.1 (further items g refl straight path f h e way n k c named) (omega (arith, enough))))
      ∙ sym (ap capped_counts (counts_are p (suc m) f h e))

  -- fuel for all functions is enough
  pub enough_fuel : (more m f : ℕ) (h : Function) → slice_get g.functions f ≡ Some h → length g.functions ≤ m → capped_counts (counts_for p m f) ≡ capped_counts (counts_for p (m + more) f)
  enough_fuel zero m f h e low = ap (λ (n : ℕ). capped_counts (counts_for p n f)) (let same : m ≡ m + 0 = omega arith in same)
  enough_fuel (suc more) m f h e low =
      enough_fuel more m f h e low ∙ stays (m + more) [] f h e (no_way items g refl straight f) (omega (arith, low))
      ∙ ap (λ (n : ℕ). capped_counts (counts_for p n f)) (let same : suc (m + more) ≡ m + suc more = omega arith in same)
