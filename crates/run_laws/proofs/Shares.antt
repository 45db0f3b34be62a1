-- An access to a shared variable of a program that fits its types is counted.
use Rattle.std.proofs.Common.{◌≡◌, ℕ, zero, suc, ◌≤◌, List, [], ◌∷◌, Option, Some, None, Bool, true, false, take, refl, subst, arith}
use Rattle.std.specs.Prelude.{nat_lt}
use Rattle.std.proofs.lemmas.Bool.{false≢true, and_parts, ltb-true}
use Rattle.std.proofs.lemmas.Option.{same_Some}
use Rattle.c_tree.specs.declared.constants.Constant.{Constant}
use Rattle.c_tree.specs.Constants.{constant_of, value_or_zero}
use Rattle.c_tree.specs.declared.expr.Expr.{Expr}
use Rattle.c_tree.specs.declared.expr.TypeWord.{TypeWord}
use Rattle.c_tree.specs.declared.stmt.Declarator.{Declarator}
use Rattle.c_tree.specs.declared.program.Function.{Function}
use Rattle.c_tree.specs.declared.program.Item.{Item}
use Rattle.c_tree.specs.declared.program.Item.TheVariants as item
use Rattle.c_rules.specs.declared.names.Variable.{Variable}
use Rattle.c_rules.specs.Names.{Scope}
use Rattle.c_rules.specs.Walk.{cells_of_size, variable_entry, declare, declare_all, declarators, behind_item, walk_item, walk_items, top_scope}
use Rattle.c_rules.specs.Scopes.{rule_walk, unless}
use Rattle.c_rules.specs.Types.{is_positive, size_fits, word_fits, declarator_fits, broken_size, broken_declarator, typed_rules}
use Rattle.c_check.specs.Counts.{behind_items}
use Rattle.run_laws.proofs.Naming.{IsCounted, AllCounted, counted_more}
use Rattle.run_laws.proofs.Expressions.{both_none, holds_at}

positive_at : (o : Option Constant) → is_positive o ≡ true → 1 ≤ value_or_zero o
positive_at None e = absurd (false≢true e)
positive_at (Some c) e = omega (arith, ltb-true 0 c.value (and_parts (nat_lt 0 c.value) _ e).0)

-- a shared variable, by its size
sized : (w : TypeWord) (size : Option Expr) (top : Bool) → top ≡ true → size_fits size ≡ true → IsCounted (record { word = w; cells = cells_of_size size; shared = top })
sized w size false e fits = absurd (false≢true e)
sized w None true e fits = omega arith
sized w (Some x) true e fits = positive_at (constant_of x) fits

-- a scope at the top of the program
record AtTop (s : Scope) : Type 0 where
  pub top : s.top ≡ true
  pub counts : AllCounted s.entries

module _ (fs : List Function) where
  declared_counts : (s : Scope) (w : TypeWord) (d : Declarator) → AtTop s → broken_declarator fs s w d ≡ None → AtTop (declare w d s)
  declared_counts s w d h e =
      let last = (both_none (broken_size _ d.size) _ e).1 in
      let fits : declarator_fits s.top w d ≡ true = holds_at (declarator_fits s.top w d) d.place (both_none _ (unless (declarator_fits s.top w d) d.place) last).1 in
      let sizes : size_fits d.size ≡ true = (and_parts (size_fits d.size) _ (and_parts (word_fits s.top w) _ fits).1).0 in
      let one : Variable = record { word = w; cells = cells_of_size d.size; shared = s.top } in
      record {
        top = h.top;
        counts = counted_more s.entries (variable_entry d.name w (cells_of_size d.size) s.top) (λ v is. subst IsCounted (same_Some one v is) (sized w d.size s.top h.top sizes)) h.counts;
      }

  all_declared : (w : TypeWord) (ds : List Declarator) (s : Scope) → AtTop s → declarators (rule_walk (typed_rules fs)) w ds s ≡ None → AtTop (declare_all w ds s)
  all_declared w [] s h e = h
  all_declared w (d ∷ ds) s h e =
      let parts = both_none (broken_declarator fs s w d) (declarators (rule_walk (typed_rules fs)) w ds (declare w d s)) e in
      all_declared w ds (declare w d s) (declared_counts s w d h parts.0) parts.1

  item_counts : (x : Item) (s : Scope) → AtTop s → walk_item (rule_walk (typed_rules fs)) x s ≡ None → AtTop (behind_item x s)
  item_counts (item.Function f) s h e = record {
    top = h.top;
    counts = counted_more s.entries (record { name = f.name; variable = None }) (λ v is. absurd (let no : ◌≡◌ {A = Option Variable} None (Some v) = is in cc)) h.counts;
  }
  item_counts (item.Prototype p w n) s h e = h
  item_counts (item.Shared d) s h e = all_declared d.word d.declarators s h e

  items_count : (xs : List Item) (s : Scope) (i : ℕ) → AtTop s → walk_items (rule_walk (typed_rules fs)) xs s ≡ None → AtTop (behind_items (take i xs) s)
  items_count [] s zero h e = h
  items_count [] s (suc i) h e = h
  items_count (x ∷ xs) s zero h e = h
  items_count (x ∷ xs) s (suc i) h e =
      let parts = both_none (walk_item (rule_walk (typed_rules fs)) x s) (walk_items (rule_walk (typed_rules fs)) xs (behind_item x s)) e in
      items_count xs (behind_item x s) i (item_counts x s h parts.0) parts.1

  -- before each item
  pub top_counts : (xs : List Item) (i : ℕ) → walk_items (rule_walk (typed_rules fs)) xs top_scope ≡ None → AllCounted (behind_items (take i xs) top_scope).entries
  top_counts xs i e =
      let none : AtTop top_scope = record { top = refl; counts = λ n v is. absurd (let no : ◌≡◌ {A = Option Variable} None (Some v) = is in cc) } in
      (items_count xs top_scope i none e).counts
