-- Where no name is declared twice in its scope, the functions' names differ.
use Rattle.std.proofs.Common.{◌≡◌, ◌≢◌, ◌||◌, Bool, true, false, not, List, [], ◌∷◌, ◌++◌, map, drop, Some, None, refl, ◌∙◌, subst, bytes_eq}
use Rattle.std.specs.List.{AllByRecursion}
use Rattle.std.proofs.lemmas.Bool.{and_parts, or_parts, not-true}
use Rattle.std.proofs.lemmas.Slice.Eq.{bytes_eq-Decides}
use Rattle.dg_base.specs.declared.Place.{Place}
use Rattle.c_tree.specs.declared.expr.TypeWord.{TypeWord}
use Rattle.c_tree.specs.declared.stmt.Declarator.{Declarator}
use Rattle.c_tree.specs.declared.program.Function.{Function}
use Rattle.c_tree.specs.declared.program.Item.{Item}
use Rattle.c_tree.specs.declared.program.Item.TheVariants as item
use Rattle.c_tree.specs.declared.program.Program.{Program}
use Rattle.c_rules.specs.declared.names.Entry.{Entry}
use Rattle.c_rules.specs.Names.{Name, Scope, or_else, is_some, is_declared, own_entries, functions_of, builtin_named, may_be_defined}
use Rattle.c_rules.specs.Scopes.{First, unless, may_name_function, once_rules, rule_walk, repeated_param}
use Rattle.c_rules.specs.Walk.{Walk, walk_items, walk_item, walk_body, declare, declare_all, declare_function, top_scope}
use Rattle.c_rules.specs.Naming.{DeclaresOnce}
use Rattle.c_check.specs.Checked.{function_names}
use Rattle.c_check.specs.PlainNames.{AreDistinct}
use Rattle.c_check.proofs.PlainNames.{all_map}

abbrev function_list : List Item → List Name
function_list xs = map (λ (f : Function). f.name) (functions_of xs)

none_parts : (f g : First) → or_else f g ≡ None → (f ≡ None) × (g ≡ None)
none_parts None g e = (refl, e)
none_parts (Some p) g e = absurd cc

unless_none : (b : Bool) (p : Place) → unless b p ≡ None → b ≡ true
unless_none true p e = refl
unless_none false p e = absurd cc

-- what is not declared behind more declarations was not before
less_declared : (es more : List Entry) (n : Name) → is_declared (es ++ more) n ≡ false → is_declared es n ≡ false
less_declared [] more n h = refl
less_declared (e ∷ es) more n h =
    let p = or_parts (bytes_eq e.name n) (is_declared (es ++ more) n) h in
    rw (p.0) (less_declared es more n p.1)

last_differs : (es : List Entry) (e : Entry) (n : Name) → is_declared (es ++ e ∷ []) n ≡ false → bytes_eq e.name n ≡ false
last_differs [] e n h = (or_parts (bytes_eq e.name n) false h).0
last_differs (d ∷ es) e n h = last_differs es e n (or_parts (bytes_eq d.name n) (is_declared (es ++ e ∷ []) n) h).1

differs : (m n : Name) → bytes_eq m n ≡ false → m ≢ n
differs m n h e = let same : bytes_eq m n ≡ true = (bytes_eq-Decides m n).1 e in absurd cc

-- names that these entries do not declare
abbrev AreNew : List Entry → List Name → Type 0
AreNew es ns = AllByRecursion (λ n. is_declared es n ≡ false) ns

declared_start : (w : TypeWord) (ds : List Declarator) (s : Scope) → (declare_all w ds s).start ≡ s.start
declared_start w [] s = refl
declared_start w (d ∷ ds) s = declared_start w ds (declare w d s)

declared_less : (w : TypeWord) (ds : List Declarator) (s : Scope) (n : Name) → is_declared (declare_all w ds s).entries n ≡ false → is_declared s.entries n ≡ false
declared_less w [] s n h = h
declared_less w (d ∷ ds) s n h = less_declared s.entries _ n (declared_less w ds (declare w d s) n h)

-- names of functions that are new and differ
record Differ (es : List Entry) (ns : List Name) : Type 0 where
  are_new : AreNew es ns
  distinct : AreDistinct ns

-- a function's name that is found right is new
name_is_new : (s : Scope) (f : Function) → s.start ≡ 0 → or_else (unless (may_name_function s f.name) f.place) (repeated_param [] f.params) ≡ None → is_declared s.entries f.name ≡ false
name_is_new s f z e =
    let may = unless_none (may_name_function s f.name) f.place (none_parts (unless (may_name_function s f.name) f.place) (repeated_param [] f.params) e).0 in
    let fresh = not-true (is_declared (own_entries s) f.name) (and_parts (not (is_declared (own_entries s) f.name)) (not (is_some (builtin_named f.name)) || may_be_defined f.name) may).0 in
    subst (λ k. is_declared (drop k s.entries) f.name ≡ false) z fresh

-- one more function in front
with_function : (s : Scope) (f : Function) (ns : List Name) → is_declared s.entries f.name ≡ false → Differ (declare_function f s).entries ns → Differ s.entries (f.name ∷ ns)
with_function s f ns fresh rest = record {
  are_new = (fresh, all_map (λ n. is_declared (declare_function f s).entries n ≡ false) (λ n. is_declared s.entries n ≡ false) ns (λ n. less_declared s.entries _ n) rest.are_new);
  distinct = (all_map (λ n. is_declared (declare_function f s).entries n ≡ false) (λ n. f.name ≢ n) ns (λ n h. differs f.name n (last_differs s.entries _ n h)) rest.are_new, rest.distinct);
}

with_variables : (s : Scope) (w : TypeWord) (ds : List Declarator) (ns : List Name) → Differ (declare_all w ds s).entries ns → Differ s.entries ns
with_variables s w ds ns rest = record {
  are_new = all_map (λ n. is_declared (declare_all w ds s).entries n ≡ false) (λ n. is_declared s.entries n ≡ false) ns (declared_less w ds s) rest.are_new;
  distinct = rest.distinct;
}

-- the walk that finds the first name that is declared twice
abbrev once : Walk First
once = rule_walk once_rules

functions_differ : (xs : List Item) (s : Scope) → s.start ≡ 0 → walk_items once xs s ≡ None → Differ s.entries (function_list xs)
functions_differ [] s z e = record { are_new = tt; distinct = tt }
functions_differ (item.Function f ∷ xs) s z e =
    let parts = none_parts (walk_item once (item.Function f) s) (walk_items once xs (declare_function f s)) e in
    let head = none_parts (once.head s f) (walk_body once s.entries f) parts.0 in
    with_function s f (function_list xs) (name_is_new s f z head.0) (functions_differ xs (declare_function f s) z parts.1)
functions_differ (item.Prototype p k n ∷ xs) s z e = functions_differ xs s z e
functions_differ (item.Shared d ∷ xs) s z e =
    let parts = none_parts (walk_item once (item.Shared d) s) (walk_items once xs (declare_all d.word d.declarators s)) e in
    with_variables s d.word d.declarators (function_list xs) (functions_differ xs (declare_all d.word d.declarators s) (declared_start d.word d.declarators s ∙ z) parts.1)

pub names_differ : (program : Program) → DeclaresOnce program → AreDistinct (function_names program)
names_differ program once_declared = (functions_differ program.items top_scope refl once_declared).distinct
