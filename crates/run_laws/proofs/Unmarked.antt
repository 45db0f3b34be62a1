-- What calls no begin and no end of a section, and the names of the two.
use Rattle.std.proofs.Common.{◌≡◌, ℕ, ◌+◌, List, [], ◌∷◌, ◌++◌, Option, Some, None, Bool, true, false, not, ◌||◌, cond, map, refl, sym, ap, ◌∙◌, subst, ◌⊎◌, ⊎_elim, inl, inr}
use Rattle.std.specs.Str.{bytes_eq}
use Rattle.std.specs.List.{AllByRecursion}
use Rattle.std.proofs.lemmas.Bool.{false≢true, and_parts, not-true}
use Rattle.std.proofs.lemmas.Option.{same_Some}
use Rattle.std.proofs.lemmas.Slice.Eq.{bytes_eq-Decides}
use Rattle.c_tree.specs.declared.expr.Expr.{Expr, fold-roll-Expr, ind-Expr, map-Expr}
use Rattle.c_tree.specs.declared.expr.Expr.TheOpen.{Expr-F}
use Rattle.c_tree.specs.declared.expr.Expr.TheViews.{roll-Expr}
use Rattle.c_tree.specs.declared.stmt.Initialiser.{Initialiser}
use Rattle.c_tree.specs.declared.stmt.Initialiser.TheVariants.{One, Braces}
use Rattle.c_tree.specs.declared.stmt.Declarator.{Declarator}
use Rattle.c_tree.specs.declared.stmt.Start.{Start}
use Rattle.c_tree.specs.declared.stmt.Start.TheVariants as start
use Rattle.c_tree.specs.declared.program.Function.{Function}
use Rattle.c_tree.specs.declared.program.Item.{Item}
use Rattle.c_tree.specs.declared.program.Item.TheVariants as item
use Rattle.c_rules.specs.declared.builtin.Builtin.{Builtin}
use Rattle.c_rules.specs.declared.builtin.Builtin.TheVariants as b
use Rattle.c_rules.specs.Names.{Name, Scope, or_else, is_some, is_declared, own_entries, thread_calls, other_calls, look_up, builtin_named, may_be_defined, functions_of}
use Rattle.c_rules.specs.Walk.{walk_item, walk_items, walk_body, behind_item}
use Rattle.c_rules.specs.Scopes.{First, unless, first_of, rule_walk, once_rules, may_name_function, repeated_param}
use Rattle.c_check.specs.Sections.{begin_name, end_name, broken_call, mark_step, first_mark, mark_in_option, mark_in_start, mark_in_declarator, mark_in_declarators, mark_in_for}
use Rattle.c_check.proofs.PlainNames.{all_append}
use Rattle.run_model.specs.Names.{first_named}
use Rattle.run_laws.specs.Leaves.{Leaf, in_all, leaves, leaves_step, in_option, in_start, in_declarators, in_for}
use Rattle.run_laws.proofs.Joint.{anything, Values, AtLeaf, Known, Closed}
use Rattle.run_laws.proofs.Expressions.{both_none, holds_at}

-- neither begin nor end
abbrev pub IsUnmarked : Name → Type 0
IsUnmarked n = (bytes_eq begin_name n || bytes_eq end_name n) ≡ false

abbrev pub unmarked_values : Values
unmarked_values = record { word = anything; cell = anything; locals = anything; calls = IsUnmarked }

pub unmarked_closed : Closed unmarked_values
unmarked_closed = record { zero_word = tt; one_word = tt; operators = λ o xs h. tt; enters = λ n u c ls h. tt; takes = λ n ls h. tt; begins = λ ps xs h. tt }

-- ---- what has no mark calls neither

abbrev pub IsKnown : List Leaf → Type 0
IsKnown xs = Known unmarked_values xs

both_known : (xs ys : List Leaf) → IsKnown xs → IsKnown ys → IsKnown (xs ++ ys)
both_known xs ys h i = all_append (AtLeaf unmarked_values) xs ys h i

abbrev IsQuiet : Expr → Type 0
IsQuiet e = first_mark e ≡ None → IsKnown (leaves e)

abbrev Part : Type 0
Part = (e : Expr) × IsQuiet e

abbrev exprs : List Part → List Expr
exprs ys = map (λ e. e.0) ys

all_quiet : (ys : List Part) → first_of (map first_mark (exprs ys)) ≡ None → IsKnown (in_all (map leaves (exprs ys)))
all_quiet [] h = tt
all_quiet (y ∷ ys) h =
    let parts = both_none (first_mark y.0) (first_of (map first_mark (exprs ys))) h in
    both_known (leaves y.0) (in_all (map leaves (exprs ys))) (y.1 parts.0) (all_quiet ys parts.1)

two_quiet : (e f : Part) → or_else (first_mark e.0) (first_mark f.0) ≡ None → IsKnown (leaves e.0 ++ leaves f.0)
two_quiet e f h = let parts = both_none (first_mark e.0) (first_mark f.0) h in both_known (leaves e.0) (leaves f.0) (e.1 parts.0) (f.1 parts.1)

layer : (y : Expr-F Part) → mark_step (map-Expr Expr First first_mark (map-Expr Part Expr (λ e. e.0) y)) ≡ None → IsKnown (leaves_step (map-Expr Expr (List Leaf) leaves (map-Expr Part Expr (λ e. e.0) y)))
layer (Expr-F.Name p n) h = tt
layer (Expr-F.Number p v u) h = (tt, tt)
layer (Expr-F.Text p) h = tt
layer (Expr-F.Bracket p e) h = e.1 h
layer (Expr-F.Index p n e) h = e.1 h
layer (Expr-F.Call p n es) h =
    let parts = both_none (broken_call p n) (first_of (map first_mark (exprs es))) h in
    (not-true (bytes_eq begin_name n || bytes_eq end_name n) (holds_at (not (bytes_eq begin_name n || bytes_eq end_name n)) p parts.0), all_quiet es parts.1)
layer (Expr-F.Cast p w e) h = e.1 h
layer (Expr-F.Unary p o e) h = e.1 h
layer (Expr-F.StepBefore p o e) h = e.1 h
layer (Expr-F.StepAfter p o e) h = e.1 h
layer (Expr-F.Binary p o e f) h = two_quiet e f h
layer (Expr-F.Choose p t e f) h =
    let parts = both_none (first_mark t.0) (or_else (first_mark e.0) (first_mark f.0)) h in
    both_known (leaves t.0) (leaves e.0 ++ leaves f.0) (t.1 parts.0) (two_quiet e f parts.1)
layer (Expr-F.Assign p o e f) h = two_quiet e f h
layer (Expr-F.Comma p e f) h = two_quiet e f h
layer (Expr-F.Address p e) h = e.1 h

rolled : (y : Expr-F Part) → IsQuiet (roll-Expr (map-Expr Part Expr (λ e. e.0) y))
rolled y h =
    let z : Expr-F Expr = map-Expr Part Expr (λ e. e.0) y in
    subst IsKnown (sym (fold-roll-Expr (List Leaf) leaves_step z)) (layer y (sym (fold-roll-Expr First mark_step z) ∙ h))

pub quiet : (e : Expr) → IsQuiet e
quiet = ind-Expr IsQuiet (λ x y is. subst (λ (z : Expr-F Expr). IsQuiet (roll-Expr z)) is (rolled y))

pub option_quiet : (o : Option Expr) → mark_in_option o ≡ None → IsKnown (in_option o)
option_quiet None h = tt
option_quiet (Some x) h = quiet x h

list_quiet : (xs : List Expr) → first_of (map first_mark xs) ≡ None → IsKnown (in_all (map leaves xs))
list_quiet [] h = tt
list_quiet (x ∷ xs) h =
    let parts = both_none (first_mark x) (first_of (map first_mark xs)) h in
    both_known (leaves x) (in_all (map leaves xs)) (quiet x parts.0) (list_quiet xs parts.1)

start_quiet : (o : Option Initialiser) → mark_in_start o ≡ None → IsKnown (in_start o)
start_quiet None h = tt
start_quiet (Some (One x)) h = quiet x h
start_quiet (Some (Braces xs)) h = list_quiet xs h

pub declarators_quiet : (ds : List Declarator) → mark_in_declarators ds ≡ None → IsKnown (in_declarators ds)
declarators_quiet [] h = tt
declarators_quiet (d ∷ ds) h =
    let parts = both_none (mark_in_declarator d) (mark_in_declarators ds) h in
    let own = both_none (mark_in_option d.size) (mark_in_start d.initialiser) parts.0 in
    both_known (in_start d.initialiser) (in_declarators ds) (start_quiet d.initialiser own.1) (declarators_quiet ds parts.1)

pub for_quiet : (t : Start) → mark_in_for t ≡ None → IsKnown (in_for t)
for_quiet start.Nothing h = tt
for_quiet (start.Expr x) h = quiet x h
for_quiet (start.Declare d) h = declarators_quiet d.declarators h

-- ---- the names of the two built-in calls

-- beside each value of this kind stands this key
abbrev Keyed : (Builtin → Bool) → Name → List (Name × Builtin) → Type 0
Keyed kind key [] = Unit {0}
Keyed kind key (p ∷ ps) = ((kind p.1 ≡ false) ⊎ (p.0 ≡ key)) × Keyed kind key ps

module _ (kind : Builtin → Bool) (key n : Name) (c : Builtin) (of_kind : kind c ≡ true) where
  key_here : (p : Name × Builtin) → bytes_eq p.0 n ≡ true → p.1 ≡ c → (kind p.1 ≡ false) ⊎ (p.0 ≡ key) → bytes_eq key n ≡ true
  key_here p e same h = ⊎_elim (λ no. absurd (false≢true (sym no ∙ (ap kind same ∙ of_kind)))) (λ is. subst (λ (m : Name). bytes_eq m n ≡ true) is e) h

  key_at : (p : Name × Builtin) (t : Bool) (o : Option Builtin) → bytes_eq p.0 n ≡ t → (kind p.1 ≡ false) ⊎ (p.0 ≡ key) → (o ≡ Some c → bytes_eq key n ≡ true) → cond t (Some p.1) o ≡ Some c → bytes_eq key n ≡ true
  key_at p true o e h rest found = key_here p e (same_Some p.1 c found) h
  key_at p false o e h rest found = rest found

  key_in : (ps : List (Name × Builtin)) → Keyed kind key ps → look_up ps n ≡ Some c → bytes_eq key n ≡ true
  key_in [] h found = absurd (let no : ◌≡◌ {A = Option Builtin} None (Some c) = found in cc)
  key_in (p ∷ ps) h found = key_at p (bytes_eq p.0 n) (look_up ps n) refl h.0 (key_in ps h.1) found

  key_either : (o u : Option Builtin) → (o ≡ Some c → bytes_eq key n ≡ true) → (u ≡ Some c → bytes_eq key n ≡ true) → or_else o u ≡ Some c → bytes_eq key n ≡ true
  key_either None u h i e = i e
  key_either (Some d) u h i e = h e

  key_of : Keyed kind key thread_calls → Keyed kind key other_calls → builtin_named n ≡ Some c → bytes_eq key n ≡ true
  key_of h i e = key_either (look_up thread_calls n) (look_up other_calls n) (key_in thread_calls h) (key_in other_calls i) e

abbrev is_begin : Builtin → Bool
is_begin b.Begin = true
is_begin _ = false

abbrev is_finish : Builtin → Bool
is_finish b.Finish = true
is_finish _ = false

begin_key : (n : Name) → builtin_named n ≡ Some b.Begin → bytes_eq begin_name n ≡ true
begin_key n e =
    key_of is_begin begin_name n b.Begin refl
    (inl refl, (inl refl, (inl refl, (inl refl, (inl refl, (inl refl, (inl refl, tt)))))))
    (inl refl, (inl refl, (inl refl, (inl refl, (inl refl, (inl refl, (inl refl, (inl refl, (inl refl, (inl refl, (inr refl, (inl refl, (inl refl, tt))))))))))))) e

finish_key : (n : Name) → builtin_named n ≡ Some b.Finish → bytes_eq end_name n ≡ true
finish_key n e =
    key_of is_finish end_name n b.Finish refl
    (inl refl, (inl refl, (inl refl, (inl refl, (inl refl, (inl refl, (inl refl, tt)))))))
    (inl refl, (inl refl, (inl refl, (inl refl, (inl refl, (inl refl, (inl refl, (inl refl, (inl refl, (inl refl, (inl refl, (inr refl, (inl refl, tt))))))))))))) e

left_false : (x y : Bool) → (x || y) ≡ false → x ≡ true → ⊥
left_false true y h e = false≢true (sym h)
left_false false y h e = false≢true e

right_false : (x y : Bool) → (x || y) ≡ false → y ≡ true → ⊥
right_false true y h e = false≢true (sym h)
right_false false y h e = false≢true (sym h ∙ e)

-- what is neither is not that built-in call
pub no_begin : (n : Name) → IsUnmarked n → builtin_named n ≡ Some b.Begin → ⊥
no_begin n h e = left_false (bytes_eq begin_name n) (bytes_eq end_name n) h (begin_key n e)

pub no_finish : (n : Name) → IsUnmarked n → builtin_named n ≡ Some b.Finish → ⊥
no_finish n h e = right_false (bytes_eq begin_name n) (bytes_eq end_name n) h (finish_key n e)

-- ---- no function has one of the two names

abbrev IsFree : Name → Type 0
IsFree n = (not (is_some (builtin_named n)) || may_be_defined n) ≡ true

head_free : (s : Scope) (f : Function) → or_else (unless (may_name_function s f.name) f.place) (repeated_param [] f.params) ≡ None → IsFree f.name
head_free s f e =
    let parts = both_none (unless (may_name_function s f.name) f.place) (repeated_param [] f.params) e in
    (and_parts (not (is_declared (own_entries s) f.name)) (not (is_some (builtin_named f.name)) || may_be_defined f.name) (holds_at (may_name_function s f.name) f.place parts.0)).1

pub all_free : (xs : List Item) (s : Scope) → walk_items (rule_walk once_rules) xs s ≡ None → AllByRecursion (λ (f : Function). IsFree f.name) (functions_of xs)
all_free [] s e = tt
all_free (item.Function f ∷ xs) s e =
    let parts = both_none (walk_item (rule_walk once_rules) (item.Function f) s) (walk_items (rule_walk once_rules) xs (behind_item (item.Function f) s)) e in
    let own = both_none (or_else (unless (may_name_function s f.name) f.place) (repeated_param [] f.params)) (walk_body (rule_walk once_rules) s.entries f) parts.0 in
    (head_free s f own.0, all_free xs (behind_item (item.Function f) s) parts.1)
all_free (item.Prototype p w n ∷ xs) s e = all_free xs s (both_none (walk_item (rule_walk once_rules) (item.Prototype p w n) s) (walk_items (rule_walk once_rules) xs s) e).1
all_free (item.Shared d ∷ xs) s e = all_free xs (behind_item (item.Shared d) s) (both_none (walk_item (rule_walk once_rules) (item.Shared d) s) (walk_items (rule_walk once_rules) xs (behind_item (item.Shared d) s)) e).1

module _ (n : Name) (taken : (not (is_some (builtin_named n)) || may_be_defined n) ≡ false) where
  other_name : (m : Name) (t : Bool) → bytes_eq m n ≡ t → IsFree m → t ≡ false
  other_name m false e free = refl
  other_name m true e free =
      let same : m ≡ n = (bytes_eq-Decides m n).0 e in
      absurd (false≢true (sym taken ∙ subst IsFree same free))

  pub not_named : (fs : List Function) (i : ℕ) → AllByRecursion (λ (f : Function). IsFree f.name) fs → first_named (λ (f : Function). f.name) i fs n ≡ None
  not_named [] i free = refl
  not_named (f ∷ fs) i free =
      subst (λ (t : Bool). cond t (Some i) (first_named (λ (f : Function). f.name) (i + 1) fs n) ≡ None) (sym (other_name f.name (bytes_eq f.name n) refl free.0)) (not_named fs (i + 1) free.1)
