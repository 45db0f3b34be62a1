-- What a body comes to by a table of capped counts is what it comes to, capped, where the table knows all that is called.
use Rattle.std.proofs.Common.{◌≡◌, ◌∙◌, ◌++◌, ◌+◌, ℕ, refl, ap, sym, subst, List, [], ◌∷◌, map}
use Rattle.std.specs.Prelude.{Option, Some, None}
use Rattle.c_tree.specs.declared.expr.Expr.{Expr}
use Rattle.c_tree.specs.declared.expr.TypeWord.{TypeWord}
use Rattle.c_tree.specs.declared.stmt.Initialiser.{Initialiser}
use Rattle.c_tree.specs.declared.stmt.Initialiser.TheVariants.{One, Braces}
use Rattle.c_tree.specs.declared.stmt.Declarator.{Declarator}
use Rattle.c_tree.specs.declared.stmt.Start.{Start}
use Rattle.c_tree.specs.declared.stmt.Start.TheVariants as start
use Rattle.c_tree.specs.declared.stmt.Stmt.{Stmt, roll-Stmt, map-Stmt}
use Rattle.c_tree.specs.declared.stmt.Stmt.TheOpen.{Stmt-F}
use Rattle.c_tree.specs.declared.stmt.Stmt.TheFolds.{fold-roll-Stmt, ind-Stmt}
use Rattle.c_tree.specs.declared.program.Function.{Function}
use Rattle.c_rules.specs.declared.names.Entry.{Entry}
use Rattle.c_rules.specs.Names.{Name, Scope, variable_named}
use Rattle.c_rules.specs.Walk.{Walked, declare, declarators, found_start, behind_start, found_test, found_value, in_turn, enter, loop_in, walk_step, walk, walk_body, function_scope}
use Rattle.c_check.specs.declared.counts.Counts.{Counts}
use Rattle.c_check.specs.Recursion.{called, called_in, called_in_option, called_in_start, called_in_declarators, called_in_for, called_in_stmt, calls_step, all_called, in_all, called_by}
use Rattle.c_check.specs.Counts.{exact, counts_in, counts_in_all, counts_at_start, weighed, counts_walk}
use Rattle.c_check.specs.Capped.{capped_counts, capped_sums}
use Rattle.c_check.proofs.Capping.{both, more, capped-weight}
use Rattle.c_check.proofs.SameCost.{Knows, left, right, reading_capped}

value_capped : (body known : Name → Counts) (s : Scope) (x : Expr) → Knows body known (called_in x) → counts_in capped_sums known s x ≡ capped_counts (counts_in exact body s x)
value_capped body known s x h = reading_capped body known (variable_named s) x h

weighed_capped : (body known : Name → Counts) (s : Scope) (x : Expr) → Knows body known (called_in x) → weighed capped_sums known s x ≡ capped_counts (weighed exact body s x)
weighed_capped body known s x h = both _ _ _ _ (capped-weight 1) (value_capped body known s x h)

values_capped : (body known : Name → Counts) (s : Scope) (xs : List Expr) → Knows body known (all_called (map called xs))
    → counts_in_all capped_sums known s xs ≡ capped_counts (counts_in_all exact body s xs)
values_capped body known s [] h = refl
values_capped body known s (x ∷ xs) h =
    both _ _ _ _ (value_capped body known s x (left body known (called_in x) (all_called (map called xs)) h)) (values_capped body known s xs (right body known (called_in x) (all_called (map called xs)) h))

start_capped : (body known : Name → Counts) (s : Scope) (i : Option Initialiser) → Knows body known (called_in_start i)
    → counts_at_start capped_sums known s i ≡ capped_counts (counts_at_start exact body s i)
start_capped body known s None h = refl
start_capped body known s (Some (One x)) h = both _ _ _ _ (capped-weight 1) (value_capped body known s x h)
start_capped body known s (Some (Braces xs)) h = both _ _ _ _ (capped-weight 1) (values_capped body known s xs h)

declarators_capped : (k : ℕ) (body known : Name → Counts) (w : TypeWord) (ds : List Declarator) (s : Scope) → Knows body known (called_in_declarators ds)
    → declarators (counts_walk capped_sums k known) w ds s ≡ capped_counts (declarators (counts_walk exact k body) w ds s)
declarators_capped k body known w [] s h = refl
declarators_capped k body known w (d ∷ ds) s h =
    let r = right body known (called_in_option d.size) (called_in_start d.initialiser ++ called_in_declarators ds) h in
    both _ _ _ _ (start_capped body known (declare w d s) d.initialiser (left body known (called_in_start d.initialiser) (called_in_declarators ds) r))
    (declarators_capped k body known w ds (declare w d s) (right body known (called_in_start d.initialiser) (called_in_declarators ds) r))

for_capped : (k : ℕ) (body known : Name → Counts) (st : Start) (s : Scope) → Knows body known (called_in_for st)
    → found_start (counts_walk capped_sums k known) st s ≡ capped_counts (found_start (counts_walk exact k body) st s)
for_capped k body known start.Nothing s h = refl
for_capped k body known (start.Expr x) s h = value_capped body known s x h
for_capped k body known (start.Declare d) s h = declarators_capped k body known d.word d.declarators s h

test_capped : (k : ℕ) (body known : Name → Counts) (t : Option Expr) (s : Scope) → Knows body known (called_in_option t)
    → found_test (counts_walk capped_sums k known) t s ≡ capped_counts (found_test (counts_walk exact k body) t s)
test_capped k body known None s h = capped-weight 1
test_capped k body known (Some x) s h = weighed_capped body known s x h

option_capped : (k : ℕ) (body known : Name → Counts) (t : Option Expr) (s : Scope) → Knows body known (called_in_option t)
    → found_value (counts_walk capped_sums k known) t s ≡ capped_counts (found_value (counts_walk exact k body) t s)
option_capped k body known None s h = refl
option_capped k body known (Some x) s h = value_capped body known s x h

-- a statement comes to the same, capped, in each scope, and leaves the same scope
pub record Agree (k : ℕ) (body known : Name → Counts) (x : Stmt) : Type 0 where
  pub found : (s : Scope) → (walk (counts_walk capped_sums k known) x).found s ≡ capped_counts ((walk (counts_walk exact k body) x).found s)
  pub behind : (s : Scope) → (walk (counts_walk capped_sums k known) x).behind s ≡ (walk (counts_walk exact k body) x).behind s

abbrev Agrees : Stmt → Type 0
Agrees x = (k : ℕ) (body known : Name → Counts) → Knows body known (called_in_stmt x) → Agree k body known x

turn_capped : (k : ℕ) (body known : Name → Counts) (es : List ((x : Stmt) × Agrees x)) → Knows body known (in_all (map called_in_stmt (map (λ e. e.0) es))) → (s : Scope)
    → in_turn (counts_walk capped_sums k known) (map (walk (counts_walk capped_sums k known)) (map (λ e. e.0) es)) s
    ≡ capped_counts (in_turn (counts_walk exact k body) (map (walk (counts_walk exact k body)) (map (λ e. e.0) es)) s)
turn_capped k body known [] h s = refl
turn_capped k body known (e ∷ es) h s =
    let xs : List Stmt = map (λ (e : (x : Stmt) × Agrees x). e.0) es in
    let a : Agree k body known e.0 = e.1 k body known (left body known (called_in_stmt e.0) (in_all (map called_in_stmt xs)) h) in
    both _ _ _ _ (a.found s)
    (ap (in_turn (counts_walk capped_sums k known) (map (walk (counts_walk capped_sums k known)) xs)) (a.behind s)
    ∙ turn_capped k body known es (right body known (called_in_stmt e.0) (in_all (map called_in_stmt xs)) h) ((walk (counts_walk exact k body) e.0).behind s))

abbrev Same : Walked Counts → Walked Counts → Type 0
Same a b = ((s : Scope) → b.found s ≡ capped_counts (a.found s)) × ((s : Scope) → b.behind s ≡ a.behind s)

abbrev kids : Stmt-F ((x : Stmt) × Agrees x) → Stmt-F Stmt
kids y = map-Stmt ((x : Stmt) × Agrees x) Stmt (λ e. e.0) y

layer : (k : ℕ) (body known : Name → Counts) (y : Stmt-F ((x : Stmt) × Agrees x))
    → Knows body known (calls_step (map-Stmt Stmt (List Name) called_in_stmt (kids y)))
    → Same (walk_step (counts_walk exact k body) (map-Stmt Stmt (Walked Counts) (walk (counts_walk exact k body)) (kids y)))
    (walk_step (counts_walk capped_sums k known) (map-Stmt Stmt (Walked Counts) (walk (counts_walk capped_sums k known)) (kids y)))
layer k body known (Stmt-F.Empty p) h = (λ s. refl, λ s. refl)
layer k body known (Stmt-F.Expr p x) h = (λ s. value_capped body known s x h, λ s. refl)
layer k body known (Stmt-F.Declare d) h = (λ s. declarators_capped k body known d.word d.declarators s h, λ s. refl)
layer k body known (Stmt-F.Block p xs) h = (λ s. turn_capped k body known xs h (enter s), λ s. refl)
layer k body known (Stmt-F.Label p n x) h = ((x.1 k body known h).found, λ s. refl)
layer k body known (Stmt-F.If p t a None) h = (
  λ s. both _ _ _ _ (weighed_capped body known s t (left body known (called_in t) (called_in_stmt a.0 ++ []) h))
      (both _ _ _ _ ((a.1 k body known (left body known (called_in_stmt a.0) [] (right body known (called_in t) (called_in_stmt a.0 ++ []) h))).found s) refl),
  λ s. refl,
)
layer k body known (Stmt-F.If p t a (Some b)) h =
    let r = right body known (called_in t) (called_in_stmt a.0 ++ called_in_stmt b.0) h in (
      λ s. both _ _ _ _ (weighed_capped body known s t (left body known (called_in t) (called_in_stmt a.0 ++ called_in_stmt b.0) h))
          (both _ _ _ _ ((a.1 k body known (left body known (called_in_stmt a.0) (called_in_stmt b.0) r)).found s) ((b.1 k body known (right body known (called_in_stmt a.0) (called_in_stmt b.0) r)).found s)),
      λ s. refl,
    )
layer k body known (Stmt-F.While p t x) h = (
  λ s. both _ _ _ _ (more (k + 1) _ _ (weighed_capped body known s t (left body known (called_in t) (called_in_stmt x.0) h)))
      (more k _ _ ((x.1 k body known (right body known (called_in t) (called_in_stmt x.0) h)).found (loop_in s))),
  λ s. refl,
)
layer k body known (Stmt-F.DoWhile p x t) h = (
  λ s. more k _ _ (both _ _ _ _ ((x.1 k body known (left body known (called_in_stmt x.0) (called_in t) h)).found (loop_in s))
      (weighed_capped body known s t (right body known (called_in_stmt x.0) (called_in t) h))),
  λ s. refl,
)
layer k body known (Stmt-F.For p st t e x) h =
    let r = right body known (called_in_for st) (called_in_option t ++ (called_in_option e ++ called_in_stmt x.0)) h in
    let q = right body known (called_in_option t) (called_in_option e ++ called_in_stmt x.0) r in (
      λ s. both _ _ _ _ (for_capped k body known st (enter s) (left body known (called_in_for st) (called_in_option t ++ (called_in_option e ++ called_in_stmt x.0)) h))
          (both _ _ _ _ (more (k + 1) _ _ (test_capped k body known t (behind_start st (enter s)) (left body known (called_in_option t) (called_in_option e ++ called_in_stmt x.0) r)))
          (both _ _ _ _ (more k _ _ (option_capped k body known e (behind_start st (enter s)) (left body known (called_in_option e) (called_in_stmt x.0) q)))
          (more k _ _ ((x.1 k body known (right body known (called_in_option e) (called_in_stmt x.0) q)).found (loop_in (behind_start st (enter s))))))),
      λ s. refl,
    )
layer k body known (Stmt-F.Return p None) h = (λ s. refl, λ s. refl)
layer k body known (Stmt-F.Return p (Some x)) h = (λ s. weighed_capped body known s x h, λ s. refl)
layer k body known (Stmt-F.Break p) h = (λ s. refl, λ s. refl)
layer k body known (Stmt-F.Continue p) h = (λ s. refl, λ s. refl)

agree : (k : ℕ) (body known : Name → Counts) (x : Stmt) → Same (walk (counts_walk exact k body) x) (walk (counts_walk capped_sums k known) x) → Agree k body known x
agree k body known x h = record { found = h.0; behind = h.1 }

pub stmt_capped : (x : Stmt) → Agrees x
stmt_capped = ind-Stmt Agrees (λ x y is k body known h.
    let m = subst (λ z. Knows body known (calls_step (map-Stmt Stmt (List Name) called_in_stmt z))
    → Same (walk_step (counts_walk exact k body) (map-Stmt Stmt (Walked Counts) (walk (counts_walk exact k body)) z)) (walk_step (counts_walk capped_sums k known) (map-Stmt Stmt (Walked Counts) (walk (counts_walk capped_sums k known)) z))) is (layer k body known y)
    (subst (Knows body known) (fold-roll-Stmt (List Name) calls_step x) h) in
    agree k body known (roll-Stmt x)
    (subst (λ (c : Walked Counts). Same c (walk (counts_walk capped_sums k known) (roll-Stmt x))) (sym (fold-roll-Stmt (Walked Counts) (walk_step (counts_walk exact k body)) x))
    (subst (λ (c : Walked Counts). Same (walk_step (counts_walk exact k body) (map-Stmt Stmt (Walked Counts) (walk (counts_walk exact k body)) x)) c) (sym (fold-roll-Stmt (Walked Counts) (walk_step (counts_walk capped_sums k known)) x)) m)))

each : (xs : List Stmt) → List ((x : Stmt) × Agrees x)
each [] = []
each (x ∷ xs) = (x, stmt_capped x) ∷ each xs

each_is : (xs : List Stmt) → map (λ (e : (x : Stmt) × Agrees x). e.0) (each xs) ≡ xs
unfolding each
each_is [] = refl
each_is (x ∷ xs) = ap (λ (l : List Stmt). x ∷ l) (each_is xs)

-- a function's body comes to the same, capped
pub body_capped : (k : ℕ) (body known : Name → Counts) (top : List Entry) (f : Function) → Knows body known (called_by f)
    → walk_body (counts_walk capped_sums k known) top f ≡ capped_counts (walk_body (counts_walk exact k body) top f)
body_capped k body known top f h =
    subst (λ (xs : List Stmt). in_turn (counts_walk capped_sums k known) (map (walk (counts_walk capped_sums k known)) xs) (function_scope top f)
    ≡ capped_counts (in_turn (counts_walk exact k body) (map (walk (counts_walk exact k body)) xs) (function_scope top f))) (each_is f.body)
    (turn_capped k body known (each f.body) (subst (λ (xs : List Stmt). Knows body known (in_all (map called_in_stmt xs))) (sym (each_is f.body)) h) (function_scope top f))
