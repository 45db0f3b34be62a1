-- What an expression calls, and what it costs, tells what it names.
use Rattle.std.proofs.Common.{◌≡◌, ◌∙◌, ◌<◌, ap, sym, refl, ℕ, List, [], ◌∷◌, map, length, arith}
use Rattle.std.specs.Prelude.{Option, None}
use Rattle.dg_base.specs.declared.Place.{Place}
use Rattle.c_tree.specs.declared.expr.Expr.{Expr, fold-roll-Expr}
use Rattle.c_tree.specs.declared.expr.Expr.TheVariants as e
use Rattle.c_tree.specs.declared.expr.Expr.TheOpen.{Expr-F}
use Rattle.c_tree.specs.declared.program.Item.{Item}
use Rattle.c_rules.specs.declared.names.Variable.{Variable}
use Rattle.c_rules.specs.Names.{Name, Scope, variable_named}
use Rattle.c_rules.specs.Routines.{Naming, naming, routine_name, third_routine, created_by}
use Rattle.c_rules.proofs.Routines.{naming_kept}
use Rattle.c_check.specs.declared.counts.Counts.{Counts}
use Rattle.c_check.specs.Recursion.{Called, called, called_step, namings}
use Rattle.c_check.specs.Counts.{Sums, Cost, cost, cost_step, cost_namings, thread_of, call, arguments, first_accesses}
use Rattle.c_check.specs.Capped.{capped_sums, table_named, expr_cost}

pub called_naming : (x : Expr) → (called x).naming ≡ naming x
called_naming = naming_kept called_step (λ (c : Called). c.naming) (λ l. refl)

pub cost_naming : (sums : Sums) (body : Name → Counts) (variable : Name → Option Variable) (x : Expr) → (cost sums body variable x).naming ≡ naming x
cost_naming sums body variable = naming_kept (cost_step sums body variable) (λ (c : Cost). c.naming) (λ l. refl)

-- the function of a thread, as the walk over calls has it
pub called_routine : (x : Expr) (o : Option Name) → o ≡ routine_name x → o ≡ (called x).naming.routine
called_routine x o h = h ∙ ap (λ (n : Naming). n.routine) (sym (called_naming x))

same_namings : (sums : Sums) (body : Name → Counts) (variable : Name → Option Variable) (xs : List Expr)
    → cost_namings (map (cost sums body variable) xs) ≡ namings (map called xs)
same_namings sums body variable [] = refl
same_namings sums body variable (x ∷ xs) =
    ap (λ (n : Naming). n ∷ cost_namings (map (cost sums body variable) xs)) (cost_naming sums body variable x ∙ sym (called_naming x))
    ∙ ap (λ (ns : List Naming). (called x).naming ∷ ns) (same_namings sums body variable xs)

-- the function of the thread that a call makes
pub same_created : (sums : Sums) (body : Name → Counts) (variable : Name → Option Variable) (n : Name) (xs : List Expr)
    → created_by n (cost_namings (map (cost sums body variable) xs)) ≡ created_by n (namings (map called xs))
same_created sums body variable n xs = ap (created_by n) (same_namings sums body variable xs)

-- two expressions or fewer have no third
pub few_routines : (xs : List Expr) → length xs < 3 → third_routine (namings (map called xs)) ≡ None
few_routines [] h = refl
few_routines (x ∷ []) h = refl
few_routines (x ∷ (y ∷ [])) h = refl
few_routines (x ∷ (y ∷ (z ∷ xs))) h = absurd (omega arith)

pub same_thread : (sums : Sums) (body : Name → Counts) (variable : Name → Option Variable) (n : Name) (xs : List Expr) (o : Option Name) (r : Counts)
    → o ≡ created_by n (namings (map called xs)) → r ≡ thread_of sums body o
    → r ≡ thread_of sums body (created_by n (cost_namings (map (cost sums body variable) xs)))
same_thread sums body variable n xs o r h k = k ∙ ap (thread_of sums body) (h ∙ sym (same_created sums body variable n xs))

-- ---- what a call costs, by its parts

call_parts : (items : List Item) (table : List Counts) (s : Scope) (p : Place) (n : Name) (xs : List Expr)
    → (expr_cost items table s (e.Call p n xs)).parts ≡ call capped_sums (table_named items table) n (map (expr_cost items table s) xs)
call_parts items table s p n xs =
    ap (λ (x : Expr). (expr_cost items table s x).parts) (sym (e.rolls-Call p n xs))
    ∙ ap (λ (c : Cost). c.parts) (fold-roll-Expr Cost (cost_step capped_sums (table_named items table) (variable_named s)) (Expr-F.Call p n xs))

pub call_cost : (items : List Item) (table : List Counts) (s : Scope) (p : Place) (n n1 n2 n3 : Name) (xs ys : List Expr) (z : Expr) (first : ℕ) (read made body called one whole all w : Counts)
    → z ≡ e.Call p n xs → ys ≡ xs
    → n1 ≡ n → first ≡ first_accesses n1 → read ≡ arguments capped_sums first (map (expr_cost items table s) ys)
    → n2 ≡ n → made ≡ thread_of capped_sums (table_named items table) (created_by n2 (cost_namings (map (expr_cost items table s) ys)))
    → n3 ≡ n → body ≡ table_named items table n3 → called ≡ capped_sums.together body made
    → one ≡ capped_sums.weight 1 → whole ≡ capped_sums.together one read → all ≡ capped_sums.together whole called → w ≡ all
    → w ≡ (expr_cost items table s z).parts
call_cost items table s p n n1 n2 n3 xs ys z first read made body called one whole all w hz hy h1 hf hr h2 hm h3 hb hc ho hw ha h =
    let thread : Name → List Expr → Counts = λ m l. thread_of capped_sums (table_named items table) (created_by m (cost_namings (map (expr_cost items table s) l))) in
    let reads : ℕ → List Expr → Counts = λ m l. arguments capped_sums m (map (expr_cost items table s) l) in
    let is_read : read ≡ reads (first_accesses n) xs = hr ∙ (ap (λ (m : ℕ). reads m ys) (hf ∙ ap first_accesses h1) ∙ ap (reads (first_accesses n)) hy) in
    let is_made : made ≡ thread n xs = hm ∙ (ap (λ (m : Name). thread m ys) h2 ∙ ap (thread n) hy) in
    let is_whole : whole ≡ capped_sums.together (capped_sums.weight 1) (reads (first_accesses n) xs) =
    hw ∙ (ap (λ (c : Counts). capped_sums.together c read) ho ∙ ap (capped_sums.together (capped_sums.weight 1)) is_read) in
    let is_called : called ≡ capped_sums.together (table_named items table n) (thread n xs) =
    hc ∙ (ap (λ (c : Counts). capped_sums.together c made) (hb ∙ ap (table_named items table) h3) ∙ ap (capped_sums.together (table_named items table n)) is_made) in
    h ∙ (ha ∙ (ap (λ (c : Counts). capped_sums.together c called) is_whole
    ∙ (ap (capped_sums.together (capped_sums.together (capped_sums.weight 1) (reads (first_accesses n) xs))) is_called
    ∙ (sym (call_parts items table s p n xs) ∙ ap (λ (x : Expr). (expr_cost items table s x).parts) (sym hz)))))
