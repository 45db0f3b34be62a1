-- What an expression costs by a table of capped counts is what it costs, capped, where the table knows all that is called.
use Rattle.std.proofs.Common.{◌≡◌, ◌∙◌, ◌++◌, ℕ, zero, refl, ap, sym, subst, List, [], ◌∷◌, map, Bool, arith}
use Rattle.std.specs.Prelude.{Option, Some, None}
use Rattle.std.specs.List.{Contains}
use Rattle.std.proofs.lemmas.List.Elements.{Contains-append_left, Contains-append_right}
use Rattle.c_tree.specs.declared.expr.Expr.{Expr, roll-Expr, map-Expr}
use Rattle.c_tree.specs.declared.expr.Expr.TheOpen.{Expr-F}
use Rattle.c_tree.specs.declared.expr.Expr.TheFolds.{fold-roll-Expr, ind-Expr}
use Rattle.c_rules.specs.declared.names.Variable.{Variable}
use Rattle.c_rules.specs.Names.{Name}
use Rattle.c_rules.specs.Routines.{created_by}
use Rattle.c_check.specs.declared.counts.Counts.{Counts}
use Rattle.c_check.specs.Recursion.{Called, called, called_step, called_in, namings, names_in, all_called}
use Rattle.c_check.specs.Counts.{exact, no_counts, Cost, cost, cost_step, reading, accessing, arguments, thread_of, access_to, access_by, first_accesses, operator_weight, assign_weight, assign_accesses, call}
use Rattle.c_check.specs.Capped.{capped_counts, capped_sums}
use Rattle.c_check.proofs.Capping.{both, more, capped-new_thread, capped-accesses, capped-weight}
use Rattle.c_check.proofs.Namings.{same_created}

-- the table has the capped counts of these names
abbrev pub Knows : (Name → Counts) → (Name → Counts) → List Name → Type 0
Knows body known ns = (n : Name) → Contains ns n → known n ≡ capped_counts (body n)

pub left : (body known : Name → Counts) (xs ys : List Name) → Knows body known (xs ++ ys) → Knows body known xs
left body known xs ys h = λ n c. h n (Contains-append_left xs ys n c)

pub right : (body known : Name → Counts) (xs ys : List Name) → Knows body known (xs ++ ys) → Knows body known ys
right body known xs ys h = λ n c. h n (Contains-append_right xs ys n c)

pub record IsCapped (a b : Cost) : Type 0 where
  pub access : b.access ≡ capped_counts a.access
  pub parts : b.parts ≡ capped_counts a.parts
  pub bare : b.bare ≡ a.bare

abbrev Agrees : Expr → Type 0
Agrees x = (body known : Name → Counts) (variable : Name → Option Variable) → Knows body known (called_in x)
    → IsCapped (cost exact body variable x) (cost capped_sums known variable x)

read : (a b : Cost) → IsCapped a b → reading capped_sums b ≡ capped_counts (reading exact a)
read a b h = both b.access b.parts a.access a.parts h.access h.parts

accessed : (n : ℕ) (a b : Cost) → IsCapped a b → accessing capped_sums n b ≡ capped_counts (accessing exact n a)
accessed n a b h = both _ _ _ _ (more n b.access a.access h.access) h.parts

weighs : (n : ℕ) (b x : Counts) → b ≡ capped_counts x → capped_sums.together (capped_sums.weight n) b ≡ capped_counts (exact.together (exact.weight n) x)
weighs n b x h = both _ _ _ _ (capped-weight n) h

access_capped_by : (s : Bool) (o : Option ℕ) → access_by capped_sums s o ≡ capped_counts (access_by exact s o)
access_capped_by Bool.true None = capped-accesses 1
access_capped_by Bool.true (Some n) = capped-accesses n
access_capped_by Bool.false None = refl
access_capped_by Bool.false (Some n) = capped-weight n

access_capped : (o : Option Variable) → access_to capped_sums o ≡ capped_counts (access_to exact o)
access_capped None = refl
access_capped (Some v) = access_capped_by v.shared v.cells

only : (x y : Counts) → y ≡ capped_counts x → IsCapped (record { access = no_counts; parts = x; bare = Bool.false; naming = record { plain = None; routine = None } }) (record { access = no_counts; parts = y; bare = Bool.false; naming = record { plain = None; routine = None } })
only x y h = record { access = refl; parts = h; bare = refl }

arguments_capped : (body known : Name → Counts) (variable : Name → Option Variable) (m : ℕ) (es : List ((x : Expr) × Agrees x))
    → Knows body known (all_called (map called (map (λ e. e.0) es)))
    → arguments capped_sums m (map (cost capped_sums known variable) (map (λ e. e.0) es)) ≡ capped_counts (arguments exact m (map (cost exact body variable) (map (λ e. e.0) es)))
arguments_capped body known variable m [] h = refl
arguments_capped body known variable m (e ∷ es) h =
    weighs 1 _ _ (both _ _ _ _
    (accessed m _ _ (e.1 body known variable (left body known (called_in e.0) _ h)))
    (arguments_capped body known variable 1 es (right body known (called_in e.0) _ h)))

thread_capped : (body known : Name → Counts) (o : Option Name) → Knows body known (names_in o) → thread_of capped_sums known o ≡ capped_counts (thread_of exact body o)
thread_capped body known None h = refl
thread_capped body known (Some n) h = ap capped_sums.new_thread (h n (zero, omega arith, refl)) ∙ capped-new_thread (body n)

call_capped : (body known : Name → Counts) (variable : Name → Option Variable) (n : Name) (es : List ((x : Expr) × Agrees x))
    → Knows body known (all_called (map called (map (λ e. e.0) es)) ++ (n ∷ names_in (created_by n (namings (map called (map (λ e. e.0) es))))))
    → call capped_sums known n (map (cost capped_sums known variable) (map (λ e. e.0) es)) ≡ capped_counts (call exact body n (map (cost exact body variable) (map (λ e. e.0) es)))
call_capped body known variable n es h =
    let xs : List Expr = map (λ (e : (x : Expr) × Agrees x). e.0) es in
    let o : Option Name = created_by n (namings (map called xs)) in
    let k : Knows body known (n ∷ names_in o) = right body known (all_called (map called xs)) (n ∷ names_in o) h in
    both _ _ _ _
    (weighs 1 _ _ (arguments_capped body known variable (first_accesses n) es (left body known (all_called (map called xs)) (n ∷ names_in o) h)))
    (both _ _ _ _ (k n (zero, omega arith, refl))
    (ap (thread_of capped_sums known) (same_created capped_sums known variable n xs)
    ∙ (thread_capped body known o (right body known (n ∷ []) (names_in o) k)
    ∙ ap (λ (p : Option Name). capped_counts (thread_of exact body p)) (sym (same_created exact body variable n xs)))))

layer : (body known : Name → Counts) (variable : Name → Option Variable) (y : Expr-F ((x : Expr) × Agrees x))
    → Knows body known (called_step (map-Expr Expr Called called (map-Expr ((x : Expr) × Agrees x) Expr (λ e. e.0) y))).names
    → IsCapped (cost_step exact body variable (map-Expr Expr Cost (cost exact body variable) (map-Expr ((x : Expr) × Agrees x) Expr (λ e. e.0) y)))
    (cost_step capped_sums known variable (map-Expr Expr Cost (cost capped_sums known variable) (map-Expr ((x : Expr) × Agrees x) Expr (λ e. e.0) y)))
layer body known variable (Expr-F.Name p n) h = record { access = access_capped (variable n); parts = refl; bare = refl }
layer body known variable (Expr-F.Number p v u) h = record { access = refl; parts = refl; bare = refl }
layer body known variable (Expr-F.Text p) h = record { access = refl; parts = refl; bare = refl }
layer body known variable (Expr-F.Bracket p x) h =
    let k = x.1 body known variable h in record { access = k.access; parts = k.parts; bare = refl }
layer body known variable (Expr-F.Index p n x) h = record { access = access_capped (variable n); parts = read _ _ (x.1 body known variable h); bare = refl }
layer body known variable (Expr-F.Call p n xs) h = only _ _ (call_capped body known variable n xs h)
layer body known variable (Expr-F.Cast p w x) h = only _ _ (read _ _ (x.1 body known variable h))
layer body known variable (Expr-F.Unary p o x) h = only _ _ (weighs 1 _ _ (read _ _ (x.1 body known variable h)))
layer body known variable (Expr-F.StepBefore p o x) h = only _ _ (weighs 1 _ _ (accessed 2 _ _ (x.1 body known variable h)))
layer body known variable (Expr-F.StepAfter p o x) h = only _ _ (weighs 1 _ _ (accessed 2 _ _ (x.1 body known variable h)))
layer body known variable (Expr-F.Binary p o x y) h =
    let a = x.1 body known variable (left body known (called_in x.0) _ h) in
    let b = y.1 body known variable (right body known (called_in x.0) _ h) in
    only _ _ (both _ _ _ _ (ap (λ (t : Bool). capped_sums.weight (operator_weight o t)) b.bare ∙ capped-weight _) (both _ _ _ _ (read _ _ a) (read _ _ b)))
layer body known variable (Expr-F.Choose p x y z) h =
    let k = right body known (called_in x.0) (called_in y.0 ++ called_in z.0) h in
    let a = x.1 body known variable (left body known (called_in x.0) (called_in y.0 ++ called_in z.0) h) in
    let b = y.1 body known variable (left body known (called_in y.0) (called_in z.0) k) in
    let c = z.1 body known variable (right body known (called_in y.0) (called_in z.0) k) in
    only _ _ (weighs 1 _ _ (both _ _ _ _ (read _ _ a) (both _ _ _ _ (read _ _ b) (read _ _ c))))
layer body known variable (Expr-F.Assign p o x y) h =
    let a = x.1 body known variable (left body known (called_in x.0) _ h) in
    let b = y.1 body known variable (right body known (called_in x.0) _ h) in
    only _ _ (both _ _ _ _ (ap (λ (t : Bool). capped_sums.weight (assign_weight o t)) b.bare ∙ capped-weight _) (both _ _ _ _ (accessed (assign_accesses o) _ _ a) (read _ _ b)))
layer body known variable (Expr-F.Comma p x y) h =
    only _ _ (both _ _ _ _ (read _ _ (x.1 body known variable (left body known (called_in x.0) _ h))) (read _ _ (y.1 body known variable (right body known (called_in x.0) _ h))))
layer body known variable (Expr-F.Address p x) h =
    let k = x.1 body known variable h in record { access = k.access; parts = k.parts; bare = refl }

pub cost_capped : (x : Expr) → Agrees x
cost_capped = ind-Expr Agrees (λ x y is body known variable h.
    let k = subst (λ z. Knows body known (called_step (map-Expr Expr Called called z)).names → IsCapped (cost_step exact body variable (map-Expr Expr Cost (cost exact body variable) z)) (cost_step capped_sums known variable (map-Expr Expr Cost (cost capped_sums known variable) z))) is (layer body known variable y) in
    let m = k (subst (λ (c : Called). Knows body known c.names) (fold-roll-Expr Called called_step x) h) in
    subst (λ (c : Cost). IsCapped c (cost capped_sums known variable (roll-Expr x))) (sym (fold-roll-Expr Cost (cost_step exact body variable) x))
    (subst (λ (c : Cost). IsCapped (cost_step exact body variable (map-Expr Expr Cost (cost exact body variable) x)) c) (sym (fold-roll-Expr Cost (cost_step capped_sums known variable) x)) m))

pub reading_capped : (body known : Name → Counts) (variable : Name → Option Variable) (x : Expr) → Knows body known (called_in x)
    → reading capped_sums (cost capped_sums known variable x) ≡ capped_counts (reading exact (cost exact body variable x))
reading_capped body known variable x h = read _ _ (cost_capped x body known variable h)
