-- Sums of 32 bits, added from the left.
use Rattle.std.proofs.Common.{◌≡◌, ◌∙◌, ◌<◌, ap, sym, ℕ, ◌+◌, max, map, drop, length, get_or, List, [], ◌∷◌, refl, arith}
use Rattle.c_tree.specs.declared.expr.Expr.{Expr}
use Rattle.c_tree.specs.declared.expr.TypeWord.{TypeWord}
use Rattle.c_tree.specs.declared.stmt.Declarator.{Declarator}
use Rattle.c_tree.specs.declared.stmt.Stmt.{Stmt}
use Rattle.c_tree.specs.declared.program.Item.{Item}
use Rattle.c_rules.specs.Names.{Name, Scope}
use Rattle.c_rules.specs.Walk.{Walked, declare, declarators, in_turn, walk}
use Rattle.c_tree.specs.Level.{capped}
use Rattle.c_check.specs.declared.counts.Counts.{Counts}
use Rattle.c_check.specs.Counts.{Cost, no_counts, accessing, arguments, counts_in, counts_in_all, counts_at_start, counts_walk}
use Rattle.c_check.specs.Capped.{capped_sums, table_named, expr_cost, table_walk}
use Rattle.c_check.proofs.Walking.{drop_cons}

add-assoc : (a b c : ℕ) → capped (capped (a + b) + c) ≡ capped (a + capped (b + c))
add-assoc a b c = omega arith

most-assoc : (a b c : ℕ) → max (max a b) c ≡ max a (max b c)
most-assoc a b c = omega arith

pub same_counts : (a b : Counts) → a.creates ≡ b.creates → a.threads ≡ b.threads → a.depth ≡ b.depth → a.most ≡ b.most → a.accesses ≡ b.accesses → a.weight ≡ b.weight → a ≡ b
same_counts a b h i j k l m = λ t. record { creates = h t; threads = i t; depth = j t; most = k t; accesses = l t; weight = m t }

pub together-assoc : (a b c : Counts) → capped_sums.together (capped_sums.together a b) c ≡ capped_sums.together a (capped_sums.together b c)
unfolding capped_sums
together-assoc a b c =
    same_counts _ _ (add-assoc a.creates b.creates c.creates) (add-assoc a.threads b.threads c.threads) (most-assoc a.depth b.depth c.depth)
    (most-assoc a.most b.most c.most) (add-assoc a.accesses b.accesses c.accesses) (add-assoc a.weight b.weight c.weight)

none-add : (a b : ℕ) → capped (0 + capped (a + b)) ≡ capped (a + b)
none-add a b = omega arith

add-none : (a b : ℕ) → capped (capped (a + b) + 0) ≡ capped (a + b)
add-none a b = omega arith

none-most : (a b : ℕ) → max 0 (max a b) ≡ max a b
none-most a b = omega arith

most-none : (a b : ℕ) → max (max a b) 0 ≡ max a b
most-none a b = omega arith

pub none-together : (a b : Counts) → capped_sums.together no_counts (capped_sums.together a b) ≡ capped_sums.together a b
unfolding capped_sums
none-together a b =
    same_counts _ _ (none-add a.creates b.creates) (none-add a.threads b.threads) (none-most a.depth b.depth)
    (none-most a.most b.most) (none-add a.accesses b.accesses) (none-add a.weight b.weight)

pub together-none : (a b : Counts) → capped_sums.together (capped_sums.together a b) no_counts ≡ capped_sums.together a b
unfolding capped_sums
together-none a b =
    same_counts _ _ (add-none a.creates b.creates) (add-none a.threads b.threads) (most-none a.depth b.depth)
    (most-none a.most b.most) (add-none a.accesses b.accesses) (add-none a.weight b.weight)

pub none_none : capped_sums.together no_counts no_counts ≡ no_counts
unfolding capped_sums
none_none = refl

-- nothing before a sum
pub none_arguments : (m : ℕ) (xs : List Cost) → capped_sums.together no_counts (arguments capped_sums m xs) ≡ arguments capped_sums m xs
none_arguments m [] = none_none
none_arguments m (x ∷ xs) = none-together _ _

pub none_in_all : (body : Name → Counts) (s : Scope) (xs : List Expr) → capped_sums.together no_counts (counts_in_all capped_sums body s xs) ≡ counts_in_all capped_sums body s xs
none_in_all body s [] = none_none
none_in_all body s (x ∷ xs) = none-together _ _

pub none_declarators : (k : ℕ) (body : Name → Counts) (w : TypeWord) (ds : List Declarator) (s : Scope)
    → capped_sums.together no_counts (declarators (counts_walk capped_sums k body) w ds s) ≡ declarators (counts_walk capped_sums k body) w ds s
none_declarators k body w [] s = none_none
none_declarators k body w (d ∷ ds) s = none-together _ _

pub none_in_turn : (k : ℕ) (body : Name → Counts) (xs : List (Walked Counts)) (s : Scope)
    → capped_sums.together no_counts (in_turn (counts_walk capped_sums k body) xs s) ≡ in_turn (counts_walk capped_sums k body) xs s
none_in_turn k body [] s = none_none
none_in_turn k body (x ∷ xs) s = none-together _ _

-- one more part is added
pub next_sum : (f g x r w : Counts) → g ≡ capped_sums.together f x → capped_sums.together f (capped_sums.together x r) ≡ w → capped_sums.together g r ≡ w
next_sum f g x r w h k = ap (λ (y : Counts). capped_sums.together y r) h ∙ (together-assoc f x r ∙ k)

pub next_argument : (f g x y r w : Counts) → g ≡ capped_sums.together f (capped_sums.together x y)
    → capped_sums.together f (capped_sums.together x (capped_sums.together y r)) ≡ w → capped_sums.together g r ≡ w
next_argument f g x y r w h k = next_sum f g (capped_sums.together x y) r w h (ap (capped_sums.together f) (together-assoc x y r) ∙ k)

pub next_whole : (f g x : Counts) → g ≡ capped_sums.together f x → capped_sums.together g no_counts ≡ g
next_whole f g x h = ap (λ (y : Counts). capped_sums.together y no_counts) h ∙ (together-none f x ∙ sym h)

-- one more of a list is added
pub next_args : (items : List Item) (table : List Counts) (s : Scope) (m : ℕ) (xs : List Expr) (i : ℕ) (x : Expr) (f g w : Counts) → i < length xs → x ≡ get_or xs i x
    → g ≡ capped_sums.together f (capped_sums.together (capped_sums.weight 1) (accessing capped_sums m (expr_cost items table s x)))
    → capped_sums.together f (arguments capped_sums m (map (expr_cost items table s) (drop i xs))) ≡ w
    → capped_sums.together g (arguments capped_sums 1 (map (expr_cost items table s) (drop (i + 1) xs))) ≡ w
next_args items table s m xs i x f g w h e k v =
    next_argument f g _ _ _ w k
    (ap (λ (l : List Expr). capped_sums.together f (arguments capped_sums m (map (expr_cost items table s) l))) (sym (drop_cons xs i x h e)) ∙ v)

pub next_values : (items : List Item) (table : List Counts) (s : Scope) (xs : List Expr) (i : ℕ) (x : Expr) (f g w : Counts) → i < length xs → x ≡ get_or xs i x
    → g ≡ capped_sums.together f (counts_in capped_sums (table_named items table) s x)
    → capped_sums.together f (counts_in_all capped_sums (table_named items table) s (drop i xs)) ≡ w
    → capped_sums.together g (counts_in_all capped_sums (table_named items table) s (drop (i + 1) xs)) ≡ w
next_values items table s xs i x f g w h e k v =
    next_sum f g _ _ w k
    (ap (λ (l : List Expr). capped_sums.together f (counts_in_all capped_sums (table_named items table) s l)) (sym (drop_cons xs i x h e)) ∙ v)

pub next_declared : (k : ℕ) (items : List Item) (table : List Counts) (word : TypeWord) (xs : List Declarator) (i : ℕ) (x : Declarator) (s t : Scope) (f g w : Counts)
    → i < length xs → x ≡ get_or xs i x → t ≡ declare word x s
    → g ≡ capped_sums.together f (counts_at_start capped_sums (table_named items table) (declare word x s) x.initialiser)
    → capped_sums.together f (declarators (table_walk k items table) word (drop i xs) s) ≡ w
    → capped_sums.together g (declarators (table_walk k items table) word (drop (i + 1) xs) t) ≡ w
next_declared k items table word xs i x s t f g w h e b j v =
    ap (λ (u : Scope). capped_sums.together g (declarators (table_walk k items table) word (drop (i + 1) xs) u)) b
    ∙ next_sum f g _ _ w j
    (ap (λ (l : List Declarator). capped_sums.together f (declarators (table_walk k items table) word l s)) (sym (drop_cons xs i x h e)) ∙ v)

pub next_stmt : (k : ℕ) (items : List Item) (table : List Counts) (xs : List Stmt) (i : ℕ) (x : Stmt) (s t : Scope) (f g w : Counts)
    → i < length xs → x ≡ get_or xs i x → t ≡ (walk (table_walk k items table) x).behind s
    → g ≡ capped_sums.together f ((walk (table_walk k items table) x).found s)
    → capped_sums.together f (in_turn (table_walk k items table) (map (walk (table_walk k items table)) (drop i xs)) s) ≡ w
    → capped_sums.together g (in_turn (table_walk k items table) (map (walk (table_walk k items table)) (drop (i + 1) xs)) t) ≡ w
next_stmt k items table xs i x s t f g w h e b j v =
    ap (λ (u : Scope). capped_sums.together g (in_turn (table_walk k items table) (map (walk (table_walk k items table)) (drop (i + 1) xs)) u)) b
    ∙ next_sum f g _ _ w j
    (ap (λ (l : List Stmt). capped_sums.together f (in_turn (table_walk k items table) (map (walk (table_walk k items table)) l) s)) (sym (drop_cons xs i x h e)) ∙ v)
