-- The constants of an accepted text are words.
use Rattle.std.proofs.Common.{◌≡◌, ℕ, ◌<◌, ◌^◌, List, [], ◌∷◌, ◌++◌, map, Bool, true, false, cond, Option, Some, None, length, take, refl, sym, ap, ◌∙◌, subst, arith}
use Rattle.std.specs.Prelude.{All, nat_lt, ◌-◌, ◌==◌, ◌||◌, if◌then◌else◌, unwrap_or}
use Rattle.std.proofs.lemmas.Bool.{ltb-true}
use Rattle.std.proofs.lemmas.List.Elements.{All-append, All-cons}
use Rattle.std.proofs.lemmas.Option.{none-some, same_Some}
use Rattle.dg_base.specs.declared.Place.{Place}
use Rattle.token_list.specs.declared.Token.{Token}
use Rattle.token_list.specs.Numbers.{below, decimal_limit, ends_in_u, is_unsigned, number_value, plain_value, value_of}
use Rattle.c_tree.specs.declared.expr.TypeWord.{TypeWord}
use Rattle.c_tree.specs.declared.expr.UnaryOp.{UnaryOp}
use Rattle.c_tree.specs.declared.expr.StepOp.{StepOp}
use Rattle.c_tree.specs.declared.expr.BinaryOp.{BinaryOp}
use Rattle.c_tree.specs.declared.expr.AssignOp.{AssignOp}
use Rattle.c_tree.specs.declared.expr.Expr.{Expr, fold-roll-Expr}
use Rattle.c_tree.specs.declared.expr.Expr.TheVariants as e
use Rattle.c_tree.specs.declared.expr.Expr.TheOpen.{Expr-F}
use Rattle.c_tree.specs.declared.stmt.Initialiser.{Initialiser}
use Rattle.c_tree.specs.declared.stmt.Declarator.{Declarator}
use Rattle.c_tree.specs.declared.stmt.Decl.{Decl}
use Rattle.c_tree.specs.declared.stmt.Start.{Start}
use Rattle.c_tree.specs.declared.stmt.Stmt.{Stmt, fold-roll-Stmt}
use Rattle.c_tree.specs.declared.stmt.Stmt.TheVariants as s
use Rattle.c_tree.specs.declared.stmt.Stmt.TheOpen.{Stmt-F}
use Rattle.c_tree.specs.declared.program.Item.{Item}
use Rattle.c_rules.specs.Names.{Name, functions_of}
use Rattle.c_expr.specs.Expressions.{Reads, ReadsArgument, ReadsArguments, address, assign, binary, bracket, call, cast, choose, comma, index, more_arguments, name, no_argument, number, one_argument, prefix, step_after, step_before, text, value, value_in}
use Rattle.c_stmt.specs.Declarations.{ReadsDeclaration, ReadsDeclarator, ReadsDeclarators, ReadsInitialiser, ReadsOption, ReadsValues, absent, braces, declaration, declarator, further, last, last_comma, last_declarator, next_declarator, none, one, some}
use Rattle.c_stmt.specs.Statements.{ReadsBlock, ReadsStart, ReadsStmt, a_declaration, a_statement, block, break, continue, declare, do_while, empty, expr, expr_start, for, if_else, if_only, label, no_more, nothing, return, while}
use Rattle.c_stmt.specs.Programs.{ReadsItem, ReadsItems, ReadsPlain, an_item, function, no_item, plain, prototype, shared, static}
use Rattle.run_laws.specs.Leaves.{Called, Leaf, Value, in_all, in_declarators, in_for, in_functions, in_option, in_start, in_stmt, leaves, leaves_step, stmt_leaves}
use Rattle.run_laws.specs.Words.{IsWord, IsWordIn}
use Rattle.answer_laws.specs.Spelled.{AcceptedHasWordConstants}

-- ---- numbers

below_low : (limit : ℕ) (o : Option ℕ) (n : ℕ) → below limit o ≡ Some n → n < limit
below_low limit None n e = absurd (none-some n e)
below_low limit (Some k) n e = by (nat_lt k limit) refl e
  where
    by : (b : Bool) → nat_lt k limit ≡ b → cond b (Some k) None ≡ Some n → n < limit
    by true t f = let same = same_Some k n f in let low = ltb-true k limit t in omega arith
    by false t f = absurd (none-some n f)

limit_low : (u : Bool) (n : ℕ) → n < decimal_limit u → IsWord n
limit_low true n h = h
limit_low false n h = omega arith

plain_low : (u : Bool) (c : List ℕ) (n : ℕ) → plain_value u c ≡ Some n → IsWord n
plain_low u [] n e = absurd (none-some n e)
plain_low u (b ∷ []) n e = limit_low u n (below_low (decimal_limit u) (value_of 10 (b ∷ [])) n e)
plain_low u (b ∷ c ∷ cs) n e = by (b == 48) e
  where
    by : (t : Bool) → cond t (below (2 ^ 32) (if (c == 120) || (c == 88) then value_of 16 cs else value_of 8 (c ∷ cs))) (below (decimal_limit u) (value_of 10 (b ∷ c ∷ cs))) ≡ Some n → IsWord n
    by true f = below_low (2 ^ 32) (if (c == 120) || (c == 88) then value_of 16 cs else value_of 8 (c ∷ cs)) n f
    by false f = limit_low u n (below_low (decimal_limit u) (value_of 10 (b ∷ c ∷ cs)) n f)

number_low : (c : List ℕ) (n : ℕ) → number_value c ≡ Some n → IsWord n
unfolding number_value
number_low c n e = by (ends_in_u c) e
  where
    by : (t : Bool) → cond t (plain_value true (take (length c - 1) c)) (plain_value false c) ≡ Some n → IsWord n
    by true f = plain_low true (take (length c - 1) c) n f
    by false f = plain_low false c n f

pub value_low : (c : List ℕ) → IsWord (value_in c)
value_low c = by (number_value c) refl
  where
    by : (o : Option ℕ) → number_value c ≡ o → IsWord (unwrap_or o 0)
    by None f = omega arith
    by (Some n) f = number_low c n f

-- ---- leaves of each form

leaves-name : (p : Place) (n : Name) → leaves (e.Name p n) ≡ []
leaves-name p n = ap leaves (sym (e.rolls-Name p n)) ∙ fold-roll-Expr (List Leaf) leaves_step (Expr-F.Name p n)

leaves-number : (p : Place) (v : ℕ) (u : Bool) → leaves (e.Number p v u) ≡ Value v ∷ []
leaves-number p v u = ap leaves (sym (e.rolls-Number p v u)) ∙ fold-roll-Expr (List Leaf) leaves_step (Expr-F.Number p v u)

leaves-text : (p : Place) → leaves (e.Text p) ≡ []
leaves-text p = ap leaves (sym (e.rolls-Text p)) ∙ fold-roll-Expr (List Leaf) leaves_step (Expr-F.Text p)

leaves-bracket : (p : Place) (x : Expr) → leaves (e.Bracket p x) ≡ leaves x
leaves-bracket p x = ap leaves (sym (e.rolls-Bracket p x)) ∙ fold-roll-Expr (List Leaf) leaves_step (Expr-F.Bracket p x)

leaves-index : (p : Place) (n : Name) (x : Expr) → leaves (e.Index p n x) ≡ leaves x
leaves-index p n x = ap leaves (sym (e.rolls-Index p n x)) ∙ fold-roll-Expr (List Leaf) leaves_step (Expr-F.Index p n x)

leaves-call : (p : Place) (n : Name) (xs : List Expr) → leaves (e.Call p n xs) ≡ Called n ∷ in_all (map leaves xs)
leaves-call p n xs = ap leaves (sym (e.rolls-Call p n xs)) ∙ fold-roll-Expr (List Leaf) leaves_step (Expr-F.Call p n xs)

leaves-cast : (p : Place) (k : TypeWord) (x : Expr) → leaves (e.Cast p k x) ≡ leaves x
leaves-cast p k x = ap leaves (sym (e.rolls-Cast p k x)) ∙ fold-roll-Expr (List Leaf) leaves_step (Expr-F.Cast p k x)

leaves-unary : (p : Place) (o : UnaryOp) (x : Expr) → leaves (e.Unary p o x) ≡ leaves x
leaves-unary p o x = ap leaves (sym (e.rolls-Unary p o x)) ∙ fold-roll-Expr (List Leaf) leaves_step (Expr-F.Unary p o x)

leaves-step_before : (p : Place) (o : StepOp) (x : Expr) → leaves (e.StepBefore p o x) ≡ leaves x
leaves-step_before p o x = ap leaves (sym (e.rolls-StepBefore p o x)) ∙ fold-roll-Expr (List Leaf) leaves_step (Expr-F.StepBefore p o x)

leaves-step_after : (p : Place) (o : StepOp) (x : Expr) → leaves (e.StepAfter p o x) ≡ leaves x
leaves-step_after p o x = ap leaves (sym (e.rolls-StepAfter p o x)) ∙ fold-roll-Expr (List Leaf) leaves_step (Expr-F.StepAfter p o x)

leaves-binary : (p : Place) (o : BinaryOp) (x y : Expr) → leaves (e.Binary p o x y) ≡ leaves x ++ leaves y
leaves-binary p o x y = ap leaves (sym (e.rolls-Binary p o x y)) ∙ fold-roll-Expr (List Leaf) leaves_step (Expr-F.Binary p o x y)

leaves-choose : (p : Place) (x y z : Expr) → leaves (e.Choose p x y z) ≡ leaves x ++ (leaves y ++ leaves z)
leaves-choose p x y z = ap leaves (sym (e.rolls-Choose p x y z)) ∙ fold-roll-Expr (List Leaf) leaves_step (Expr-F.Choose p x y z)

leaves-assign : (p : Place) (o : AssignOp) (x y : Expr) → leaves (e.Assign p o x y) ≡ leaves x ++ leaves y
leaves-assign p o x y = ap leaves (sym (e.rolls-Assign p o x y)) ∙ fold-roll-Expr (List Leaf) leaves_step (Expr-F.Assign p o x y)

leaves-comma : (p : Place) (x y : Expr) → leaves (e.Comma p x y) ≡ leaves x ++ leaves y
leaves-comma p x y = ap leaves (sym (e.rolls-Comma p x y)) ∙ fold-roll-Expr (List Leaf) leaves_step (Expr-F.Comma p x y)

leaves-address : (p : Place) (x : Expr) → leaves (e.Address p x) ≡ leaves x
leaves-address p x = ap leaves (sym (e.rolls-Address p x)) ∙ fold-roll-Expr (List Leaf) leaves_step (Expr-F.Address p x)

-- ---- expressions

-- each of the leaves is a word, if it is a constant
record AreWords (l : List Leaf) : Type 0 where
  all : All IsWordIn l

no_leaves : AreWords []
no_leaves = record { all = λ k d l. absurd (omega arith) }

first_leaf : (x : Leaf) (l : List Leaf) → IsWordIn x → AreWords l → AreWords (x ∷ l)
first_leaf x l h w = record { all = All-cons IsWordIn x l h w.all }

both_leaves : (l m : List Leaf) → AreWords l → AreWords m → AreWords (l ++ m)
both_leaves l m h k = record { all = All-append IsWordIn l m h.all k.all }

as_leaves : (l m : List Leaf) → l ≡ m → AreWords m → AreWords l
as_leaves l m same w = subst AreWords (sym same) w

mutual
  words-reads : {f n : ℕ} {a : List Token} {x : Expr} → Reads f n a x → AreWords (leaves x)
  words-reads (name {p = p} {c = c} h) = as_leaves _ [] (leaves-name p c) no_leaves
  words-reads (number {p = p} {c = c}) = as_leaves _ (Value (value_in c) ∷ []) (leaves-number p (value_in c) (is_unsigned c (value_in c))) (first_leaf (Value (value_in c)) [] (value_low c) no_leaves)
  words-reads (bracket {p = p} q {x = x} r) = as_leaves _ (leaves x) (leaves-bracket p x) (words-reads r)
  words-reads (index {p = p} q r {c = c} {x = x} h k) = as_leaves _ (leaves x) (leaves-index p c x) (words-reads k)
  words-reads (call {p = p} q r {c = c} {xs = xs} h k) = as_leaves _ (Called c ∷ in_all (map leaves xs)) (leaves-call p c xs) (first_leaf (Called c) (in_all (map leaves xs)) tt (all-words-reads k))
  words-reads (cast {p = p} q {kind = k} {x = x} h i r) = as_leaves _ (leaves x) (leaves-cast p k x) (words-reads r)
  words-reads (prefix {p = p} {o = o} {x = x} h r) = as_leaves _ (leaves x) (leaves-unary p o x) (words-reads r)
  words-reads (step_before {p = p} {o = o} {x = x} h v r) = as_leaves _ (leaves x) (leaves-step_before p o x) (words-reads r)
  words-reads (step_after {p = p} {o = o} {x = x} h v r) = as_leaves _ (leaves x) (leaves-step_after p o x) (words-reads r)
  words-reads (binary {p = p} {o = o} {x = x} {y = y} h r k) = as_leaves _ (leaves x ++ leaves y) (leaves-binary p o x y) (both_leaves (leaves x) (leaves y) (words-reads r) (words-reads k))
  words-reads (choose {p = p} q {x = x} {y = y} {z = z} h r k t) =
      as_leaves _ (leaves x ++ (leaves y ++ leaves z)) (leaves-choose p x y z) (both_leaves (leaves x) (leaves y ++ leaves z) (words-reads r) (both_leaves (leaves y) (leaves z) (words-reads k) (words-reads t)))
  words-reads (assign {p = p} {o = o} {x = x} {y = y} h m v r k) = as_leaves _ (leaves x ++ leaves y) (leaves-assign p o x y) (both_leaves (leaves x) (leaves y) (words-reads r) (words-reads k))
  words-reads (comma {p = p} {x = x} {y = y} h r k) = as_leaves _ (leaves x ++ leaves y) (leaves-comma p x y) (both_leaves (leaves x) (leaves y) (words-reads r) (words-reads k))

  words-argument : {n : ℕ} {a : List Token} {x : Expr} → ReadsArgument n a x → AreWords (leaves x)
  words-argument (value r) = words-reads r
  words-argument (address {p = p} {x = x} v r) = as_leaves _ (leaves x) (leaves-address p x) (words-reads r)
  words-argument (text {t = t} h) = as_leaves _ [] (leaves-text t.place) no_leaves

  all-words-reads : {n : ℕ} {a : List Token} {xs : List Expr} → ReadsArguments n a xs → AreWords (in_all (map leaves xs))
  all-words-reads no_argument = no_leaves
  all-words-reads (one_argument {x = x} r) = both_leaves (leaves x) [] (words-argument r) no_leaves
  all-words-reads (more_arguments p {x = x} {y = y} {xs = xs} r k) = both_leaves (leaves x) (in_all (map leaves (y ∷ xs))) (words-argument r) (all-words-reads k)

-- ---- declarations

words-option : {n : ℕ} {a : List Token} {x : Option Expr} → ReadsOption n a x → AreWords (in_option x)
words-option none = no_leaves
words-option (some r) = words-reads r

words-values : {n : ℕ} {a : List Token} {xs : List Expr} → ReadsValues n a xs → AreWords (in_all (map leaves xs))
words-values (last {x = x} r) = both_leaves (leaves x) [] (words-reads r) no_leaves
words-values (last_comma p {x = x} r) = both_leaves (leaves x) [] (words-reads r) no_leaves
words-values (further p {x = x} {y = y} {xs = xs} r k) = both_leaves (leaves x) (in_all (map leaves (y ∷ xs))) (words-reads r) (words-values k)

words-initialiser : {n : ℕ} {a : List Token} {o : Option Initialiser} → ReadsInitialiser n a o → AreWords (in_start o)
words-initialiser absent = no_leaves
words-initialiser (one p r) = words-reads r
words-initialiser (braces p q r k) = words-values k

words-declarator : {n : ℕ} {a : List Token} {d : Declarator} → ReadsDeclarator n a d → AreWords (in_start d.initialiser)
words-declarator (declarator h k r) = words-initialiser r

words-declarators : {n : ℕ} {a : List Token} {ds : List Declarator} → ReadsDeclarators n a ds → AreWords (in_declarators ds)
words-declarators (last_declarator {d = d} r) = both_leaves (in_start d.initialiser) [] (words-declarator r) no_leaves
words-declarators (next_declarator q {d = d} {e = x} {ds = ds} r k) = both_leaves (in_start d.initialiser) (in_declarators (x ∷ ds)) (words-declarator r) (words-declarators k)

words-declaration : {n : ℕ} {a : List Token} {d : Decl} → ReadsDeclaration n a d → AreWords (in_declarators d.declarators)
words-declaration (declaration q h r) = words-declarators r

words-start : {n : ℕ} {a : List Token} {t : Start} → ReadsStart n a t → AreWords (in_for t)
words-start (nothing p) = no_leaves
words-start (expr_start p r) = words-reads r
words-start (declare r) = words-declaration r

-- ---- statements

stmt-empty : (p : Place) → in_stmt (s.Empty p) ≡ []
stmt-empty p = ap in_stmt (sym (s.rolls-Empty p)) ∙ fold-roll-Stmt (List Leaf) stmt_leaves (Stmt-F.Empty p)

stmt-expr : (p : Place) (x : Expr) → in_stmt (s.Expr p x) ≡ leaves x
stmt-expr p x = ap in_stmt (sym (s.rolls-Expr p x)) ∙ fold-roll-Stmt (List Leaf) stmt_leaves (Stmt-F.Expr p x)

stmt-declare : (d : Decl) → in_stmt (s.Declare d) ≡ in_declarators d.declarators
stmt-declare d = ap in_stmt (sym (s.rolls-Declare d)) ∙ fold-roll-Stmt (List Leaf) stmt_leaves (Stmt-F.Declare d)

stmt-block : (p : Place) (xs : List Stmt) → in_stmt (s.Block p xs) ≡ in_all (map in_stmt xs)
stmt-block p xs = ap in_stmt (sym (s.rolls-Block p xs)) ∙ fold-roll-Stmt (List Leaf) stmt_leaves (Stmt-F.Block p xs)

stmt-label : (p : Place) (n : Name) (x : Stmt) → in_stmt (s.Label p n x) ≡ in_stmt x
stmt-label p n x = ap in_stmt (sym (s.rolls-Label p n x)) ∙ fold-roll-Stmt (List Leaf) stmt_leaves (Stmt-F.Label p n x)

stmt-if : (p : Place) (t : Expr) (x : Stmt) → in_stmt (s.If p t x None) ≡ leaves t ++ (in_stmt x ++ [])
stmt-if p t x = ap in_stmt (sym (s.rolls-If p t x None)) ∙ fold-roll-Stmt (List Leaf) stmt_leaves (Stmt-F.If p t x None)

stmt-else : (p : Place) (t : Expr) (x y : Stmt) → in_stmt (s.If p t x (Some y)) ≡ leaves t ++ (in_stmt x ++ in_stmt y)
stmt-else p t x y = ap in_stmt (sym (s.rolls-If p t x (Some y))) ∙ fold-roll-Stmt (List Leaf) stmt_leaves (Stmt-F.If p t x (Some y))

stmt-while : (p : Place) (t : Expr) (x : Stmt) → in_stmt (s.While p t x) ≡ leaves t ++ in_stmt x
stmt-while p t x = ap in_stmt (sym (s.rolls-While p t x)) ∙ fold-roll-Stmt (List Leaf) stmt_leaves (Stmt-F.While p t x)

stmt-do_while : (p : Place) (x : Stmt) (t : Expr) → in_stmt (s.DoWhile p x t) ≡ in_stmt x ++ leaves t
stmt-do_while p x t = ap in_stmt (sym (s.rolls-DoWhile p x t)) ∙ fold-roll-Stmt (List Leaf) stmt_leaves (Stmt-F.DoWhile p x t)

stmt-for : (p : Place) (b : Start) (t n : Option Expr) (x : Stmt) → in_stmt (s.For p b t n x) ≡ in_for b ++ (in_option t ++ (in_option n ++ in_stmt x))
stmt-for p b t n x = ap in_stmt (sym (s.rolls-For p b t n x)) ∙ fold-roll-Stmt (List Leaf) stmt_leaves (Stmt-F.For p b t n x)

stmt-return : (p : Place) (x : Option Expr) → in_stmt (s.Return p x) ≡ in_option x
stmt-return p x = ap in_stmt (sym (s.rolls-Return p x)) ∙ fold-roll-Stmt (List Leaf) stmt_leaves (Stmt-F.Return p x)

stmt-break : (p : Place) → in_stmt (s.Break p) ≡ []
stmt-break p = ap in_stmt (sym (s.rolls-Break p)) ∙ fold-roll-Stmt (List Leaf) stmt_leaves (Stmt-F.Break p)

stmt-continue : (p : Place) → in_stmt (s.Continue p) ≡ []
stmt-continue p = ap in_stmt (sym (s.rolls-Continue p)) ∙ fold-roll-Stmt (List Leaf) stmt_leaves (Stmt-F.Continue p)

mutual
  words-stmt : {n : ℕ} {a : List Token} {x : Stmt} → ReadsStmt n a x → AreWords (in_stmt x)
  words-stmt (empty {p = p}) = as_leaves _ [] (stmt-empty p) no_leaves
  words-stmt (expr q {t = t} {x = x} r) = as_leaves _ (leaves x) (stmt-expr t.place x) (words-reads r)
  words-stmt (block {p = p} q {xs = xs} r) = as_leaves _ (in_all (map in_stmt xs)) (stmt-block p xs) (words-block r)
  words-stmt (label {p = p} q {c = c} {x = x} h r) = as_leaves _ (in_stmt x) (stmt-label p c x) (words-stmt r)
  words-stmt (if_only {p = p} q r {x = x} {y = y} h k) =
      as_leaves _ (leaves x ++ (in_stmt y ++ [])) (stmt-if p x y) (both_leaves (leaves x) (in_stmt y ++ []) (words-reads h) (both_leaves (in_stmt y) [] (words-stmt k) no_leaves))
  words-stmt (if_else {p = p} q r t {x = x} {y = y} {z = z} h k o l) =
      as_leaves _ (leaves x ++ (in_stmt y ++ in_stmt z)) (stmt-else p x y z) (both_leaves (leaves x) (in_stmt y ++ in_stmt z) (words-reads h) (both_leaves (in_stmt y) (in_stmt z) (words-stmt k) (words-stmt l)))
  words-stmt (while {p = p} q r {x = x} {y = y} h k) = as_leaves _ (leaves x ++ in_stmt y) (stmt-while p x y) (both_leaves (leaves x) (in_stmt y) (words-reads h) (words-stmt k))
  words-stmt (do_while {p = p} q r t u {x = x} {y = y} k h) = as_leaves _ (in_stmt y ++ leaves x) (stmt-do_while p y x) (both_leaves (in_stmt y) (leaves x) (words-stmt k) (words-reads h))
  words-stmt (for {p = p} q r t {begin = b} {x = x} {y = y} {z = z} h k l m) =
      as_leaves _ (in_for b ++ (in_option x ++ (in_option y ++ in_stmt z))) (stmt-for p b x y z)
      (both_leaves (in_for b) (in_option x ++ (in_option y ++ in_stmt z)) (words-start h)
      (both_leaves (in_option x) (in_option y ++ in_stmt z) (words-option k) (both_leaves (in_option y) (in_stmt z) (words-option l) (words-stmt m))))
  words-stmt (return {p = p} q {x = x} r) = as_leaves _ (in_option x) (stmt-return p x) (words-option r)
  words-stmt (break {p = p} q) = as_leaves _ [] (stmt-break p) no_leaves
  words-stmt (continue {p = p} q) = as_leaves _ [] (stmt-continue p) no_leaves

  words-block : {n : ℕ} {a : List Token} {xs : List Stmt} → ReadsBlock n a xs → AreWords (in_all (map in_stmt xs))
  words-block no_more = no_leaves
  words-block (a_declaration {d = d} {xs = xs} h k) =
      both_leaves (in_stmt (s.Declare d)) (in_all (map in_stmt xs)) (as_leaves _ (in_declarators d.declarators) (stmt-declare d) (words-declaration h)) (words-block k)
  words-block (a_statement {x = x} {xs = xs} h k) = both_leaves (in_stmt x) (in_all (map in_stmt xs)) (words-stmt h) (words-block k)

-- ---- programs

words-plain : {n : ℕ} {a : List Token} {x : Item} → ReadsPlain n a x → (xs : List Item) → AreWords (in_functions (functions_of xs)) → AreWords (in_functions (functions_of (x ∷ xs)))
words-plain (function {p = p} q r t u {k = w} {name = c} {ps = ps} {body = body} k m h b) xs more =
    both_leaves (in_all (map in_stmt body)) (in_functions (functions_of xs)) (words-block b) more
words-plain (prototype q r t k m h) xs more = more
words-plain (shared h) xs more = more

words-item : {n : ℕ} {a : List Token} {x : Item} → ReadsItem n a x → (xs : List Item) → AreWords (in_functions (functions_of xs)) → AreWords (in_functions (functions_of (x ∷ xs)))
words-item (plain h) xs more = words-plain h xs more
words-item (static p h) xs more = words-plain h xs more

words-items : {n : ℕ} {a : List Token} {xs : List Item} → ReadsItems n a xs → AreWords (in_functions (functions_of xs))
words-items no_item = no_leaves
words-items (an_item {xs = xs} h k) = words-item h xs (words-items k)

pub accepted_constants : AcceptedHasWordConstants
accepted_constants bound full source p acc = (words-items acc.read.read).all
