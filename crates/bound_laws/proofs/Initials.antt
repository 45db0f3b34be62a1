-- The values that the shared cells of an accepted text begin with are words.
use Rattle.std.proofs.Common.{◌≡◌, ℕ, zero, suc, ◌+◌, List, [], ◌∷◌, Bool, true, false, cond, Option, Some, None, sym, subst, arith}
use Rattle.std.specs.Prelude.{All, nat_eq, ◌&&◌}
use Rattle.std.proofs.lemmas.List.Elements.{All-append, All-cons, All-map, All-nil}
use Rattle.dg_base.proofs.Fits.{operator_fits}
use Rattle.dg_base.specs.declared.operators.Op.TheVariants as op
use Rattle.dg_base.specs.Values.{value_of}
use Rattle.token_list.specs.declared.Token.{Token}
use Rattle.token_list.specs.Numbers.{is_unsigned}
use Rattle.c_tree.specs.declared.constants.Constant.{Constant}
use Rattle.c_tree.specs.declared.expr.TypeWord.{TypeWord}
use Rattle.c_tree.specs.declared.expr.TypeWord.TheVariants as type
use Rattle.c_tree.specs.declared.expr.UnaryOp.{UnaryOp}
use Rattle.c_tree.specs.declared.expr.BinaryOp.{BinaryOp}
use Rattle.c_tree.specs.declared.expr.Expr.{Expr, fold-roll-Expr, map-Expr, roll-Expr}
use Rattle.c_tree.specs.declared.expr.Expr.TheVariants as e
use Rattle.c_tree.specs.declared.expr.Expr.TheOpen.{Expr-F}
use Rattle.c_tree.specs.declared.stmt.Initialiser.{Initialiser}
use Rattle.c_tree.specs.declared.stmt.Declarator.{Declarator}
use Rattle.c_tree.specs.declared.stmt.Decl.{Decl}
use Rattle.c_tree.specs.declared.program.Item.{Item}
use Rattle.c_tree.specs.Constants.{constant_binary, constant_cast, constant_choose, constant_comma, constant_number, constant_of, constant_step, constant_unary, value_or_zero}
use Rattle.c_tree.specs.Operators.{binary_op, binary_unsigned, divides, unary_op}
use Rattle.c_rules.specs.Names.{Name}
use Rattle.c_rules.specs.Walk.{cells_of_size}
use Rattle.c_check.specs.declared.checked.CellInfo.{CellInfo}
use Rattle.c_check.specs.Checked.{array_cells, cell_info, cells_of, cells_of_declarators, cells_of_items, first_values, indexed, value_at, variable_cells}
use Rattle.c_expr.specs.Expressions.{Reads, assign, binary, bracket, call, cast, choose, comma, index, name, number, prefix, step_after, step_before, value_in}
use Rattle.c_stmt.specs.Declarations.{ReadsDeclaration, ReadsDeclarator, ReadsDeclarators, ReadsInitialiser, ReadsValues, absent, braces, declaration, declarator, further, last, last_comma, last_declarator, next_declarator, one}
use Rattle.c_stmt.specs.Programs.{ReadsItem, ReadsItems, ReadsPlain, an_item, function, no_item, plain, prototype, shared, static}
use Rattle.run_laws.specs.Words.{IsWord}
use Rattle.answer_laws.specs.Spelled.{AcceptedHasWordConstants}
use Rattle.bound_laws.specs.Laws.{AcceptedHasWordsOnly}
use Rattle.answer_laws.proofs.Constants.{value_low}

-- ---- constants

-- a word, if it is a constant
abbrev IsSmall : Option Constant → Type 0
IsSmall None = Unit {0}
IsSmall (Some x) = IsWord x.value

small-cast : (w : TypeWord) (o : Option Constant) → IsSmall o → IsSmall (constant_cast w o)
small-cast type.Void o h = tt
small-cast type.Mutex o h = tt
small-cast type.Cond o h = tt
small-cast type.Int None h = tt
small-cast type.Int (Some x) h = h
small-cast type.Uint None h = tt
small-cast type.Uint (Some x) h = h
small-cast type.VoidPointer None h = tt
small-cast type.VoidPointer (Some x) h = h
small-cast type.Thread None h = tt
small-cast type.Thread (Some x) h = h

small-unary : (o : UnaryOp) (x : Option Constant) → IsSmall x → IsSmall (constant_unary o x)
small-unary o None h = tt
small-unary o (Some x) h = operator_fits (unary_op o) x.value 0 0 h (omega arith) (omega arith)

small-unless : (b : Bool) (o : Option Constant) → IsSmall o → IsSmall (cond b None o)
small-unless true o h = tt
small-unless false o h = h

small-binary : (o : BinaryOp) (x y : Option Constant) → IsSmall x → IsSmall y → IsSmall (constant_binary o x y)
small-binary o None y h k = tt
small-binary o (Some x) None h k = tt
small-binary o (Some x) (Some y) h k =
    let by : Option Constant = constant_number (value_of (binary_op o x.unsigned y.unsigned) (x.value ∷ y.value ∷ [])) (binary_unsigned o x.unsigned y.unsigned) in
    small-unless (divides o && nat_eq y.value 0) by (operator_fits (binary_op o x.unsigned y.unsigned) x.value y.value 0 h k (omega arith))

small-choose : (x y z : Option Constant) → IsSmall x → IsSmall y → IsSmall z → IsSmall (constant_choose x y z)
small-choose None y z h k l = tt
small-choose (Some x) None z h k l = tt
small-choose (Some x) (Some y) None h k l = tt
small-choose (Some x) (Some y) (Some z) h k l = operator_fits op.Choose x.value y.value z.value h k l

small-comma : (x y : Option Constant) → IsSmall y → IsSmall (constant_comma x y)
small-comma None y h = tt
small-comma (Some x) y h = h

-- ---- expressions

rolled : (l : Expr-F Expr) (x : Expr) → roll-Expr l ≡ x → IsSmall (constant_step (map-Expr Expr (Option Constant) constant_of l)) → IsSmall (constant_of x)
rolled l x is h = subst (λ (z : Expr). IsSmall (constant_of z)) is (subst IsSmall (sym (fold-roll-Expr (Option Constant) constant_step l)) h)

small-reads : {f n : ℕ} {a : List Token} {x : Expr} → Reads f n a x → IsSmall (constant_of x)
small-reads (name {p = p} {c = c} h) = rolled (Expr-F.Name p c) (e.Name p c) (e.rolls-Name p c) tt
small-reads (number {p = p} {c = c}) =
    let u : Bool = is_unsigned c (value_in c) in
    rolled (Expr-F.Number p (value_in c) u) (e.Number p (value_in c) u) (e.rolls-Number p (value_in c) u) (value_low c)
small-reads (bracket {p = p} q {x = x} r) = rolled (Expr-F.Bracket p x) (e.Bracket p x) (e.rolls-Bracket p x) (small-reads r)
small-reads (index {p = p} q r {c = c} {x = x} h k) = rolled (Expr-F.Index p c x) (e.Index p c x) (e.rolls-Index p c x) tt
small-reads (call {p = p} q r {c = c} {xs = xs} h k) = rolled (Expr-F.Call p c xs) (e.Call p c xs) (e.rolls-Call p c xs) tt
small-reads (cast {p = p} q {kind = w} {x = x} h i r) = rolled (Expr-F.Cast p w x) (e.Cast p w x) (e.rolls-Cast p w x) (small-cast w (constant_of x) (small-reads r))
small-reads (prefix {p = p} {o = o} {x = x} h r) = rolled (Expr-F.Unary p o x) (e.Unary p o x) (e.rolls-Unary p o x) (small-unary o (constant_of x) (small-reads r))
small-reads (step_before {p = p} {o = o} {x = x} h v r) = rolled (Expr-F.StepBefore p o x) (e.StepBefore p o x) (e.rolls-StepBefore p o x) tt
small-reads (step_after {p = p} {o = o} {x = x} h v r) = rolled (Expr-F.StepAfter p o x) (e.StepAfter p o x) (e.rolls-StepAfter p o x) tt
small-reads (binary {p = p} {o = o} {x = x} {y = y} h r k) =
    rolled (Expr-F.Binary p o x y) (e.Binary p o x y) (e.rolls-Binary p o x y) (small-binary o (constant_of x) (constant_of y) (small-reads r) (small-reads k))
small-reads (choose {p = p} q {x = x} {y = y} {z = z} h r k t) =
    rolled (Expr-F.Choose p x y z) (e.Choose p x y z) (e.rolls-Choose p x y z)
    (small-choose (constant_of x) (constant_of y) (constant_of z) (small-reads r) (small-reads k) (small-reads t))
small-reads (assign {p = p} {o = o} {x = x} {y = y} h m v r k) = rolled (Expr-F.Assign p o x y) (e.Assign p o x y) (e.rolls-Assign p o x y) tt
small-reads (comma {p = p} {x = x} {y = y} h r k) =
    rolled (Expr-F.Comma p x y) (e.Comma p x y) (e.rolls-Comma p x y) (small-comma (constant_of x) (constant_of y) (small-reads k))

-- ---- initialisers

abbrev AreSmall : List Expr → Type 0
AreSmall [] = Unit {0}
AreSmall (x ∷ xs) = IsSmall (constant_of x) × AreSmall xs

small-values : {n : ℕ} {a : List Token} {xs : List Expr} → ReadsValues n a xs → AreSmall xs
small-values (last r) = (small-reads r, tt)
small-values (last_comma p r) = (small-reads r, tt)
small-values (further p r k) = (small-reads r, small-values k)

small-initialiser : {n : ℕ} {a : List Token} {o : Option Initialiser} → ReadsInitialiser n a o → AreSmall (first_values o)
small-initialiser absent = tt
small-initialiser (one p r) = (small-reads r, tt)
small-initialiser (braces p q r k) = small-values k

-- ---- cells

or_zero : (o : Option Constant) → IsSmall o → IsWord (value_or_zero o)
or_zero None h = omega arith
or_zero (Some x) h = h

first_word : (xs : List Expr) (i : ℕ) → AreSmall xs → IsWord (value_at xs i)
first_word [] zero h = omega arith
first_word [] (suc i) h = omega arith
first_word (x ∷ xs) zero h = or_zero (constant_of x) h.0
first_word (x ∷ xs) (suc i) h = first_word xs i h.1

abbrev BeginsWithWord : CellInfo → Type 0
BeginsWithWord c = IsWord c.initial

abbrev BeginWithWords : List CellInfo → Type 0
BeginWithWords cells = All BeginsWithWord cells

array_words : (m : ℕ) (n : Name) (i : ℕ) (xs : List Expr) → AreSmall xs → BeginWithWords (array_cells m n i xs)
array_words zero n i xs h = All-nil BeginsWithWord
array_words (suc m) n i xs h = All-cons BeginsWithWord (cell_info (indexed n i) (value_at xs i)) (array_cells m n (i + 1) xs) (first_word xs i h) (array_words m n (i + 1) xs h)

variable_words : (n : Name) (size : Option ℕ) (xs : List Expr) → AreSmall xs → BeginWithWords (variable_cells n size xs)
variable_words n None xs h = All-cons BeginsWithWord (cell_info n (value_at xs 0)) [] (first_word xs 0 h) (All-nil BeginsWithWord)
variable_words n (Some m) xs h = array_words m n 0 xs h

abbrev cells_of_declarator : Declarator → List CellInfo
cells_of_declarator d = variable_cells d.name (cells_of_size d.size) (first_values d.initialiser)

declarator_words : {n : ℕ} {a : List Token} {d : Declarator} → ReadsDeclarator n a d → BeginWithWords (cells_of_declarator d)
declarator_words (declarator {c = c} {size = size} {first = first} h k r) = variable_words c (cells_of_size size) (first_values first) (small-initialiser r)

declarators_words : {n : ℕ} {a : List Token} {ds : List Declarator} → ReadsDeclarators n a ds → BeginWithWords (cells_of_declarators ds)
declarators_words (last_declarator {d = d} r) = All-append BeginsWithWord (cells_of_declarator d) [] (declarator_words r) (All-nil BeginsWithWord)
declarators_words (next_declarator q {d = d} {e = x} {ds = ds} r k) = All-append BeginsWithWord (cells_of_declarator d) (cells_of_declarators (x ∷ ds)) (declarator_words r) (declarators_words k)

declaration_words : {n : ℕ} {a : List Token} {d : Decl} → ReadsDeclaration n a d → BeginWithWords (cells_of_declarators d.declarators)
declaration_words (declaration q h r) = declarators_words r

plain_words : {n : ℕ} {a : List Token} {x : Item} → ReadsPlain n a x → (xs : List Item) → BeginWithWords (cells_of_items xs) → BeginWithWords (cells_of_items (x ∷ xs))
plain_words (function q r t u k m h b) xs more = more
plain_words (prototype q r t k m h) xs more = more
plain_words (shared {d = d} h) xs more = All-append BeginsWithWord (cells_of_declarators d.declarators) (cells_of_items xs) (declaration_words h) more

item_words : {n : ℕ} {a : List Token} {x : Item} → ReadsItem n a x → (xs : List Item) → BeginWithWords (cells_of_items xs) → BeginWithWords (cells_of_items (x ∷ xs))
item_words (plain h) xs more = plain_words h xs more
item_words (static p h) xs more = plain_words h xs more

items_words : {n : ℕ} {a : List Token} {xs : List Item} → ReadsItems n a xs → BeginWithWords (cells_of_items xs)
items_words no_item = All-nil BeginsWithWord
items_words (an_item {xs = xs} h k) = item_words h xs (items_words k)

-- ---- the law

pub words_only : AcceptedHasWordConstants → AcceptedHasWordsOnly
words_only constants bound full text p acc = record {
  constants = constants bound full text p acc;
  cells = All-map IsWord (λ (c : CellInfo). c.initial) (cells_of p.program) (items_words acc.read.read);
}
