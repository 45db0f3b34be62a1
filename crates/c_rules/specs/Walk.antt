-- One walk over a program in the order of the text, with the scope that each part stands in. Names, types and counts are
-- walks: each says what it finds at each form, and how two finds are one.
use Rattle.std.specs.Prelude.{ℕ, List, [], ◌∷◌, ◌++◌, map, length, Bool, true, false, Option, Some, None}
use Rattle.dg_base.specs.declared.Place.{Place}
use Rattle.c_tree.specs.Constants.{constant_value}
use Rattle.c_tree.specs.declared.expr.Expr.{Expr}
use Rattle.c_tree.specs.declared.expr.TypeWord.{TypeWord}
use Rattle.c_tree.specs.declared.expr.TypeWord.TheVariants as type
use Rattle.c_tree.specs.declared.stmt.Declarator.{Declarator}
use Rattle.c_tree.specs.declared.stmt.Start.{Start}
use Rattle.c_tree.specs.declared.stmt.Start.TheVariants as start
use Rattle.c_tree.specs.declared.stmt.Stmt.{Stmt, fold-Stmt}
use Rattle.c_tree.specs.declared.stmt.Stmt.TheOpen.{Stmt-F}
use Rattle.c_tree.specs.declared.program.Param.{Param}
use Rattle.c_tree.specs.declared.program.Function.{Function}
use Rattle.c_tree.specs.declared.program.Item.{Item}
use Rattle.c_tree.specs.declared.program.Item.TheVariants as item
use Rattle.c_tree.specs.declared.program.Program.{Program}
use Rattle.c_rules.specs.declared.names.Entry.{Entry}
use Rattle.c_rules.specs.Names.{Name, Scope}

abbrev pub cells_of_size : Option Expr → Option ℕ
cells_of_size None = None
cells_of_size (Some e) = Some (constant_value e)

abbrev pub variable_entry : Name → TypeWord → Option ℕ → Bool → Entry
variable_entry n w cells shared = record { name = n; variable = Some (record { word = w; cells = cells; shared = shared }) }

-- the scope behind a declarator's name and size
abbrev pub declare : TypeWord → Declarator → Scope → Scope
declare w d s = record s { entries = s.entries ++ variable_entry d.name w (cells_of_size d.size) s.top ∷ [] }

abbrev pub declare_all : TypeWord → List Declarator → Scope → Scope
declare_all w [] s = s
declare_all w (d ∷ ds) s = declare_all w ds (declare w d s)

-- a new scope inside this one
abbrev pub enter : Scope → Scope
enter s = record s { start = length s.entries; top = false }

abbrev pub loop_in : Scope → Scope
loop_in s = record s { in_loop = true }

-- What a walk finds: nothing, or two finds in the order of the text; what the turns and the tests of a loop find, by what one
-- does; what is found at an expression as a statement, at one whose value is used, at the test of an `if` or a loop, at the
-- absent test of a `for`, at a returned value, at a `break` or `continue`, at a declarator (in the scope before it), and at a
-- function's name and parameters.
pub record Walk (M : Type 0) : Type 0 where
  pub nothing : M
  pub both : M → M → M
  pub turns : M → M
  pub tests : M → M
  pub effect : Scope → Expr → M
  pub value : Scope → Expr → M
  pub test : Scope → Expr → M
  pub no_test : M
  pub returned : Scope → Place → Expr → M
  pub jump : Scope → Place → M
  pub declarator : Scope → TypeWord → Declarator → M
  pub head : Scope → Function → M

-- what is found in a statement that stands in a scope, and the scope behind it
pub record Walked (M : Type 0) : Type 0 where
  pub found : Scope → M
  pub behind : Scope → Scope

-- a statement that declares nothing in the scope that it stands in
abbrev pub staying : {M : Type 0} → (Scope → M) → Walked M
staying f = record { found = f; behind = λ s. s }

abbrev pub in_turn : {M : Type 0} → Walk M → List (Walked M) → Scope → M
in_turn w [] s = w.nothing
in_turn w (x ∷ xs) s = w.both (x.found s) (in_turn w xs (x.behind s))

abbrev pub declarators : {M : Type 0} → Walk M → TypeWord → List Declarator → Scope → M
declarators w word [] s = w.nothing
declarators w word (d ∷ ds) s = w.both (w.declarator s word d) (declarators w word ds (declare word d s))

abbrev pub found_start : {M : Type 0} → Walk M → Start → Scope → M
found_start w start.Nothing s = w.nothing
found_start w (start.Expr x) s = w.value s x
found_start w (start.Declare d) s = declarators w d.word d.declarators s

abbrev pub behind_start : Start → Scope → Scope
behind_start start.Nothing s = s
behind_start (start.Expr x) s = s
behind_start (start.Declare d) s = declare_all d.word d.declarators s

abbrev pub found_test : {M : Type 0} → Walk M → Option Expr → Scope → M
found_test w None s = w.no_test
found_test w (Some x) s = w.test s x

abbrev pub found_value : {M : Type 0} → Walk M → Option Expr → Scope → M
found_value w None s = w.nothing
found_value w (Some x) s = w.value s x

abbrev pub found_returned : {M : Type 0} → Walk M → Place → Option Expr → Scope → M
found_returned w p None s = w.nothing
found_returned w p (Some x) s = w.returned s p x

abbrev pub found_else : {M : Type 0} → Walk M → Option (Walked M) → Scope → M
found_else w None s = w.nothing
found_else w (Some x) s = x.found s

-- what is found behind the start of a `for`
abbrev pub found_turns : {M : Type 0} → Walk M → Option Expr → Option Expr → Walked M → Scope → M
found_turns w t e x s = w.both (w.tests (found_test w t s)) (w.both (w.turns (found_value w e s)) (w.turns (x.found (loop_in s))))

abbrev pub walk_step : {M : Type 0} → Walk M → Stmt-F (Walked M) → Walked M
walk_step w (Stmt-F.Empty p) = staying (λ s. w.nothing)
walk_step w (Stmt-F.Expr p x) = staying (λ s. w.effect s x)
walk_step w (Stmt-F.Declare d) = record { found = declarators w d.word d.declarators; behind = declare_all d.word d.declarators }
walk_step w (Stmt-F.Block p xs) = staying (λ s. in_turn w xs (enter s))
walk_step w (Stmt-F.Label p n x) = staying x.found
walk_step w (Stmt-F.If p t a b) = staying (λ s. w.both (w.test s t) (w.both (a.found s) (found_else w b s)))
walk_step w (Stmt-F.While p t x) = staying (λ s. w.both (w.tests (w.test s t)) (w.turns (x.found (loop_in s))))
walk_step w (Stmt-F.DoWhile p x t) = staying (λ s. w.turns (w.both (x.found (loop_in s)) (w.test s t)))
walk_step w (Stmt-F.For p st t e x) = staying (λ s. w.both (found_start w st (enter s)) (found_turns w t e x (behind_start st (enter s))))
walk_step w (Stmt-F.Return p x) = staying (λ s. found_returned w p x s)
walk_step w (Stmt-F.Break p) = staying (λ s. w.jump s p)
walk_step w (Stmt-F.Continue p) = staying (λ s. w.jump s p)

abbrev pub walk : {M : Type 0} → Walk M → Stmt → Walked M
walk w = fold-Stmt _ (walk_step w)

abbrev pub param_entry : Param → Entry
param_entry p = variable_entry p.name p.word None false

abbrev pub param_entries : List Param → List Entry
param_entries [] = []
param_entries (p ∷ ps) = param_entry p ∷ param_entries ps

-- a function's outermost scope, inside the top of the program: its parameters, and then what its outermost block declares
abbrev pub function_scope : List Entry → Function → Scope
function_scope top f = record { entries = top ++ param_entries f.params; start = length top; top = false; in_loop = false; function = f.word }

abbrev pub walk_body : {M : Type 0} → Walk M → List Entry → Function → M
walk_body w top f = in_turn w (map (walk w) f.body) (function_scope top f)

abbrev pub declare_function : Function → Scope → Scope
declare_function f s = record s { entries = s.entries ++ record { name = f.name; variable = None } ∷ [] }

-- what is found at an item of a program, and what it declares there
abbrev pub walk_item : {M : Type 0} → Walk M → Item → Scope → M
walk_item w (item.Function f) s = w.both (w.head s f) (walk_body w s.entries f)
walk_item w (item.Prototype p word n) s = w.nothing
walk_item w (item.Shared d) s = declarators w d.word d.declarators s

abbrev pub behind_item : Item → Scope → Scope
behind_item (item.Function f) s = declare_function f s
behind_item (item.Prototype p w n) s = s
behind_item (item.Shared d) s = declare_all d.word d.declarators s

abbrev pub walk_items : {M : Type 0} → Walk M → List Item → Scope → M
walk_items w [] s = w.nothing
walk_items w (x ∷ xs) s = w.both (walk_item w x s) (walk_items w xs (behind_item x s))

abbrev pub top_scope : Scope
top_scope = record { entries = []; start = 0; top = true; in_loop = false; function = type.Int }

abbrev pub walk_program : {M : Type 0} → Walk M → Program → M
walk_program w program = walk_items w program.items top_scope
