-- Where the names among the tokens of a program are plain, so are those of its functions and its shared variables.
use Rattle.std.proofs.Common.{◌≡◌, ℕ, zero, suc, ◌+◌, true, List, [], ◌∷◌, ◌++◌, map, Option, Some, None, codes, refl, lit<}
use Rattle.std.specs.Prelude.{decimal}
use Rattle.std.specs.List.{AllByRecursion}
use Rattle.token_list.specs.declared.Token.{Token}
use Rattle.c_tree.specs.declared.expr.Expr.{Expr}
use Rattle.c_tree.specs.declared.stmt.Declarator.{Declarator}
use Rattle.c_tree.specs.declared.stmt.Decl.{Decl}
use Rattle.c_tree.specs.declared.program.Function.{Function}
use Rattle.c_tree.specs.declared.program.Item.{Item}
use Rattle.c_tree.specs.declared.program.Item.TheVariants as item
use Rattle.c_stmt.specs.Declarations.{ReadsDeclarator, declarator, ReadsDeclarators, last_declarator, next_declarator, ReadsDeclaration, declaration}
use Rattle.c_stmt.specs.Programs.{ReadsPlain, function, prototype, shared, ReadsItem, plain, static, ReadsItems, no_item, an_item}
use Rattle.c_rules.specs.Names.{Name, functions_of}
use Rattle.c_rules.specs.Walk.{cells_of_size}
use Rattle.c_check.specs.declared.checked.CellInfo.{CellInfo}
use Rattle.c_check.specs.Checked.{indexed, array_cells, variable_cells, first_values, cells_of_declarators, cells_of_items}
use Rattle.c_check.specs.PlainNames.{lacks, cell_names}
use Rattle.c_check.proofs.PlainNames.{all_append, all_front, all_back, lacks_append}
use Rattle.c_program.proofs.Lacking.{digits_lack}
use Rattle.c_program.proofs.Plain.{IsPlain, IsPlainToken, ArePlain}

abbrev AreNamedPlain : List Declarator → Type 0
AreNamedPlain ds = AllByRecursion (λ (d : Declarator). IsPlain d.name) ds

-- what an item names is plain
abbrev IsPlainItem : Item → Type 0
IsPlainItem (item.Function f) = IsPlain f.name
IsPlainItem (item.Prototype p k n) = Unit {0}
IsPlainItem (item.Shared d) = AreNamedPlain d.declarators

declarator_plain : {n : ℕ} {a : List Token} {d : Declarator} → ReadsDeclarator n a d → ArePlain a → IsPlain d.name
declarator_plain (declarator name size first) h = h.0

declarators_plain : {n : ℕ} {a : List Token} {ds : List Declarator} → ReadsDeclarators n a ds → ArePlain a → AreNamedPlain ds
declarators_plain (last_declarator r) h = (declarator_plain r h, tt)
declarators_plain (next_declarator q {a = a} r rest) h = (declarator_plain r (all_front IsPlainToken a _ h), declarators_plain rest (all_back IsPlainToken a _ h).1)

declaration_plain : {n : ℕ} {a : List Token} {d : Decl} → ReadsDeclaration n a d → ArePlain a → AreNamedPlain d.declarators
declaration_plain (declaration q {a = a} {b = b} is reads) h = declarators_plain reads (all_front IsPlainToken b _ (all_back IsPlainToken a _ h))

plain_item_plain : {n : ℕ} {a : List Token} {x : Item} → ReadsPlain n a x → ArePlain a → IsPlainItem x
plain_item_plain (function q r t u {a = a} is name parameters body) h = (all_back IsPlainToken a _ h).0
plain_item_plain (prototype q r t is name skipped) h = tt
plain_item_plain (shared reads) h = declaration_plain reads h

item_plain : {n : ℕ} {a : List Token} {x : Item} → ReadsItem n a x → ArePlain a → IsPlainItem x
item_plain (plain r) h = plain_item_plain r h
item_plain (static p r) h = plain_item_plain r h.1

pub items_plain : {n : ℕ} {a : List Token} {xs : List Item} → ReadsItems n a xs → ArePlain a → AllByRecursion IsPlainItem xs
items_plain no_item h = tt
items_plain (an_item {a = a} r rest) h = (item_plain r (all_front IsPlainToken a _ h), items_plain rest (all_back IsPlainToken a _ h))

-- what holds of plain texts holds of the functions' names
pub functions_plain : (P : List ℕ → Type 0) → ((name : List ℕ) → IsPlain name → P name) → (xs : List Item) → AllByRecursion IsPlainItem xs → AllByRecursion P (map (λ (f : Function). f.name) (functions_of xs))
functions_plain P give [] h = tt
functions_plain P give (item.Function f ∷ xs) h = (give f.name h.0, functions_plain P give xs h.1)
functions_plain P give (item.Prototype p k n ∷ xs) h = functions_plain P give xs h.1
functions_plain P give (item.Shared d ∷ xs) h = functions_plain P give xs h.1

-- cells whose names hold no line feed
abbrev HaveNoFeed : List CellInfo → Type 0
HaveNoFeed cells = AllByRecursion (λ (cell : CellInfo). lacks 10 cell.name ≡ true) cells

indexed_plain : (n : Name) (i : ℕ) → lacks 10 n ≡ true → lacks 10 (indexed n i) ≡ true
indexed_plain n i h =
    lacks_append 10 n (codes "[" ++ (decimal i ++ codes "]")) h (lacks_append 10 (codes "[") (decimal i ++ codes "]") refl (lacks_append 10 (decimal i) (codes "]") (digits_lack 10 i (lit< tt)) refl))

array_plain : (m : ℕ) (n : Name) (i : ℕ) (xs : List Expr) → lacks 10 n ≡ true → HaveNoFeed (array_cells m n i xs)
array_plain zero n i xs h = tt
array_plain (suc m) n i xs h = (indexed_plain n i h, array_plain m n (i + 1) xs h)

variable_plain : (n : Name) (size : Option ℕ) (xs : List Expr) → lacks 10 n ≡ true → HaveNoFeed (variable_cells n size xs)
variable_plain n None xs h = (h, tt)
variable_plain n (Some m) xs h = array_plain m n 0 xs h

declared_plain : (ds : List Declarator) → AreNamedPlain ds → HaveNoFeed (cells_of_declarators ds)
declared_plain [] h = tt
declared_plain (d ∷ ds) h =
    all_append (λ (cell : CellInfo). lacks 10 cell.name ≡ true) (variable_cells d.name (cells_of_size d.size) (first_values d.initialiser)) (cells_of_declarators ds)
    (variable_plain d.name (cells_of_size d.size) (first_values d.initialiser) h.0.no_feed) (declared_plain ds h.1)

cells_plain : (xs : List Item) → AllByRecursion IsPlainItem xs → HaveNoFeed (cells_of_items xs)
cells_plain [] h = tt
cells_plain (item.Function f ∷ xs) h = cells_plain xs h.1
cells_plain (item.Prototype p k n ∷ xs) h = cells_plain xs h.1
cells_plain (item.Shared d ∷ xs) h =
    all_append (λ (cell : CellInfo). lacks 10 cell.name ≡ true) (cells_of_declarators d.declarators) (cells_of_items xs) (declared_plain d.declarators h.0) (cells_plain xs h.1)

names_of_cells : (cells : List CellInfo) → HaveNoFeed cells → AllByRecursion (λ name. lacks 10 name ≡ true) (cell_names cells)
names_of_cells [] h = tt
names_of_cells (cell ∷ cells) h = (h.0, names_of_cells cells h.1)

pub cell_names_plain : (xs : List Item) → AllByRecursion IsPlainItem xs → AllByRecursion (λ name. lacks 10 name ≡ true) (cell_names (cells_of_items xs))
cell_names_plain xs h = names_of_cells (cells_of_items xs) (cells_plain xs h)
