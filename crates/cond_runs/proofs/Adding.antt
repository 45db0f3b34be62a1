-- The cells and functions of a lowered program.
use Rattle.std.proofs.Common.{◌≡◌, ◌∙◌, ℕ, ◌+◌, List, [], ◌∷◌, ◌++◌, map, length, Bool, true, false, refl, ap, sym, append_assoc, add-zero, arith}
use Rattle.std.specs.Prelude.{cond}
use Rattle.dg_base.specs.declared.Place.{Place}
use Rattle.c_tree.specs.declared.expr.TypeWord.TheVariants as type
use Rattle.c_tree.specs.declared.stmt.Declarator.{Declarator}
use Rattle.c_tree.specs.declared.stmt.Decl.{Decl}
use Rattle.c_tree.specs.declared.program.Function.{Function}
use Rattle.c_tree.specs.declared.program.Item.{Item}
use Rattle.c_tree.specs.declared.program.Item.TheVariants as item
use Rattle.c_rules.specs.Names.{Name, functions_of}
use Rattle.c_check.specs.Checked.{cells_of_items, cells_of_declarators, cell_info}
use Rattle.c_check.specs.Limits.{cells_of_all}
use Rattle.c_check.specs.declared.checked.CellInfo.{CellInfo}
use Rattle.run_model.specs.declared.state.Shared.{Shared}
use Rattle.run_model.specs.Programs.{shared_from, shared_declared}
use Rattle.cond_lower.specs.declared.fault.Wakeups.{Wakeups}
use Rattle.cond_lower.specs.declared.fault.Wakeups.TheVariants.{Any, Signalled}
use Rattle.cond_lower.specs.Calls.{is_cond}
use Rattle.cond_lower.specs.Lowering.{enter_item, take_item, signal_item, broadcast_item, init_item, sections_on, sections_of, sections_in, all_sections, added, counters, lower_shared, lower_function, lower_items, lower_decl, waiting, tokens}
use Rattle.cond_runs.specs.Rows.{cond_variables, conds_declared, decl_shared, decl_cells, cond_shared_from, cond_cells, decl_infos, cond_infos}
use Rattle.cond_runs.specs.Cells.{SharedAlike, CellsAlike, FunctionsAlike}

-- ---- what is added declares no cell

section_shares : (p : Place) (c : Name) (rest : List Item) (done : List Shared) (n : ℕ) → shared_from done n (sections_on p c ++ rest) ≡ shared_from done n rest
unfolding sections_on enter_item take_item signal_item broadcast_item init_item
section_shares p c rest done n = refl

sections_share : (ds : List Declarator) (rest : List Item) (done : List Shared) (n : ℕ) → shared_from done n (sections_of ds ++ rest) ≡ shared_from done n rest
sections_share [] rest done n = refl
sections_share (d ∷ ds) rest done n =
    ap (λ (xs : List Item). shared_from done n xs) (append_assoc (sections_on d.place d.name) (sections_of ds) rest)
    ∙ section_shares d.place d.name (sections_of ds ++ rest) done n ∙ sections_share ds rest done n

section_cells : (p : Place) (c : Name) (rest : List Item) → cells_of_items (sections_on p c ++ rest) ≡ cells_of_items rest
unfolding sections_on enter_item take_item signal_item broadcast_item init_item
section_cells p c rest = refl

sections_cells : (ds : List Declarator) (rest : List Item) → cells_of_items (sections_of ds ++ rest) ≡ cells_of_items rest
sections_cells [] rest = refl
sections_cells (d ∷ ds) rest =
    ap (λ (xs : List Item). cells_of_items xs) (append_assoc (sections_on d.place d.name) (sections_of ds) rest)
    ∙ section_cells d.place d.name (sections_of ds ++ rest) ∙ sections_cells ds rest

item_shares : (x : Item) (rest : List Item) (done : List Shared) (n : ℕ) → shared_from done n (sections_in x ++ rest) ≡ shared_from done n rest
item_shares (item.Function f) rest done n = refl
item_shares (item.Prototype p w m) rest done n = refl
item_shares (item.Shared d) rest done n =
    elim (is_cond d.word) as (λ b. shared_from done n (cond b (sections_of d.declarators) [] ++ rest) ≡ shared_from done n rest) [ true ↦ sections_share d.declarators rest done n | false ↦ refl ]

item_cells : (x : Item) (rest : List Item) → cells_of_items (sections_in x ++ rest) ≡ cells_of_items rest
item_cells (item.Function f) rest = refl
item_cells (item.Prototype p w m) rest = refl
item_cells (item.Shared d) rest =
    elim (is_cond d.word) as (λ b. cells_of_items (cond b (sections_of d.declarators) [] ++ rest) ≡ cells_of_items rest) [ true ↦ sections_cells d.declarators rest | false ↦ refl ]

all_share : (xs : List Item) (done : List Shared) (n : ℕ) → shared_from done n (all_sections xs) ≡ done
all_share [] done n = refl
all_share (x ∷ xs) done n = item_shares x (all_sections xs) done n ∙ all_share xs done n

all_cells : (xs : List Item) → cells_of_items (all_sections xs) ≡ []
all_cells [] = refl
all_cells (x ∷ xs) = item_cells x (all_sections xs) ∙ all_cells xs

added_share : (w : Wakeups) (xs : List Item) (done : List Shared) (n : ℕ) → shared_from done n (added w xs) ≡ done
added_share Any xs done n = refl
added_share Signalled xs done n = all_share xs done n

added_cells : (w : Wakeups) (xs : List Item) → cells_of_items (added w xs) ≡ []
added_cells Any xs = refl
added_cells Signalled xs = all_cells xs

-- ---- the counters are the cells of condition variables

same_conds : (done : List Shared) (n : ℕ) (ds : List Declarator) → shared_declared done n type.Uint (counters ds) ≡ conds_declared done n ds
same_conds done n [] = refl
same_conds done n (d ∷ ds) =
    let first : Shared = record { name = waiting d.name; unsigned = true; first = n; count = 1 } in
    let second : Shared = record { name = tokens d.name; unsigned = true; first = n + 1; count = 1 } in
    let two : n + 1 + 1 ≡ n + 2 = omega arith in
    ap (λ (vs : List Shared). shared_declared vs (n + 1 + 1) type.Uint (counters ds)) (append_assoc done (first ∷ []) (second ∷ []))
    ∙ ap (λ (m : ℕ). shared_declared (done ++ cond_variables n d) m type.Uint (counters ds)) two
    ∙ same_conds (done ++ cond_variables n d) (n + 2) ds

same_count : (ds : List Declarator) → cells_of_all (counters ds) ≡ length ds + length ds
same_count [] = refl
same_count (d ∷ ds) = omega (arith, same_count ds)

same_cells : (ds : List Declarator) → cells_of_declarators (counters ds) ≡ cond_cells ds
same_cells [] = refl
same_cells (d ∷ ds) = ap (λ (xs : List CellInfo). cell_info (waiting d.name) 0 ∷ cell_info (tokens d.name) 0 ∷ xs) (same_cells ds)

-- ---- a declaration, and then the rest

decl_shares : (w : Wakeups) (b : Bool) (d : Decl) (xs rest : List Item) → ((done : List Shared) (n : ℕ) → shared_from done n rest ≡ cond_shared_from w done n xs)
    → (done : List Shared) (n : ℕ) → shared_from done n (lower_shared w b d ++ rest) ≡ cond_shared_from w (decl_shared w b d done n) (n + decl_cells w b d) xs
decl_shares Any false d xs rest ih done n = ih _ _
decl_shares Signalled false d xs rest ih done n = ih _ _
decl_shares Any true d xs rest ih done n = ih done n ∙ ap (λ (m : ℕ). cond_shared_from Any done m xs) (sym (add-zero n))
decl_shares Signalled true d xs rest ih done n =
    ap (λ (vs : List Shared). shared_from vs (n + cells_of_all (counters d.declarators)) rest) (same_conds done n d.declarators)
    ∙ ap (λ (m : ℕ). shared_from (conds_declared done n d.declarators) (n + m) rest) (same_count d.declarators)
    ∙ ih (conds_declared done n d.declarators) (n + (length d.declarators + length d.declarators))

decl_has_cells : (w : Wakeups) (b : Bool) (d : Decl) (xs rest : List Item) → cells_of_items rest ≡ cond_infos w xs
    → cells_of_items (lower_shared w b d ++ rest) ≡ decl_infos w b d ++ cond_infos w xs
decl_has_cells Any false d xs rest ih = ap (λ (r : List CellInfo). cells_of_declarators (lower_decl Any d).declarators ++ r) ih
decl_has_cells Signalled false d xs rest ih = ap (λ (r : List CellInfo). cells_of_declarators (lower_decl Signalled d).declarators ++ r) ih
decl_has_cells Any true d xs rest ih = ih
decl_has_cells Signalled true d xs rest ih =
    ap (λ (cs : List CellInfo). cs ++ cells_of_items rest) (same_cells d.declarators) ∙ ap (λ (r : List CellInfo). cond_cells d.declarators ++ r) ih

decl_has_no_function : (w : Wakeups) (b : Bool) (d : Decl) (rest : List Item) → functions_of (lower_shared w b d ++ rest) ≡ functions_of rest
decl_has_no_function Any false d rest = refl
decl_has_no_function Signalled false d rest = refl
decl_has_no_function Any true d rest = refl
decl_has_no_function Signalled true d rest = refl

-- ---- whole programs

shared_are : (w : Wakeups) (xs tail : List Item) → ((done : List Shared) (n : ℕ) → shared_from done n tail ≡ done)
    → (done : List Shared) (n : ℕ) → shared_from done n (lower_items w xs ++ tail) ≡ cond_shared_from w done n xs
shared_are w [] tail none done n = none done n
shared_are w (item.Function f ∷ xs) tail none done n = shared_are w xs tail none done n
shared_are w (item.Prototype p t m ∷ xs) tail none done n = shared_are w xs tail none done n
shared_are w (item.Shared d ∷ xs) tail none done n =
    ap (λ (ys : List Item). shared_from done n ys) (append_assoc (lower_shared w (is_cond d.word) d) (lower_items w xs) tail)
    ∙ decl_shares w (is_cond d.word) d xs (lower_items w xs ++ tail) (shared_are w xs tail none) done n

cells_are : (w : Wakeups) (xs tail : List Item) → cells_of_items tail ≡ [] → cells_of_items (lower_items w xs ++ tail) ≡ cond_infos w xs
cells_are w [] tail none = none
cells_are w (item.Function f ∷ xs) tail none = cells_are w xs tail none
cells_are w (item.Prototype p t m ∷ xs) tail none = cells_are w xs tail none
cells_are w (item.Shared d ∷ xs) tail none =
    ap (λ (ys : List Item). cells_of_items ys) (append_assoc (lower_shared w (is_cond d.word) d) (lower_items w xs) tail)
    ∙ decl_has_cells w (is_cond d.word) d xs (lower_items w xs ++ tail) (cells_are w xs tail none)

functions_are : (w : Wakeups) (xs tail : List Item) → functions_of (lower_items w xs ++ tail) ≡ map (lower_function w) (functions_of xs) ++ functions_of tail
functions_are w [] tail = refl
functions_are w (item.Function f ∷ xs) tail = ap (λ (fs : List Function). lower_function w f ∷ fs) (functions_are w xs tail)
functions_are w (item.Prototype p t m ∷ xs) tail = functions_are w xs tail
functions_are w (item.Shared d ∷ xs) tail =
    ap (λ (ys : List Item). functions_of ys) (append_assoc (lower_shared w (is_cond d.word) d) (lower_items w xs) tail)
    ∙ decl_has_no_function w (is_cond d.word) d (lower_items w xs ++ tail) ∙ functions_are w xs tail

pub shared_alike : SharedAlike
shared_alike w program = shared_are w program.items (added w program.items) (added_share w program.items) [] 0

pub cells_alike : CellsAlike
cells_alike w program = cells_are w program.items (added w program.items) (added_cells w program.items)

pub functions_alike : FunctionsAlike
functions_alike w program = functions_are w program.items (added w program.items)
