-- Cells that are told one after another.
use Rattle.std.proofs.Common.{◌≡◌, ◌∙◌, ◌≢◌, ◌<◌, ◌+◌, ◌-◌, ◌++◌, ℕ, zero, suc, List, [], ◌∷◌, refl, ap, sym, arith, append_assoc}
use Rattle.c_tree.specs.declared.expr.Expr.{Expr}
use Rattle.c_rules.specs.Names.{Name}
use Rattle.c_check.specs.declared.checked.CellInfo.{CellInfo}
use Rattle.c_check.specs.Checked.{value_at, cell_info, indexed, array_cells}

pub one_value : (x : Expr) (i : ℕ) → i ≢ 0 → value_at (x ∷ []) i ≡ 0
one_value x zero n = absurd (n refl)
one_value x (suc i) n = refl

pub no_value : (i : ℕ) → value_at [] i ≡ 0
no_value i = refl

pub next_cells : (a b : List CellInfo) (xs ys w : List CellInfo) → b ≡ a ++ xs → a ++ (xs ++ ys) ≡ w → b ++ ys ≡ w
next_cells a b xs ys w h k = ap (λ (l : List CellInfo). l ++ ys) h ∙ (append_assoc a xs ys ∙ k)

array_next : (m i j : ℕ) (n : Name) (xs : List Expr) → m ≡ suc j → array_cells m n i xs ≡ cell_info (indexed n i) (value_at xs i) ∷ array_cells j n (i + 1) xs
array_next m i j n xs e = ap (λ x. array_cells x n i xs) e

pub next_cell : (a b : List CellInfo) (m i : ℕ) (n : Name) (xs : List Expr) (w : List CellInfo) → i < m → b ≡ a ++ cell_info (indexed n i) (value_at xs i) ∷ []
    → a ++ array_cells (m - i) n i xs ≡ w → b ++ array_cells (m - (i + 1)) n (i + 1) xs ≡ w
next_cell a b m i n xs w l h k =
    next_cells a b (cell_info (indexed n i) (value_at xs i) ∷ []) (array_cells (m - (i + 1)) n (i + 1) xs) w h
    (ap (λ (c : List CellInfo). a ++ c) (sym (array_next (m - i) i (m - (i + 1)) n xs (omega arith))) ∙ k)

pub same_info : (n m : Name) (v w : ℕ) → n ≡ m → v ≡ w → cell_info n v ≡ cell_info m w
same_info n m v w h k = λ t. record { name = h t; initial = k t }
