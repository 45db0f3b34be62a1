-- An expression whose nodes are listed is still the same.
use Rattle.std.proofs.Common.{◌≡◌, ◌∙◌, List, [], ◌∷◌, map, refl, ap, subst}
use Rattle.c_tree.specs.declared.expr.Expr.{Expr, Expr-F, map-Expr, fold-roll-Expr, ind-Expr, roll-Expr}
use Rattle.cond_lower.specs.Nodes.{Noted, noted, noted_step, whole_parts}

abbrev IsKept : Expr → Type 0
IsKept x = (noted x).whole ≡ x

abbrev Kept : Type 0
Kept = (x : Expr) × IsKept x

abbrev kept : Kept → Expr
kept y = y.0

list_kept : (ys : List Kept) → map (λ (x : Noted). x.whole) (map noted (map kept ys)) ≡ map kept ys
list_kept [] = refl
list_kept (y ∷ ys) = ap (λ (x : Expr). x ∷ map (λ (j : Noted). j.whole) (map noted (map kept ys))) y.1 ∙ ap (λ (xs : List Expr). y.0 ∷ xs) (list_kept ys)

layer_kept : (y : Expr-F Kept) → map-Expr Noted Expr (λ (x : Noted). x.whole) (map-Expr Expr Noted noted (map-Expr Kept Expr kept y)) ≡ map-Expr Kept Expr kept y
layer_kept (Expr-F.Name p n) = refl
layer_kept (Expr-F.Number p v u) = refl
layer_kept (Expr-F.Text p) = refl
layer_kept (Expr-F.Bracket p x) = ap (λ (a : Expr). Expr-F.Bracket p a) x.1
layer_kept (Expr-F.Index p n x) = ap (λ (a : Expr). Expr-F.Index p n a) x.1
layer_kept (Expr-F.Call p n xs) = ap (λ (ys : List Expr). Expr-F.Call p n ys) (list_kept xs)
layer_kept (Expr-F.Cast p w x) = ap (λ (a : Expr). Expr-F.Cast p w a) x.1
layer_kept (Expr-F.Unary p o x) = ap (λ (a : Expr). Expr-F.Unary p o a) x.1
layer_kept (Expr-F.StepBefore p o x) = ap (λ (a : Expr). Expr-F.StepBefore p o a) x.1
layer_kept (Expr-F.StepAfter p o x) = ap (λ (a : Expr). Expr-F.StepAfter p o a) x.1
layer_kept (Expr-F.Binary p o x y) = ap (λ (a : Expr). Expr-F.Binary p o a ((noted y.0).whole)) x.1 ∙ ap (λ (a : Expr). Expr-F.Binary p o x.0 a) y.1
layer_kept (Expr-F.Choose p x y z) =
    ap (λ (a : Expr). Expr-F.Choose p a ((noted y.0).whole) ((noted z.0).whole)) x.1
    ∙ (ap (λ (a : Expr). Expr-F.Choose p x.0 a ((noted z.0).whole)) y.1 ∙ ap (λ (a : Expr). Expr-F.Choose p x.0 y.0 a) z.1)
layer_kept (Expr-F.Assign p o x y) = ap (λ (a : Expr). Expr-F.Assign p o a ((noted y.0).whole)) x.1 ∙ ap (λ (a : Expr). Expr-F.Assign p o x.0 a) y.1
layer_kept (Expr-F.Comma p x y) = ap (λ (a : Expr). Expr-F.Comma p a ((noted y.0).whole)) x.1 ∙ ap (λ (a : Expr). Expr-F.Comma p x.0 a) y.1
layer_kept (Expr-F.Address p x) = ap (λ (a : Expr). Expr-F.Address p a) x.1

-- what is noted is the expression itself
pub whole_is : (x : Expr) → (noted x).whole ≡ x
whole_is = ind-Expr IsKept (λ x y e.
    ap (λ (j : Noted). j.whole) (fold-roll-Expr Noted noted_step x)
    ∙ ap roll-Expr (subst (λ (d : Expr-F Expr). map-Expr Noted Expr (λ (j : Noted). j.whole) (map-Expr Expr Noted noted d) ≡ d) e (layer_kept y)))

pub wholes_are : (xs : List Expr) → whole_parts (map noted xs) ≡ xs
wholes_are [] = refl
wholes_are (x ∷ xs) = ap (λ (y : Expr). y ∷ whole_parts (map noted xs)) (whole_is x) ∙ ap (λ (ys : List Expr). x ∷ ys) (wholes_are xs)
