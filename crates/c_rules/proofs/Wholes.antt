-- An expression that is judged is still the same.
use Rattle.std.proofs.Common.{◌≡◌, ◌∙◌, List, [], ◌∷◌, map, refl, ap, subst}
use Rattle.c_tree.specs.declared.expr.Expr.{Expr, Expr-F, map-Expr, fold-roll-Expr, ind-Expr, roll-Expr}
use Rattle.c_rules.specs.declared.names.Meaning.{Meaning}
use Rattle.c_rules.specs.Names.{Name}
use Rattle.c_rules.specs.Types.{Judged, judged, judged_step, wholes}

abbrev IsKept : (Name → Meaning) → Expr → Type 0
IsKept means x = (judged means x).whole ≡ x

abbrev Kept : (Name → Meaning) → Type 0
Kept means = (x : Expr) × IsKept means x

abbrev kept : (means : Name → Meaning) → Kept means → Expr
kept means y = y.0

list_kept : (means : Name → Meaning) (ys : List (Kept means)) → map (λ (x : Judged). x.whole) (map (judged means) (map (kept means) ys)) ≡ map (kept means) ys
list_kept means [] = refl
list_kept means (y ∷ ys) = ap (λ (x : Expr). x ∷ map (λ (j : Judged). j.whole) (map (judged means) (map (kept means) ys))) y.1 ∙ ap (λ (xs : List Expr). y.0 ∷ xs) (list_kept means ys)

layer_kept : (means : Name → Meaning) (y : Expr-F (Kept means))
    → map-Expr Judged Expr (λ (x : Judged). x.whole) (map-Expr Expr Judged (judged means) (map-Expr (Kept means) Expr (kept means) y)) ≡ map-Expr (Kept means) Expr (kept means) y
layer_kept means (Expr-F.Name p n) = refl
layer_kept means (Expr-F.Number p v u) = refl
layer_kept means (Expr-F.Text p) = refl
layer_kept means (Expr-F.Bracket p x) = ap (λ (a : Expr). Expr-F.Bracket p a) x.1
layer_kept means (Expr-F.Index p n x) = ap (λ (a : Expr). Expr-F.Index p n a) x.1
layer_kept means (Expr-F.Call p n xs) = ap (λ (ys : List Expr). Expr-F.Call p n ys) (list_kept means xs)
layer_kept means (Expr-F.Cast p w x) = ap (λ (a : Expr). Expr-F.Cast p w a) x.1
layer_kept means (Expr-F.Unary p o x) = ap (λ (a : Expr). Expr-F.Unary p o a) x.1
layer_kept means (Expr-F.StepBefore p o x) = ap (λ (a : Expr). Expr-F.StepBefore p o a) x.1
layer_kept means (Expr-F.StepAfter p o x) = ap (λ (a : Expr). Expr-F.StepAfter p o a) x.1
layer_kept means (Expr-F.Binary p o x y) = ap (λ (a : Expr). Expr-F.Binary p o a ((judged means y.0).whole)) x.1 ∙ ap (λ (a : Expr). Expr-F.Binary p o x.0 a) y.1
layer_kept means (Expr-F.Choose p x y z) =
    ap (λ (a : Expr). Expr-F.Choose p a ((judged means y.0).whole) ((judged means z.0).whole)) x.1
    ∙ (ap (λ (a : Expr). Expr-F.Choose p x.0 a ((judged means z.0).whole)) y.1 ∙ ap (λ (a : Expr). Expr-F.Choose p x.0 y.0 a) z.1)
layer_kept means (Expr-F.Assign p o x y) = ap (λ (a : Expr). Expr-F.Assign p o a ((judged means y.0).whole)) x.1 ∙ ap (λ (a : Expr). Expr-F.Assign p o x.0 a) y.1
layer_kept means (Expr-F.Comma p x y) = ap (λ (a : Expr). Expr-F.Comma p a ((judged means y.0).whole)) x.1 ∙ ap (λ (a : Expr). Expr-F.Comma p x.0 a) y.1
layer_kept means (Expr-F.Address p x) = ap (λ (a : Expr). Expr-F.Address p a) x.1

-- what is judged is the expression itself
pub whole_is : (means : Name → Meaning) (x : Expr) → (judged means x).whole ≡ x
whole_is means = ind-Expr (IsKept means) (λ x y e.
    ap (λ (j : Judged). j.whole) (fold-roll-Expr Judged (judged_step means) x)
    ∙ ap roll-Expr (subst (λ (d : Expr-F Expr). map-Expr Judged Expr (λ (j : Judged). j.whole) (map-Expr Expr Judged (judged means) d) ≡ d) e (layer_kept means y)))

pub wholes_are : (means : Name → Meaning) (xs : List Expr) → wholes (map (judged means) xs) ≡ xs
wholes_are means [] = refl
wholes_are means (x ∷ xs) = ap (λ (y : Expr). y ∷ wholes (map (judged means) xs)) (whole_is means x) ∙ ap (λ (ys : List Expr). x ∷ ys) (wholes_are means xs)
