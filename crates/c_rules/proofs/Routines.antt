-- A walk that carries what each part names tells what the whole names.
use Rattle.std.proofs.Common.{◌≡◌, ◌∙◌, ap, sym, subst, refl, None}
use Rattle.c_tree.specs.declared.expr.Expr.{Expr, map-Expr, fold-Expr}
use Rattle.c_tree.specs.declared.expr.Expr.TheOpen.{Expr-F}
use Rattle.c_tree.specs.declared.expr.Expr.TheFolds.{fold-roll-Expr, ind-Expr}
use Rattle.c_rules.specs.Routines.{Naming, naming_step, naming}

module _ {A : Type 0} (step : Expr-F A → A) (names : A → Naming) where
  abbrev Same : Expr → Type 0
  Same x = names (fold-Expr A step x) ≡ naming x

  abbrev kids : Expr-F ((x : Expr) × Same x) → Expr-F Expr
  kids y = map-Expr ((x : Expr) × Same x) Expr (λ e. e.0) y

  same_layer : (y : Expr-F ((x : Expr) × Same x))
      → naming_step (map-Expr A Naming names (map-Expr Expr A (fold-Expr A step) (kids y))) ≡ naming_step (map-Expr Expr Naming naming (kids y))
  same_layer (Expr-F.Bracket p x) = ap (λ (n : Naming). record { plain = n.plain; routine = None }) x.1
  same_layer (Expr-F.Address p x) = ap (λ (n : Naming). record { plain = None; routine = n.plain }) x.1
  same_layer _ = refl

  pub naming_kept : ((l : Expr-F A) → names (step l) ≡ naming_step (map-Expr A Naming names l)) → (x : Expr) → Same x
  naming_kept h = ind-Expr Same (λ x y is.
      ap names (fold-roll-Expr A step x)
      ∙ (h (map-Expr Expr A (fold-Expr A step) x)
      ∙ (subst (λ (z : Expr-F Expr). naming_step (map-Expr A Naming names (map-Expr Expr A (fold-Expr A step) z)) ≡ naming_step (map-Expr Expr Naming naming z)) is (same_layer y)
      ∙ sym (fold-roll-Expr Naming naming_step x))))
