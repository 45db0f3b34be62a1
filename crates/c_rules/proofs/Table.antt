-- What is found in each form from what is found in its parts, as equations.
use Rattle.std.proofs.Common.{◌≡◌, Bool, sym, ap, ◌∙◌}
use Rattle.dg_base.specs.declared.Place.{Place}
use Rattle.c_tree.specs.declared.expr.Expr.{Expr, fold-roll-Expr}
use Rattle.c_tree.specs.declared.expr.Expr.TheVariants as e
use Rattle.c_tree.specs.declared.expr.Expr.TheOpen.{Expr-F}
use Rattle.c_rules.specs.Names.{Name, or_else}
use Rattle.c_rules.specs.Scopes.{First, unless, unknown_step, unknown_in}

pub unknown_index : (known : Name → Bool) (p : Place) (n : Name) (x : Expr) → unknown_in known (e.Index p n x) ≡ or_else (unless (known n) p) (unknown_in known x)
unknown_index known p n x = ap (unknown_in known) (sym (e.rolls-Index p n x)) ∙ fold-roll-Expr First (unknown_step known) (Expr-F.Index p n x)

-- what is found at an index, by its parts
pub found_index : (known : Name → Bool) (p : Place) (n m : Name) (x y z : Expr) (u v w : First)
    → w ≡ or_else u v → u ≡ unless (known m) p → m ≡ n → v ≡ unknown_in known y → y ≡ x → z ≡ e.Index p n x → w ≡ unknown_in known z
found_index known p n m x y z u v w a b c d f g =
    a ∙ (ap (λ (i : First). or_else i v) (b ∙ ap (λ (i : Name). unless (known i) p) c)
    ∙ (ap (or_else (unless (known n) p)) (d ∙ ap (unknown_in known) f)
    ∙ (sym (unknown_index known p n x) ∙ ap (unknown_in known) (sym g))))
