-- What is no name is no label.
use Rattle.std.proofs.Common.{◌≡◌, ℕ, List, Option, None, refl, sym, ap, ◌∙◌}
use Rattle.dg_base.specs.declared.Place.{Place}
use Rattle.c_tree.specs.declared.expr.Expr.{Expr, fold_out-Expr, map-Expr, out-Expr, roll-Expr, roll-out-Expr}
use Rattle.c_tree.specs.declared.expr.Expr.TheVariants as e
use Rattle.c_tree.specs.declared.expr.Expr.TheOpen.{Expr-F}
use Rattle.c_stmt.specs.Machine.{Label, label_step, label_of}
use Rattle.c_stmt.proofs.statements.label_of.Goals as goal

layer_unless : (l : Expr-F Expr) → ((p : Place) (c : List ℕ) → l ≡ Expr-F.Name p c → ⊥) → label_step (map-Expr Expr (Option Label) label_of l) ≡ None
layer_unless (Expr-F.Name p c) never = absurd (never p c refl)
layer_unless _ never = refl

label_unless : (x : Expr) → ((p : Place) (c : List ℕ) → x ≡ e.Name p c → ⊥) → label_of x ≡ None
unfolding label_of
label_unless x never =
    fold_out-Expr (Option Label) label_step x
    ∙ layer_unless (out-Expr x) (λ p c is. never p c (sym (roll-out-Expr x) ∙ (ap (λ l. roll-Expr l) is ∙ e.rolls-Name p c)))

pub returns-in_default : goal.returns-in_default
returns-in_default c = record { some = tt; none = label_unless c.args.expr (λ p n is. c.in_default.not-Name p n (cc)) }
