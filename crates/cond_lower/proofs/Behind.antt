-- The condition variable that a call is on stays the same where the call's arguments are lowered.
use Rattle.std.proofs.Common.{◌≡◌, ◌∙◌, List, [], ◌∷◌, map, refl, ap, sym, Option, Some, None, false}
use Rattle.dg_base.specs.declared.Place.{Place}
use Rattle.c_tree.specs.declared.expr.Expr.{Expr, Expr-F, map-Expr, fold_out-Expr, fold-roll-Expr, out-Expr, out-roll-Expr}
use Rattle.c_tree.specs.declared.expr.Expr.TheVariants as e
use Rattle.c_rules.specs.Names.{Name}
use Rattle.c_rules.specs.Routines.{Naming, naming, naming_step}
use Rattle.c_rules.proofs.Routines.{naming_kept}
use Rattle.cond_lower.specs.declared.fault.Wakeups.{Wakeups}
use Rattle.cond_lower.specs.declared.fault.Wakeups.TheVariants.{Any, Signalled}
use Rattle.cond_lower.specs.declared.calls.CondCall.{CondCall}
use Rattle.cond_lower.specs.declared.calls.CondCall.TheVariants as call
use Rattle.cond_lower.specs.Calls.{cond_call_named}
use Rattle.cond_lower.specs.Nodes.{first_cond, cond_behind, cond_in, name_or_none}
use Rattle.cond_lower.specs.Lowering.{lower_expr, lower_step, lower_call, lowered_call, comma, call_of, nought, signal, broadcast, init, unlock, lock, woken, second}

-- ---- what an expression names

named_comma : (p : Place) (x y : Expr) → naming (comma p x y) ≡ record { plain = None; routine = None }
named_comma p x y = ap naming (sym (e.rolls-Comma p x y)) ∙ fold-roll-Expr Naming naming_step (Expr-F.Comma p x y)

named_call : (p : Place) (n : Name) (xs : List Expr) → naming (call_of p n xs) ≡ record { plain = None; routine = None }
named_call p n xs = ap naming (sym (e.rolls-Call p n xs)) ∙ fold-roll-Expr Naming naming_step (Expr-F.Call p n xs)

named_nought : (p : Place) → naming (nought p) ≡ record { plain = None; routine = None }
named_nought p = ap naming (sym (e.rolls-Number p 0 false)) ∙ fold-roll-Expr Naming naming_step (Expr-F.Number p 0 false)

named_cond : (w : Wakeups) (p : Place) (c : CondCall) (n : Name) (m : Expr) → naming (lowered_call w p c n m) ≡ record { plain = None; routine = None }
named_cond Any p call.Wait n m = named_comma p (unlock p m) (lock p m)
named_cond Any p call.Signal n m = named_nought p
named_cond Any p call.Broadcast n m = named_nought p
named_cond Any p call.Init n m = named_nought p
named_cond Any p call.Destroy n m = named_nought p
named_cond Signalled p call.Wait n m = named_comma p (woken p n m) (lock p m)
named_cond Signalled p call.Signal n m = named_call p (signal n) []
named_cond Signalled p call.Broadcast n m = named_call p (broadcast n) []
named_cond Signalled p call.Init n m = named_call p (init n) []
named_cond Signalled p call.Destroy n m = named_nought p

named_lowered : (w : Wakeups) (p : Place) (n : Name) (c : Option CondCall) (xs : List Expr) → naming (lower_call w p n c xs) ≡ record { plain = None; routine = None }
named_lowered w p n None xs = named_call p n xs
named_lowered w p n (Some c) xs = named_cond w p c _ _

step_named : (w : Wakeups) (l : Expr-F Expr) → naming (lower_step w l) ≡ naming_step (map-Expr Expr Naming naming l)
step_named w (Expr-F.Call p n xs) = named_lowered w p n (cond_call_named n) xs
step_named w (Expr-F.Name p n) = fold-roll-Expr Naming naming_step (Expr-F.Name p n)
step_named w (Expr-F.Number p v u) = fold-roll-Expr Naming naming_step (Expr-F.Number p v u)
step_named w (Expr-F.Text p) = fold-roll-Expr Naming naming_step (Expr-F.Text p)
step_named w (Expr-F.Bracket p x) = fold-roll-Expr Naming naming_step (Expr-F.Bracket p x)
step_named w (Expr-F.Index p n x) = fold-roll-Expr Naming naming_step (Expr-F.Index p n x)
step_named w (Expr-F.Cast p t x) = fold-roll-Expr Naming naming_step (Expr-F.Cast p t x)
step_named w (Expr-F.Unary p o x) = fold-roll-Expr Naming naming_step (Expr-F.Unary p o x)
step_named w (Expr-F.StepBefore p o x) = fold-roll-Expr Naming naming_step (Expr-F.StepBefore p o x)
step_named w (Expr-F.StepAfter p o x) = fold-roll-Expr Naming naming_step (Expr-F.StepAfter p o x)
step_named w (Expr-F.Binary p o x y) = fold-roll-Expr Naming naming_step (Expr-F.Binary p o x y)
step_named w (Expr-F.Choose p x y z) = fold-roll-Expr Naming naming_step (Expr-F.Choose p x y z)
step_named w (Expr-F.Assign p o x y) = fold-roll-Expr Naming naming_step (Expr-F.Assign p o x y)
step_named w (Expr-F.Comma p x y) = fold-roll-Expr Naming naming_step (Expr-F.Comma p x y)
step_named w (Expr-F.Address p x) = fold-roll-Expr Naming naming_step (Expr-F.Address p x)

-- a lowered expression names what the expression names
pub lowered_names : (w : Wakeups) (x : Expr) → naming (lower_expr w x) ≡ naming x
lowered_names w = naming_kept {A = Expr} (lower_step w) naming (step_named w)

-- ---- the first argument

out_comma : (p : Place) (x y : Expr) → cond_behind (comma p x y) ≡ None
out_comma p x y = ap cond_behind (sym (e.rolls-Comma p x y)) ∙ ap cond_in (out-roll-Expr (Expr-F.Comma p x y))

out_call : (p : Place) (n : Name) (xs : List Expr) → cond_behind (call_of p n xs) ≡ None
out_call p n xs = ap cond_behind (sym (e.rolls-Call p n xs)) ∙ ap cond_in (out-roll-Expr (Expr-F.Call p n xs))

out_nought : (p : Place) → cond_behind (nought p) ≡ None
out_nought p = ap cond_behind (sym (e.rolls-Number p 0 false)) ∙ ap cond_in (out-roll-Expr (Expr-F.Number p 0 false))

behind_cond : (w : Wakeups) (p : Place) (c : CondCall) (n : Name) (m : Expr) → cond_behind (lowered_call w p c n m) ≡ None
behind_cond Any p call.Wait n m = out_comma p (unlock p m) (lock p m)
behind_cond Any p call.Signal n m = out_nought p
behind_cond Any p call.Broadcast n m = out_nought p
behind_cond Any p call.Init n m = out_nought p
behind_cond Any p call.Destroy n m = out_nought p
behind_cond Signalled p call.Wait n m = out_comma p (woken p n m) (lock p m)
behind_cond Signalled p call.Signal n m = out_call p (signal n) []
behind_cond Signalled p call.Broadcast n m = out_call p (broadcast n) []
behind_cond Signalled p call.Init n m = out_call p (init n) []
behind_cond Signalled p call.Destroy n m = out_nought p

behind_lowered : (w : Wakeups) (p : Place) (n : Name) (c : Option CondCall) (xs : List Expr) → cond_behind (lower_call w p n c xs) ≡ None
behind_lowered w p n None xs = out_call p n xs
behind_lowered w p n (Some c) xs = behind_cond w p c _ _

step_behind : (w : Wakeups) (l : Expr-F Expr) → cond_behind (lower_step w (map-Expr Expr Expr (lower_expr w) l)) ≡ cond_in l
step_behind w (Expr-F.Call p n xs) = behind_lowered w p n (cond_call_named n) (map (lower_expr w) xs)
step_behind w (Expr-F.Name p n) = ap cond_in (out-roll-Expr (Expr-F.Name p n))
step_behind w (Expr-F.Number p v u) = ap cond_in (out-roll-Expr (Expr-F.Number p v u))
step_behind w (Expr-F.Text p) = ap cond_in (out-roll-Expr (Expr-F.Text p))
step_behind w (Expr-F.Bracket p x) = ap cond_in (out-roll-Expr (Expr-F.Bracket p (lower_expr w x)))
step_behind w (Expr-F.Index p n x) = ap cond_in (out-roll-Expr (Expr-F.Index p n (lower_expr w x)))
step_behind w (Expr-F.Cast p t x) = ap cond_in (out-roll-Expr (Expr-F.Cast p t (lower_expr w x)))
step_behind w (Expr-F.Unary p o x) = ap cond_in (out-roll-Expr (Expr-F.Unary p o (lower_expr w x)))
step_behind w (Expr-F.StepBefore p o x) = ap cond_in (out-roll-Expr (Expr-F.StepBefore p o (lower_expr w x)))
step_behind w (Expr-F.StepAfter p o x) = ap cond_in (out-roll-Expr (Expr-F.StepAfter p o (lower_expr w x)))
step_behind w (Expr-F.Binary p o x y) = ap cond_in (out-roll-Expr (Expr-F.Binary p o (lower_expr w x) (lower_expr w y)))
step_behind w (Expr-F.Choose p x y z) = ap cond_in (out-roll-Expr (Expr-F.Choose p (lower_expr w x) (lower_expr w y) (lower_expr w z)))
step_behind w (Expr-F.Assign p o x y) = ap cond_in (out-roll-Expr (Expr-F.Assign p o (lower_expr w x) (lower_expr w y)))
step_behind w (Expr-F.Comma p x y) = ap cond_in (out-roll-Expr (Expr-F.Comma p (lower_expr w x) (lower_expr w y)))
step_behind w (Expr-F.Address p x) = ap cond_in (out-roll-Expr (Expr-F.Address p (lower_expr w x))) ∙ ap (λ (n : Naming). n.plain) (lowered_names w x)

pub behind_is : (w : Wakeups) (x : Expr) → cond_behind (lower_expr w x) ≡ cond_behind x
behind_is w x = ap cond_behind (fold_out-Expr Expr (lower_step w) x) ∙ step_behind w (out-Expr x)

pub first_is : (w : Wakeups) (xs : List Expr) → first_cond (map (lower_expr w) xs) ≡ first_cond xs
first_is w [] = refl
first_is w (x ∷ xs) = behind_is w x

-- what a call on a condition variable becomes, by the name that its first argument has
pub called_is : (w : Wakeups) (p : Place) (n : Name) (o : Option CondCall) (k : CondCall) (c : Name) (xs : List Expr) → o ≡ Some k → c ≡ name_or_none (first_cond xs)
    → lowered_call w p k c (second p (map (lower_expr w) xs)) ≡ lower_call w p n o (map (lower_expr w) xs)
called_is w p n o k c xs is named =
    ap (λ (m : Name). lowered_call w p k m (second p (map (lower_expr w) xs))) (named ∙ ap name_or_none (sym (first_is w xs)))
    ∙ ap (λ (z : Option CondCall). lower_call w p n z (map (lower_expr w) xs)) (sym is)
