-- What is broken in an index, a call and an address, from what is broken in their parts.
use Rattle.std.proofs.Common.{◌≡◌, ◌∙◌, List, Bool, map, sym, ap}
use Rattle.dg_base.specs.declared.Place.{Place}
use Rattle.c_tree.specs.declared.expr.Expr.{Expr, Expr-F, map-Expr, fold-roll-Expr, roll-Expr}
use Rattle.c_tree.specs.declared.expr.Expr.TheVariants as e
use Rattle.c_rules.specs.declared.builtin.Role.{Role}
use Rattle.c_rules.specs.declared.builtin.Role.TheVariants as role
use Rattle.c_rules.specs.declared.names.Meaning.{Meaning}
use Rattle.c_rules.specs.Names.{Name, or_else}
use Rattle.c_rules.specs.Scopes.{First, unless}
use Rattle.c_rules.specs.Types.{Judged, judged, judged_step, found_step, broken_in, broken_arguments, roles_in, index_fits, call_fits, address_fits, behind_address}
use Rattle.c_rules.proofs.Wholes.{whole_is, wholes_are}

found_layer : (means : Name → Meaning) (l : Expr-F Expr) (r : Role) → broken_in means (roll-Expr l) r ≡ found_step means (map-Expr Expr Judged (judged means) l) r
found_layer means l r = ap (λ (j : Judged). j.found r) (fold-roll-Expr Judged (judged_step means) l)

broken_index : (means : Name → Meaning) (p : Place) (n : Name) (x : Expr) (r : Role)
    → broken_in means (e.Index p n x) r ≡ or_else (broken_in means x role.Value) (unless (index_fits r (means n)) p)
broken_index means p n x r = ap (λ (z : Expr). broken_in means z r) (sym (e.rolls-Index p n x)) ∙ found_layer means (Expr-F.Index p n x) r

broken_call : (means : Name → Meaning) (p : Place) (n : Name) (xs : List Expr) (r : Role)
    → broken_in means (e.Call p n xs) r ≡ or_else (broken_arguments (roles_in (means n)) 0 (map (judged means) xs)) (unless (call_fits means r (means n) xs) p)
broken_call means p n xs r =
    ap (λ (z : Expr). broken_in means z r) (sym (e.rolls-Call p n xs))
    ∙ (found_layer means (Expr-F.Call p n xs) r
    ∙ ap (λ (ys : List Expr). or_else (broken_arguments (roles_in (means n)) 0 (map (judged means) xs)) (unless (call_fits means r (means n) ys) p)) (wholes_are means xs))

broken_address : (means : Name → Meaning) (p : Place) (x : Expr) (r : Role)
    → broken_in means (e.Address p x) r ≡ or_else (broken_in means x (behind_address r)) (unless (address_fits means r x) p)
broken_address means p x r =
    ap (λ (z : Expr). broken_in means z r) (sym (e.rolls-Address p x))
    ∙ (found_layer means (Expr-F.Address p x) r
    ∙ ap (λ (y : Expr). or_else (broken_in means x (behind_address r)) (unless (address_fits means r y) p)) (whole_is means x))

-- what is found at an index, by its parts
pub index_found : (means : Name → Meaning) (p : Place) (n m : Name) (x y z : Expr) (r : Role) (k : Meaning) (b : Bool) (u v w : First)
    → w ≡ or_else v u → u ≡ unless b p → b ≡ index_fits r k → k ≡ means m → m ≡ n → v ≡ broken_in means y role.Value → y ≡ x → z ≡ e.Index p n x
    → w ≡ broken_in means z r
index_found means p n m x y z r k b u v w g fu fb fk fm fv fy fz =
    g ∙ (ap (or_else v) (fu ∙ ap (λ (i : Bool). unless i p) (fb ∙ ap (index_fits r) (fk ∙ ap means fm)))
    ∙ (ap (λ (i : First). or_else i (unless (index_fits r (means n)) p)) (fv ∙ ap (λ (i : Expr). broken_in means i role.Value) fy)
    ∙ (sym (broken_index means p n x r) ∙ ap (λ (i : Expr). broken_in means i r) (sym fz))))

-- what is found at a call, by its arguments
pub call_found : (means : Name → Meaning) (p : Place) (n m : Name) (xs ys zs : List Expr) (z : Expr) (r : Role) (k : Meaning) (b : Bool) (u v w : First)
    → w ≡ or_else v u → u ≡ unless b p → b ≡ call_fits means r k zs → k ≡ means m → m ≡ n
    → v ≡ broken_arguments (roles_in k) 0 (map (judged means) ys) → ys ≡ xs → zs ≡ xs → z ≡ e.Call p n xs
    → w ≡ broken_in means z r
call_found means p n m xs ys zs z r k b u v w g fu fb fk fm fv fy fx fz =
    g ∙ (ap (or_else v) (fu ∙ ap (λ (i : Bool). unless i p) (fb ∙ (ap (λ (i : Meaning). call_fits means r i zs) (fk ∙ ap means fm) ∙ ap (call_fits means r (means n)) fx)))
    ∙ (ap (λ (i : First). or_else i (unless (call_fits means r (means n) xs) p))
    (fv ∙ (ap (λ (i : Meaning). broken_arguments (roles_in i) 0 (map (judged means) ys)) (fk ∙ ap means fm) ∙ ap (λ (i : List Expr). broken_arguments (roles_in (means n)) 0 (map (judged means) i)) fy))
    ∙ (sym (broken_call means p n xs r) ∙ ap (λ (i : Expr). broken_in means i r) (sym fz))))

-- what is found at `&`, by what stands behind it
pub address_found : (means : Name → Meaning) (p : Place) (x y y' z : Expr) (r s : Role) (b : Bool) (u v w : First)
    → w ≡ or_else v u → u ≡ unless b p → b ≡ address_fits means r y' → y' ≡ x → v ≡ broken_in means y s → s ≡ behind_address r → y ≡ x → z ≡ e.Address p x
    → w ≡ broken_in means z r
address_found means p x y y' z r s b u v w g fu fb fx fv fs fy fz =
    g ∙ (ap (or_else v) (fu ∙ ap (λ (i : Bool). unless i p) (fb ∙ ap (address_fits means r) fx))
    ∙ (ap (λ (i : First). or_else i (unless (address_fits means r x) p)) (fv ∙ (ap (broken_in means y) fs ∙ ap (λ (i : Expr). broken_in means i (behind_address r)) fy))
    ∙ (sym (broken_address means p x r) ∙ ap (λ (i : Expr). broken_in means i r) (sym fz))))
