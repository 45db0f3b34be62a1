-- Blocks: one token keeps what completes the tokens read.
use Rattle.std.proofs.Common.{◌≡◌, ℕ, suc, List, [], ◌∷◌, ◌++◌, refl, sym, ap, ◌∙◌, subst, append_assoc}
use Rattle.std.specs.Prelude.{codes}
use Rattle.std.proofs.lemmas.List.{append-nil}
use Rattle.dg_base.specs.declared.Place.{Place}
use Rattle.token_list.specs.declared.Token.{Token}
use Rattle.c_tree.specs.declared.stmt.Stmt.{Stmt}
use Rattle.c_tree.specs.declared.stmt.Stmt.TheVariants as tree
use Rattle.c_tree.specs.declared.program.Param.{Param}
use Rattle.c_tree.specs.declared.program.Function.{Function}
use Rattle.c_tree.specs.declared.program.Item.{Item}
use Rattle.c_tree.specs.declared.program.Item.TheVariants as item
use Rattle.c_tree.specs.declared.program.Program.{Program}
use Rattle.c_expr.specs.Words.{mark}
use Rattle.c_stmt.specs.declared.state.Frame.{Frame}
use Rattle.c_stmt.specs.declared.state.Frame.TheVariants.{InFunction, InBlock}
use Rattle.c_stmt.specs.declared.state.Head.{Head}
use Rattle.c_stmt.specs.Statements.{ReadsStmt, block, ReadsBlock, no_more, a_statement}
use Rattle.c_stmt.specs.Machine as machine
use Rattle.c_stmt.specs.Machine.{Held, close}
use Rattle.c_stmt.proofs.Wanting.{After, body_with, Goes, function_goes, block_goes, Wants, a_stmt, block_rest, function_rest, function_of, FunctionRest, function_rest_of}

-- what a block goes on with
data BlockRest (xs : List Item) (g : Program) (n : ℕ) (p : Place) (zs : List Stmt) (s : List Frame) : List Token → Type 0 where
  rest_of : {ys : List Stmt} {a us : List Token} (q : Place) → ReadsBlock n a ys → (l : List Stmt) → l ≡ zs ++ ys → Goes xs g (suc n) s (tree.Block p l) us → BlockRest xs g n p zs s (a ++ mark (codes "}") q ∷ us)

block_goes_on : {xs : List Item} {g : Program} {n : ℕ} {p : Place} {zs : List Stmt} {s : List Frame} {y : Stmt} {a us : List Token} → ReadsStmt n a y → Goes xs g n (InBlock p zs ∷ s) y us → BlockRest xs g n p zs s (a ++ us)
block_goes_on {xs = xs} {g = g} {n = n} {p = p} {zs = zs} {s = s} {a = a} r (block_goes {a = b} {us = us} q t l same k) =
    subst (BlockRest xs g n p zs s) (append_assoc a b (mark (codes "}") q ∷ us)) (rest_of q (a_statement r t) l same k)

as_block : {xs : List Item} {g : Program} {n : ℕ} {p : Place} {zs : List Stmt} {s : List Frame} {us : List Token} → Wants xs g n (InBlock p zs ∷ s) us → BlockRest xs g n p zs s us
as_block (a_stmt r k) = block_goes_on r k
as_block (block_rest q r l same k) = rest_of q r l same k

-- a statement more in a block
block_grows : {xs : List Item} {g : Program} {n : ℕ} {p : Place} {zs : List Stmt} {s : List Frame} {y : Stmt} {us : List Token} → BlockRest xs g n p (zs ++ y ∷ []) s us → Goes xs g n (InBlock p zs ∷ s) y us
block_grows {zs = zs} {y = y} (rest_of {ys = ys} q r l same k) = block_goes q r l (same ∙ append_assoc zs (y ∷ []) ys) k

pub block_more : {xs : List Item} {g : Program} {n : ℕ} {p : Place} {zs : List Stmt} {s : List Frame} {y : Stmt} {us : List Token} → Wants xs g n (InBlock p (zs ++ y ∷ []) ∷ s) us → Goes xs g n (InBlock p zs ∷ s) y us
block_more k = block_grows (as_block k)

-- a block begins
opened : {xs : List Item} {g : Program} {n : ℕ} {s : List Frame} {us : List Token} (p : Place) → BlockRest xs g n p [] s us → Wants xs g (suc n) s (mark (codes "{") p ∷ us)
opened {xs = xs} {g = g} {n = n} {s = s} p (rest_of {a = a} {us = us} q r l same k) =
    subst (Wants xs g (suc n) s) (ap (λ h. mark (codes "{") p ∷ h) (append_assoc a (mark (codes "}") q ∷ []) us)) (a_stmt (block q (subst (ReadsBlock n a) (sym same) r)) k)

pub block_opens : {xs : List Item} {g : Program} {n : ℕ} {s : List Frame} {us : List Token} (p : Place) → Wants xs g n (InBlock p [] ∷ s) us → Wants xs g (suc n) s (mark (codes "{") p ∷ us)
block_opens p k = opened p (as_block k)

-- what a function's outermost block goes on with
data BodyRest (xs : List Item) (g : Program) (f : Function) : List Token → Type 0 where
  body_rest : {ys : List Stmt} {a us : List Token} (q : Place) → ReadsBlock 198 a ys → (h : Function) → h ≡ body_with f ys → After xs g (item.Function h) us → BodyRest xs g f (a ++ mark (codes "}") q ∷ us)

body_goes_on : {xs : List Item} {g : Program} {n : ℕ} {f : Function} {y : Stmt} {a us : List Token} → n ≡ 198 → ReadsStmt n a y → Goes xs g n (InFunction f ∷ []) y us → BodyRest xs g f (a ++ us)
body_goes_on {xs = xs} {g = g} {f = f} {a = a} is r (function_goes {a = b} {us = us} q t h same k) =
    subst (BodyRest xs g f) (append_assoc a b (mark (codes "}") q ∷ us)) (body_rest q (a_statement r t) h same k)

as_body : {xs : List Item} {g : Program} {n : ℕ} {f : Function} {us : List Token} → n ≡ 198 → Wants xs g n (InFunction f ∷ []) us → BodyRest xs g f us
as_body is (a_stmt r k) = body_goes_on is r k
as_body is (function_rest q r h same k) = body_rest q r h same k

body_grows : {xs : List Item} {g : Program} {f : Function} {y : Stmt} {us : List Token} → BodyRest xs g (machine.with_statement f y) us → Goes xs g 198 (InFunction f ∷ []) y us
body_grows {f = f} {y = y} (body_rest {ys = ys} q r h same k) =
    function_goes q r h (same ∙ ap (λ l. record { place = f.place; word = f.word; name = f.name; params = f.params; body = l }) (append_assoc f.body (y ∷ []) ys)) k

pub body_more : {xs : List Item} {g : Program} {f : Function} {y : Stmt} {us : List Token} → Wants xs g 198 (InFunction (machine.with_statement f y) ∷ []) us → Goes xs g 198 (InFunction f ∷ []) y us
body_more k = body_grows (as_body refl k)

starting : {xs : List Item} {g : Program} {us : List Token} (h : Head) (ps : List Param) (q : Place) → BodyRest xs g (function_of h ps []) us → FunctionRest xs g h ps (mark (codes "{") q ∷ us)
starting {xs = xs} {g = g} h ps q (body_rest {us = us} u r f same k) = function_rest_of q u r (subst (λ m. After xs g (item.Function m) us) same k)

-- a function begins
pub function_opens : {xs : List Item} {g : Program} {us : List Token} (h : Head) (ps : List Param) (q : Place) → Wants xs g 198 (InFunction (function_of h ps []) ∷ []) us → FunctionRest xs g h ps (mark (codes "{") q ∷ us)
function_opens h ps q k = starting h ps q (as_body refl k)

-- blocks end
pub block_shuts : {xs : List Item} {g : Program} {n : ℕ} {p : Place} {zs : List Stmt} {s : List Frame} {us : List Token} (q : Place) → Goes xs g (suc n) s (tree.Block p zs) us → Wants xs g n (InBlock p zs ∷ s) (mark (codes "}") q ∷ us)
block_shuts {zs = zs} q k = block_rest q no_more zs (sym (append-nil zs)) k

pub function_shuts : {xs : List Item} {g : Program} {f : Function} {us : List Token} (q : Place) → After xs g (item.Function f) us → Wants xs g 198 (InFunction f ∷ []) (mark (codes "}") q ∷ us)
function_shuts {f = f} q k = function_rest q no_more f (ap (λ l. record { place = f.place; word = f.word; name = f.name; params = f.params; body = l }) (sym (append-nil f.body))) k
