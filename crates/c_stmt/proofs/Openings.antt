-- Statements: one token keeps what completes the tokens read.
use Rattle.std.proofs.Common.{◌≡◌, ℕ, suc, false, List, [], ◌∷◌, ◌++◌, Option, sym, ap, subst, append_assoc}
use Rattle.std.specs.Prelude.{codes}
use Rattle.dg_base.specs.declared.Place.{Place}
use Rattle.token_list.specs.declared.Token.{Token}
use Rattle.c_tree.specs.declared.expr.Expr.{Expr}
use Rattle.c_tree.specs.declared.stmt.Start.{Start}
use Rattle.c_tree.specs.declared.stmt.Stmt.{Stmt}
use Rattle.c_tree.specs.declared.stmt.Stmt.TheVariants as tree
use Rattle.c_tree.specs.declared.program.Item.{Item}
use Rattle.c_tree.specs.declared.program.Program.{Program}
use Rattle.c_expr.specs.Words.{mark, word, IsName}
use Rattle.c_expr.specs.Expressions.{Reads}
use Rattle.c_stmt.specs.declared.state.Frame.{Frame}
use Rattle.c_stmt.specs.declared.state.Frame.TheVariants.{AfterLabel, AfterIf, AfterElse, AfterWhile, AfterDo, AfterFor}
use Rattle.c_stmt.specs.declared.state.Tested.TheVariants as tested
use Rattle.c_stmt.specs.Declarations.{ReadsOption}
use Rattle.c_stmt.specs.Statements.{ends_open, ReadsStart, ReadsStmt, expr, label, if_only, if_else, while, do_while, for, return, break, continue}
use Rattle.c_stmt.proofs.Wanting.{Goes, label_goes, if_goes, else_goes, last_goes, while_goes, do_goes, for_goes, Wants, a_stmt, step_rest, test_rest, StartRest, start_rest, TestedRest, tested_rest, ReturnRest, return_rest, Before, before}

-- regrouping
else_list : (i l r e : Token) (a b c us : List Token) → (i ∷ l ∷ (a ++ r ∷ (b ++ e ∷ c))) ++ us ≡ i ∷ l ∷ (a ++ r ∷ (b ++ e ∷ (c ++ us)))
else_list i l r e a b c us = simp append_assoc

do_list : (d w l r m : Token) (a b us : List Token) → (d ∷ (b ++ w ∷ l ∷ (a ++ r ∷ m ∷ []))) ++ us ≡ d ∷ (b ++ w ∷ l ∷ (a ++ r ∷ m ∷ us))
do_list d w l r m a b us = simp append_assoc

for_list : (f l m r : Token) (a c d e us : List Token) → (f ∷ l ∷ (a ++ (c ++ m ∷ (d ++ r ∷ e)))) ++ us ≡ f ∷ l ∷ (a ++ (c ++ m ∷ (d ++ r ∷ (e ++ us))))
for_list f l m r a c d e us = simp append_assoc

-- statements with a test
if_by : {xs : List Item} {g : Program} {n : ℕ} {s : List Frame} {p : Place} {x : Expr} {y : Stmt} {a b us : List Token} (q r : Place) → Reads 0 n a x → ReadsStmt n b y → Goes xs g n (AfterIf p x ∷ s) y us
    → Wants xs g (suc n) s (word (codes "if") p ∷ mark (codes "(") q ∷ (a ++ mark (codes ")") r ∷ (b ++ us)))
if_by {xs = xs} {g = g} {n = n} {s = s} {p = p} {a = a} {b = b} {us = us} q r t u (if_goes k) =
    subst (Wants xs g (suc n) s) (ap (λ l. word (codes "if") p ∷ mark (codes "(") q ∷ l) (append_assoc a (mark (codes ")") r ∷ b) us)) (a_stmt (if_only q r t u) k)
if_by {xs = xs} {g = g} {n = n} {s = s} {p = p} {a = a} {b = b} q r t u (else_goes {a = c} {us = us} v shut w k) =
    subst (Wants xs g (suc n) s) (else_list (word (codes "if") p) (mark (codes "(") q) (mark (codes ")") r) (word (codes "else") v) a b c us) (a_stmt (if_else q r v t u shut w) k)

if_wants : {xs : List Item} {g : Program} {n : ℕ} {s : List Frame} {p : Place} {x : Expr} {a us : List Token} (q r : Place) → Reads 0 n a x → Wants xs g n (AfterIf p x ∷ s) us
    → Wants xs g (suc n) s (word (codes "if") p ∷ mark (codes "(") q ∷ (a ++ mark (codes ")") r ∷ us))
if_wants q r t (a_stmt u k) = if_by q r t u k

pub if_begins : {xs : List Item} {g : Program} {n : ℕ} {s : List Frame} {us : List Token} (p : Place) → Before (codes "(") (TestedRest xs g n s (tested.If p)) us → Wants xs g (suc n) s (word (codes "if") p ∷ us)
if_begins p (before q (tested_rest r us t k)) = if_wants q r t k

while_by : {xs : List Item} {g : Program} {n : ℕ} {s : List Frame} {p : Place} {x : Expr} {y : Stmt} {a b us : List Token} (q r : Place) → Reads 0 n a x → ReadsStmt n b y → Goes xs g n (AfterWhile p x ∷ s) y us
    → Wants xs g (suc n) s (word (codes "while") p ∷ mark (codes "(") q ∷ (a ++ mark (codes ")") r ∷ (b ++ us)))
while_by {xs = xs} {g = g} {n = n} {s = s} {p = p} {a = a} {b = b} {us = us} q r t u (while_goes k) =
    subst (Wants xs g (suc n) s) (ap (λ l. word (codes "while") p ∷ mark (codes "(") q ∷ l) (append_assoc a (mark (codes ")") r ∷ b) us)) (a_stmt (while q r t u) k)

while_wants : {xs : List Item} {g : Program} {n : ℕ} {s : List Frame} {p : Place} {x : Expr} {a us : List Token} (q r : Place) → Reads 0 n a x → Wants xs g n (AfterWhile p x ∷ s) us
    → Wants xs g (suc n) s (word (codes "while") p ∷ mark (codes "(") q ∷ (a ++ mark (codes ")") r ∷ us))
while_wants q r t (a_stmt u k) = while_by q r t u k

pub while_begins : {xs : List Item} {g : Program} {n : ℕ} {s : List Frame} {us : List Token} (p : Place) → Before (codes "(") (TestedRest xs g n s (tested.While p)) us → Wants xs g (suc n) s (word (codes "while") p ∷ us)
while_begins p (before q (tested_rest r us t k)) = while_wants q r t k

do_by : {xs : List Item} {g : Program} {n : ℕ} {s : List Frame} {p : Place} {y : Stmt} {a us : List Token} → ReadsStmt n a y → Goes xs g n (AfterDo p ∷ s) y us → Wants xs g (suc n) s (word (codes "do") p ∷ (a ++ us))
do_by {xs = xs} {g = g} {n = n} {s = s} {p = p} {a = b} r (do_goes {a = a} {us = us} q u v w t k) =
    subst (Wants xs g (suc n) s) (do_list (word (codes "do") p) (word (codes "while") q) (mark (codes "(") u) (mark (codes ")") v) (mark (codes ";") w) a b us) (a_stmt (do_while q u v w r t) k)

pub do_begins : {xs : List Item} {g : Program} {n : ℕ} {s : List Frame} {us : List Token} (p : Place) → Wants xs g n (AfterDo p ∷ s) us → Wants xs g (suc n) s (word (codes "do") p ∷ us)
do_begins p (a_stmt r k) = do_by r k

-- a `while` behind the statement of a `do`
pub do_ends : {xs : List Item} {g : Program} {n : ℕ} {s : List Frame} {p : Place} {y : Stmt} {us : List Token} (q : Place) → Before (codes "(") (TestedRest xs g n s (tested.Do p y)) us → Goes xs g n (AfterDo p ∷ s) y (word (codes "while") q ∷ us)
do_ends {xs = xs} {g = g} {n = n} {s = s} {p = p} {y = y} q (before u (tested_rest {a = a} v us t k)) =
    subst (λ l. Goes xs g n (AfterDo p ∷ s) y (word (codes "while") q ∷ mark (codes "(") u ∷ (a ++ mark (codes ")") v ∷ l))) (sym k.2) (do_goes q u v k.0 t k.3)

for_by : {xs : List Item} {g : Program} {n : ℕ} {s : List Frame} {p : Place} {b : Start} {x z : Option Expr} {y : Stmt} {a c d e us : List Token} (q u v : Place) → ReadsStart n a b → ReadsOption n c x → ReadsOption n d z → ReadsStmt n e y
    → Goes xs g n (AfterFor p b x z ∷ s) y us → Wants xs g (suc n) s (word (codes "for") p ∷ mark (codes "(") q ∷ (a ++ (c ++ mark (codes ";") u ∷ (d ++ mark (codes ")") v ∷ (e ++ us)))))
for_by {xs = xs} {g = g} {n = n} {s = s} {p = p} {a = a} {c = c} {d = d} {e = e} {us = us} q u v r t w m (for_goes k) =
    subst (Wants xs g (suc n) s) (for_list (word (codes "for") p) (mark (codes "(") q) (mark (codes ";") u) (mark (codes ")") v) a c d e us) (a_stmt (for q u v r t w m) k)

for_wants : {xs : List Item} {g : Program} {n : ℕ} {s : List Frame} {p : Place} {b : Start} {x z : Option Expr} {a c d us : List Token} (q u v : Place) → ReadsStart n a b → ReadsOption n c x → ReadsOption n d z
    → Wants xs g n (AfterFor p b x z ∷ s) us → Wants xs g (suc n) s (word (codes "for") p ∷ mark (codes "(") q ∷ (a ++ (c ++ mark (codes ";") u ∷ (d ++ mark (codes ")") v ∷ us))))
for_wants q u v r t w (a_stmt m k) = for_by q u v r t w m k

pub for_begins : {xs : List Item} {g : Program} {n : ℕ} {s : List Frame} {us : List Token} (p : Place) → Before (codes "(") (StartRest xs g n s p) us → Wants xs g (suc n) s (word (codes "for") p ∷ us)
for_begins p (before q (start_rest r (test_rest u t (step_rest v w k)))) = for_wants q u v r t w k

pub return_begins : {xs : List Item} {g : Program} {n : ℕ} {s : List Frame} {us : List Token} (p : Place) → ReturnRest xs g n s p us → Wants xs g (suc n) s (word (codes "return") p ∷ us)
return_begins {xs = xs} {g = g} {n = n} {s = s} p (return_rest {a = a} {us = us} q r k) =
    subst (Wants xs g (suc n) s) (ap (λ l. word (codes "return") p ∷ l) (append_assoc a (mark (codes ";") q ∷ []) us)) (a_stmt (return q r) k)

pub break_begins : {xs : List Item} {g : Program} {n : ℕ} {s : List Frame} {us : List Token} (p : Place) → Before (codes ";") (Goes xs g (suc n) s (tree.Break p)) us → Wants xs g (suc n) s (word (codes "break") p ∷ us)
break_begins p (before q k) = a_stmt (break q) k

pub continue_begins : {xs : List Item} {g : Program} {n : ℕ} {s : List Frame} {us : List Token} (p : Place) → Before (codes ";") (Goes xs g (suc n) s (tree.Continue p)) us → Wants xs g (suc n) s (word (codes "continue") p ∷ us)
continue_begins p (before q k) = a_stmt (continue q) k

-- an expression statement, and a label
pub expression_goes : {xs : List Item} {g : Program} {n : ℕ} {s : List Frame} {us : List Token} (q : Place) (t : Token) (a : List Token) (x : Expr) → Reads 0 n (t ∷ a) x → Goes xs g (suc n) s (tree.Expr t.place x) us
    → Wants xs g (suc n) s (t ∷ (a ++ mark (codes ";") q ∷ us))
expression_goes {xs = xs} {g = g} {n = n} {s = s} {us = us} q t a x r k =
    subst (Wants xs g (suc n) s) (ap (λ l. t ∷ l) (append_assoc a (mark (codes ";") q ∷ []) us)) (a_stmt (expr q r) k)

label_by : {xs : List Item} {g : Program} {n : ℕ} {s : List Frame} {p : Place} {c : List ℕ} {y : Stmt} {a us : List Token} (q : Place) → IsName c → ReadsStmt n a y → Goes xs g n (AfterLabel p c ∷ s) y us
    → Wants xs g (suc n) s (word c p ∷ mark (codes ":") q ∷ (a ++ us))
label_by q i r (label_goes k) = a_stmt (label q i r) k

pub label_wants : {xs : List Item} {g : Program} {n : ℕ} {s : List Frame} {p : Place} {c : List ℕ} {us : List Token} (q : Place) → IsName c → Wants xs g n (AfterLabel p c ∷ s) us → Wants xs g (suc n) s (word c p ∷ mark (codes ":") q ∷ us)
label_wants q i (a_stmt r k) = label_by q i r k

pub else_wants : {xs : List Item} {g : Program} {n : ℕ} {s : List Frame} {p : Place} {x : Expr} {y : Stmt} {us : List Token} (q : Place) → ends_open y ≡ false → Wants xs g n (AfterElse p x y ∷ s) us → Goes xs g n (AfterIf p x ∷ s) y (word (codes "else") q ∷ us)
else_wants q shut (a_stmt r (last_goes k)) = else_goes q shut r k
