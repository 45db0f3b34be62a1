-- Runs of the machine: what was read, and what is read to a program's end.
use Rattle.std.proofs.Common.{◌≡◌, ℕ, ◌-◌, ◌≤◌, true, List, [], ◌∷◌, ◌++◌, Some, refl, sym, ap, ◌∙◌, subst, arith, append_assoc}
use Rattle.token_list.specs.declared.Token.{Token}
use Rattle.c_tree.specs.declared.expr.Expr.{Expr}
use Rattle.c_tree.specs.declared.program.Program.{Program}
use Rattle.c_expr.specs.declared.form.ExprForm.{ExprForm}
use Rattle.c_expr.specs.declared.form.ExprForm.TheVariants as form
use Rattle.c_expr.specs.Words.{word_of}
use Rattle.c_expr.specs.Expressions.{Reads}
use Rattle.c_expr.specs.Parser.{form_level}
use Rattle.c_stmt.specs.Machine.{State, Go, Ask, step, shut, finish}
use Rattle.c_expr.specs.Closers.{closes}
use Rattle.c_expr.proofs.Closers.{one_before}

pub form_small : (f : ExprForm) → form_level f ≤ 2
form_small form.Expr = omega arith
form_small form.Assign = omega arith
form_small form.Cond = omega arith

-- Path state list next: from the state the machine reads the list and is in the next one.
pub data Path : State → List Token → State → Type 0 where
  stay : {s : State} → Path s [] s
  token : {s r u : State} {t : Token} {ts : List Token} → step t s ≡ Go r → Path r ts u → Path s (t ∷ ts) u
  expression : {s m r u : State} {f : ExprForm} {above : ℕ} {t : Token} {a ts : List Token} {x : Expr} (c : Token) → step t s ≡ Ask m f above → Reads (form_level f) (200 - above) (t ∷ a) x → closes (form_level f) (word_of c) ≡ true
      → shut c t.place x m ≡ Go r → Path r ts u → Path s (t ∷ (a ++ c ∷ ts)) u

-- Runs g state list: the list is read to its end, and the program is g.
pub data Runs (g : Program) : State → List Token → Type 0 where
  ends : {s : State} → finish s ≡ Some g → Runs g s []
  by_token : {s r : State} {t : Token} {ts : List Token} → step t s ≡ Go r → Runs g r ts → Runs g s (t ∷ ts)
  by_expression : {s m r : State} {f : ExprForm} {above : ℕ} {t : Token} {a ts : List Token} {x : Expr} (c : Token) → step t s ≡ Ask m f above → Reads (form_level f) (200 - above) (t ∷ a) x → closes (form_level f) (word_of c) ≡ true
      → shut c t.place x m ≡ Go r → Runs g r ts → Runs g s (t ∷ (a ++ c ∷ ts))

-- what a run does first
pub data First (g : Program) (s : State) (t : Token) (ts : List Token) : Type 0 where
  a_token : {r : State} → step t s ≡ Go r → Runs g r ts → First g s t ts
  an_expression : {m r : State} {f : ExprForm} {above : ℕ} {a us : List Token} {x : Expr} (c : Token) → step t s ≡ Ask m f above → Reads (form_level f) (200 - above) (t ∷ a) x → closes (form_level f) (word_of c) ≡ true
      → shut c t.place x m ≡ Go r → Runs g r us → a ++ c ∷ us ≡ ts → First g s t ts

pub first : {g : Program} {s : State} {t : Token} {ts : List Token} → Runs g s (t ∷ ts) → First g s t ts
first (by_token is k) = a_token is k
first (by_expression c is r closer goes k) = an_expression c is r closer goes k refl

-- a path through what is read so far is the way of each run through it
pub follows : {g : Program} {s u : State} {ts : List Token} → Path s ts u → (us : List Token) → Runs g s (ts ++ us) → Runs g u us
follows stay us k = k
follows {g = g} (token {s = s} {r = r} {u = v} {t = t} {ts = ts} is p) us k = by (λ m. follows p us m) (first k)
  where
    by : (Runs g r (ts ++ us) → Runs g v us) → First g s t (ts ++ us) → Runs g v us
    by go (a_token {r = r'} at k) = let same : Go r' ≡ Go r = sym at ∙ is in let state : r' ≡ r = cc in go (subst (λ m. Runs g m (ts ++ us)) state k)
    by go (an_expression {m = m} {f = f} {above = n} c at b d e h same) = let bad : Ask m f n ≡ Go r = sym at ∙ is in cc
follows {g = g} (expression {s = s} {m = m} {r = r} {u = v} {f = f} {above = n} {t = t} {a = a} {ts = ts} {x = x} c is reads closer goes p) us k =
    by (λ w. follows p us w) (first (subst (Runs g s) (ap (λ l. t ∷ l) (append_assoc a (c ∷ ts) us)) k))
  where
    by : (Runs g r (ts ++ us) → Runs g v us) → First g s t (a ++ c ∷ (ts ++ us)) → Runs g v us
    by go (a_token {r = r'} at k) = let bad : Go r' ≡ Ask m f n = sym at ∙ is in cc
    by go (an_expression {m = m'} {r = r'} {f = f'} {above = n'} {a = a'} {us = us'} {x = x'} c' at reads' closer' goes' k same) =
        let asked : Ask m' f' n' ≡ Ask m f n = sym at ∙ is in
        let state : m' ≡ m = cc in
        let form' : f' ≡ f = cc in
        let room' : n' ≡ n = cc in
        let one = one_before c' c us' (ts ++ us) (form_small f) (subst (λ h. Reads (form_level f) (200 - h) (t ∷ a') x') room' (subst (λ h. Reads (form_level h) (200 - n') (t ∷ a') x') form' reads')) reads
        (subst (λ h. closes (form_level h) (word_of c') ≡ true) form' closer') closer (ap (λ l. t ∷ l) same) in
        let tree : x' ≡ x = one.1 in
        let mark' : c' ≡ c = one.2 in
        let next : Go r' ≡ Go r = sym goes' ∙ ap (λ h. shut c' t.place x' h) state ∙ ap (λ h. shut h t.place x' m) mark' ∙ ap (λ h. shut c t.place h m) tree ∙ goes in
        let after : r' ≡ r = cc in
        go (subst (λ h. Runs g h (ts ++ us)) after (subst (Runs g r') one.3 k))
