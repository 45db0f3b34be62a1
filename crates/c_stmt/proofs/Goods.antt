-- What a move of the machine owes: what completes the state that it leads to completes the tokens read before.
use Rattle.std.proofs.Common.{◌≡◌, ℕ, ◌+◌, ◌-◌, ◌≤◌, Bool, true, false, List, ◌∷◌, ◌++◌, refl, sym, subst, arith}
use Rattle.std.specs.Prelude.{nat_le}
use Rattle.std.proofs.lemmas.Bool.{leb-true}
use Rattle.dg_base.specs.declared.Place.{Place}
use Rattle.token_list.specs.declared.Token.{Token}
use Rattle.c_tree.specs.declared.expr.Expr.{Expr}
use Rattle.c_tree.specs.declared.program.Program.{Program}
use Rattle.c_expr.specs.declared.form.ExprForm.{ExprForm}
use Rattle.c_expr.specs.Words.{word_of}
use Rattle.c_expr.specs.Expressions.{Reads}
use Rattle.c_expr.specs.Parser.{form_level}
use Rattle.c_stmt.specs.Machine.{State, At, Move, Go, Ask, Stop, if_so, asks, shut}
use Rattle.c_expr.specs.Closers.{closes}
use Rattle.c_stmt.proofs.Wanting.{Leads, Fit}

-- what completes the state completes the tokens before it
abbrev pub Lands : (Program → List Token → Type 0) → Move → Type 0
Lands Q (Go (At xs s position)) = (n : ℕ) × Fit n s position × ((g : Program) (us : List Token) → Leads xs g n s position us → Q g us)
Lands Q (Ask state f above) = ⊥
Lands Q Stop = Unit {0}

-- an expression that begins with the token t, and the token behind it
pub record Asked (Q : Program → List Token → Type 0) (t : Token) (state : State) (f : ExprForm) (n : ℕ) : Type 0 where
  pub lands : (a : List Token) (x : Expr) → Reads (form_level f) n (t ∷ a) x → (u : Token) → Lands (λ g us. Q g (t ∷ (a ++ u ∷ us))) (shut u t.place x state)
  pub closing : (p : Place) (x : Expr) (u : Token) (next : State) → shut u p x state ≡ Go next → closes (form_level f) (word_of u) ≡ true
  pub goes : (p : Place) (x : Expr) → (u : Token) × (next : State) × (shut u p x state ≡ Go next)

abbrev pub Good : (Program → List Token → Type 0) → Token → Move → Type 0
Good Q t (Go state) = Lands (λ g us. Q g (t ∷ us)) (Go state)
Good Q t (Ask state f above) = (above ≤ 200) × Asked Q t state f (200 - above)
Good Q t Stop = Unit {0}

pub when : (Q : Program → List Token → Type 0) (t : Token) (b : Bool) (m : Move) → (b ≡ true → Good Q t m) → Good Q t (if_so b m)
when Q t true m h = h refl
when Q t false m h = tt

-- the token may be replaced by the one that it is
pub as_token : (Q : Program → List Token → Type 0) (m : Move) (t u : Token) → t ≡ u → Good Q u m → Good Q t m
as_token Q m t u is g = subst (λ v. Good Q v m) (sym is) g

pub lands_more : (P Q : Program → List Token → Type 0) (m : Move) → ((g : Program) (us : List Token) → P g us → Q g us) → Lands P m → Lands Q m
lands_more P Q (Go (At xs s position)) h k = (k.0, k.1, λ g us l. h g us (k.2 g us l))
lands_more P Q (Ask state f above) h k = k
lands_more P Q Stop h k = tt

-- what is good for a language is good for a greater one
pub mapped : (P Q : Program → List Token → Type 0) (t : Token) (m : Move) → ((g : Program) (us : List Token) → P g us → Q g us) → Good P t m → Good Q t m
mapped P Q t (Go (At xs s position)) h k = (k.0, k.1, λ g us l. h g (t ∷ us) (k.2 g us l))
mapped P Q t (Ask state f above) h k = (
  k.0,
  record {
    lands = λ a x r u. lands_more (λ g us. P g (t ∷ (a ++ u ∷ us))) (λ g us. Q g (t ∷ (a ++ u ∷ us))) (shut u t.place x state) (λ g us l. h g (t ∷ (a ++ u ∷ us)) l) (k.1.lands a x r u);
    closing = k.1.closing;
    goes = k.1.goes;
  },
)
mapped P Q t Stop h k = tt

-- an expression where there is room for it
pub asks_good : (Q : Program → List Token → Type 0) (t : Token) (f : ExprForm) (above n : ℕ) (state : State) → above + n ≡ 200 → Asked Q t state f n → Good Q t (asks f above state)
asks_good Q t f above n state is k = when Q t (nat_le above 200) (Ask state f above) (λ le. (leb-true above 200 le, subst (Asked Q t state f) (omega (arith, is)) k))
