-- What the parser answers at the end of a run has its cause.
use Rattle.std.proofs.Common.{◌≡◌, ℕ, suc, ◌≤◌, ◌<◌, List, [], ◌∷◌, length, drop, get_or, drop-cons, Option, Some, None, Result, Ok, Err, refl, sym, ap, ◌∙◌, subst, arith}
use Rattle.std.specs.Prelude.{IfOk, IfErr}
use Rattle.std.proofs.lemmas.List.{drop_all}
use Rattle.dg_base.specs.declared.Place.{Place}
use Rattle.dg_base.specs.declared.refusal.Refusal.{Refusal}
use Rattle.token_list.specs.declared.Token.{Token}
use Rattle.token_list.specs.declared.Tokens.{Tokens}
use Rattle.c_tree.specs.declared.expr.Expr.{Expr}
use Rattle.c_expr.specs.declared.form.ExprForm.{ExprForm}
use Rattle.c_expr.specs.declared.form.ExprForm.TheVariants as form
use Rattle.c_expr.specs.Expressions.{Parses, Refuses}
use Rattle.c_expr.specs.Machine.{State, Want, Stop, step, Ended, goes_on, run, finish}
use Rattle.c_expr.specs.Parser.{form_level, place_of, Finds, HasCause, Answers}
use Rattle.c_expr.proofs.Longest.{parses, refuses}

-- both clauses of the parser's contract
pub record Ends (f n : ℕ) (tokens : Tokens) (at : ℕ) (r : Result (Expr × ℕ) Refusal) : Type 0 where
  pub found : IfOk r (λ a. Finds f n tokens at a.0 a.1)
  pub refused : IfErr r (λ e. HasCause f n tokens at e)

pub answers : (f n : ℕ) → f ≤ 2 → (tokens : Tokens) (at next : ℕ) (place : Place) (s : State) (over : Option Expr) (r : Result (Expr × ℕ) Refusal) → at ≤ next → next ≤ length tokens.list
    → run f n (Want []) (drop at tokens.list) ≡ record { state = s; rest = drop next tokens.list } → finish s ≡ over → place ≡ place_of (drop next tokens.list) tokens.end → Answers over next place r → Ends f n tokens at r
answers f n small tokens at next place s None r after within is over here a =
    subst (Ends f n tokens at) (sym a) (record {
      found = tt;
      refused = (next, after, within, subst (λ (e : Ended). Refuses f n (drop at tokens.list) e.rest) is (refuses small (drop at tokens.list) (ap (λ (e : Ended). finish e.state) is ∙ over)), here);
    })
answers f n small tokens at next place s (Some x) (Err e) after within is over here a = record { found = tt; refused = subst (λ u. HasCause f n tokens at u) (sym a.1) tt }
answers f n small tokens at next place s (Some x) (Ok b) after within is over here a = record {
  found = subst (λ (u : Expr × ℕ). Finds f n tokens at u.0 u.1) (sym a.0) (after, within, subst (λ (e : Ended). Parses f n (drop at tokens.list) x e.rest) is (parses small (drop at tokens.list) x (ap (λ (e : Ended). finish e.state) is ∙ over)));
  refused = tt;
}

-- a run that stops before a token
run_stops : (f n : ℕ) (s : State) (list : List Token) (t : Token) (ts : List Token) → list ≡ t ∷ ts → step f n t s ≡ Stop → run f n s list ≡ record { state = s; rest = list }
run_stops f n s list t ts is stop = rw is (ap (λ k. goes_on k s (λ q. run f n q ts) (record { state = s; rest = t ∷ ts })) stop)

-- a token of a list, and the tokens from it on
token_at : (list : List Token) (next : ℕ) (t : Token) → next < length list → t ≡ get_or list next t → drop next list ≡ t ∷ drop (suc next) list
token_at list next t lt is = drop-cons list next t lt ∙ ap (λ u. u ∷ drop (suc next) list) (sym is)

stop_answers : (f n : ℕ) → f ≤ 2 → (tokens : Tokens) (at next : ℕ) (t u : Token) (s : State) (over : Option Expr) (r : Result (Expr × ℕ) Refusal) → at ≤ next → next < length tokens.list
    → t ≡ get_or tokens.list next t → u ≡ get_or tokens.list next u → run f n s (drop next tokens.list) ≡ run f n (Want []) (drop at tokens.list) → (step f n t s ≡ Stop) × (finish s ≡ over)
    → Answers over next u.place r → Ends f n tokens at r
stop_answers f n small tokens at next t u s over r after within t_is u_is runs stop a =
    let opens = token_at tokens.list next t within t_is in
    let here : u.place ≡ place_of (drop next tokens.list) tokens.end = sym (ap (λ l. place_of l tokens.end) (token_at tokens.list next u within u_is)) in
    answers f n small tokens at next u.place s over r after (omega arith) (sym runs ∙ run_stops f n s (drop next tokens.list) t (drop (suc next) tokens.list) opens stop.0) stop.1 here a

-- The parser stops before a token of its slice.
pub stop_ends : (f n : ℕ) → f ≤ 2 → (tokens : Tokens) (list : List Token) → list ≡ tokens.list → (at next : ℕ) (t u : Token) (s : State) (over : Option Expr) (r : Result (Expr × ℕ) Refusal) → at ≤ next → next < length list
    → t ≡ get_or list next t → u ≡ get_or list next u → run f n s (drop next list) ≡ run f n (Want []) (drop at list) → (step f n t s ≡ Stop) × (finish s ≡ over) → Answers over next u.place r → Ends f n tokens at r
stop_ends f n small tokens list is at next t u s over r after =
    let P : List Token → Type 0 = λ l. next < length l → t ≡ get_or l next t → u ≡ get_or l next u → run f n s (drop next l) ≡ run f n (Want []) (drop at l) → (step f n t s ≡ Stop) × (finish s ≡ over)
    → Answers over next u.place r → Ends f n tokens at r in
    subst P (sym is) (stop_answers f n small tokens at next t u s over r after)

end_answers : (f n : ℕ) → f ≤ 2 → (tokens : Tokens) (at next : ℕ) (s : State) (over : Option Expr) (r : Result (Expr × ℕ) Refusal) → at ≤ next → next ≤ length tokens.list → length tokens.list ≤ next
    → run f n s (drop next tokens.list) ≡ run f n (Want []) (drop at tokens.list) → over ≡ finish s → Answers over next tokens.end r → Ends f n tokens at r
end_answers f n small tokens at next s over r after within past runs fin a =
    let none_left : drop next tokens.list ≡ [] = drop_all next tokens.list past in
    let ends : run f n s (drop next tokens.list) ≡ record { state = s; rest = drop next tokens.list } = rw none_left refl in
    let here : tokens.end ≡ place_of (drop next tokens.list) tokens.end = rw none_left refl in
    answers f n small tokens at next tokens.end s over r after within (sym runs ∙ ends) (sym fin) here a

-- The parser has read its slice to the end.
pub end_ends : (f n : ℕ) → f ≤ 2 → (tokens : Tokens) (list : List Token) → list ≡ tokens.list → (at next : ℕ) (s : State) (over : Option Expr) (r : Result (Expr × ℕ) Refusal) → at ≤ next → next ≤ length list → length list ≤ next
    → run f n s (drop next list) ≡ run f n (Want []) (drop at list) → over ≡ finish s → Answers over next tokens.end r → Ends f n tokens at r
end_ends f n small tokens list is at next s over r after =
    let P : List Token → Type 0 = λ l. next ≤ length l → length l ≤ next → run f n s (drop next l) ≡ run f n (Want []) (drop at l) → over ≡ finish s → Answers over next tokens.end r → Ends f n tokens at r in
    subst P (sym is) (end_answers f n small tokens at next s over r after)

pub form_small : (f : ExprForm) → form_level f ≤ 2
form_small form.Expr = omega arith
form_small form.Assign = omega arith
form_small form.Cond = omega arith
