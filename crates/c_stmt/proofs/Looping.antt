-- The loop of the parser: what each way through it says, by numbers in the list.
use Rattle.std.proofs.Common.{◌≡◌, ℕ, suc, ◌+◌, ◌-◌, ◌≤◌, ◌<◌, List, [], ◌∷◌, length, reverse, drop, get_or, drop-cons, Some, None, refl, sym, ap, ◌∙◌, subst, inl, inr, arith}
use Rattle.std.proofs.lemmas.List.{drop_all}
use Rattle.dg_base.specs.declared.refusal.Refusal.{Refusal}
use Rattle.dg_base.specs.declared.refusal.Refusal.TheVariants as refusal
use Rattle.dg_base.specs.declared.refusal.Refusal.TheVariants.{Syntax}
use Rattle.token_list.specs.declared.Token.{Token}
use Rattle.token_list.specs.declared.Tokens.{Tokens}
use Rattle.c_tree.specs.declared.expr.Expr.{Expr}
use Rattle.c_tree.specs.declared.program.Item.{Item}
use Rattle.c_tree.specs.declared.program.Program.{Program}
use Rattle.c_expr.specs.declared.form.ExprForm.{ExprForm}
use Rattle.c_expr.specs.Parser.{form_level, Finds}
use Rattle.c_expr.specs.Parser as expr
use Rattle.c_stmt.specs.declared.state.Frame.{Frame}
use Rattle.c_stmt.specs.declared.state.Position.{Position}
use Rattle.c_stmt.specs.declared.state.Position.TheVariants as at
use Rattle.c_stmt.specs.declared.state.Read.{Read}
use Rattle.c_stmt.specs.declared.state.Stepped.{Stepped}
use Rattle.c_stmt.specs.declared.state.Stepped.TheVariants as stepped
use Rattle.c_stmt.specs.Programs.{ReadsProgram, HasCause}
use Rattle.c_stmt.specs.Machine.{State, At, Move, Go, Ask, Stop, step, shut, finish, seen, StepGives, EndsBefore}
use Rattle.c_stmt.proofs.Answering.{Reached, reached_start, reached_token, reached_expression, found_end, cause_end, cause_stop, cause_refused, cause_open, cause_shut, asked_fits}

-- a token of a list, and the tokens from it on
token_at : (list : List Token) (next : ℕ) (t : Token) → next < length list → t ≡ get_or list next t → drop next list ≡ t ∷ drop (suc next) list
token_at list next t lt is = drop-cons list next t lt ∙ ap (λ u. u ∷ drop (suc next) list) (sym is)

same_token : (list : List Token) (next : ℕ) (t u : Token) → next < length list → t ≡ get_or list next t → u ≡ get_or list next u → t ≡ u
same_token list next t u lt a b = let both : t ∷ drop (suc next) list ≡ u ∷ drop (suc next) list = sym (token_at list next t lt a) ∙ token_at list next u lt b in cc

pub loop_starts : (list : List Token) (xs : List Item) (s : List Frame) → xs ≡ [] → s ≡ [] → Reached list 0 (At xs (reverse s) at.Top)
loop_starts list xs s a b = subst (λ l. Reached list 0 (At l (reverse s) at.Top)) (sym a) (subst (λ l. Reached list 0 (At [] (reverse l) at.Top)) (sym b) (reached_start list))

-- a token is read
pub loop_token : (list : List Token) (next : ℕ) (t : Token) (u r : State) → next < length list → t ≡ get_or list next t → step t u ≡ Go r → Reached list next u → Reached list (next + 1) r
loop_token list next t u r lt here goes h = subst (λ k. Reached list k r) (omega arith) (reached_token t (suc next) (token_at list next t lt here) goes h)

-- an expression and the token behind it are read
pub loop_expression : (tokens : Tokens) (list : List Token) (next end : ℕ) (t t' c : Token) (u m r : State) (f : ExprForm) (above : ℕ) (x : Expr) → list ≡ tokens.list → next < length list → t ≡ get_or list next t → t' ≡ get_or list next t' → end < length list
    → c ≡ get_or list end c → step t u ≡ Ask m f above → Finds (form_level f) (200 - above) tokens next x end → shut c t'.place x m ≡ Go r → Reached list next u → Reached list (end + 1) r
loop_expression tokens list next end t t' c u m r f above x is lt here here' lt' there asks found goes h =
    let found' : Finds (form_level f) (200 - above) (record { list = list; end = tokens.end }) next x end = subst (λ l. Finds (form_level f) (200 - above) (record { list = l; end = tokens.end }) next x end) (sym is) found in
    let goes' : shut c t.place x m ≡ Go r = subst (λ z. shut c z.place x m ≡ Go r) (sym (same_token list next t t' lt here here')) goes in
    subst (λ k. Reached list k r) (omega arith) (reached_expression t c (drop (suc next) list) end (suc end) (token_at list next t lt here) asks found'.2 (token_at list end c lt' there) goes' h)

-- the end, where a program is read
pub loop_found : (tokens : Tokens) (list : List Token) (next : ℕ) (u : State) (g : Program) → list ≡ tokens.list → length list ≤ next → finish u ≡ Some g → Reached list next u → ReadsProgram tokens.list g
loop_found tokens list next u g is past done h = subst (λ l. ReadsProgram l g) is (found_end done (drop_all next list past) h)

-- the refusals
pub loop_end : (tokens : Tokens) (list : List Token) (next : ℕ) (u : State) (e : Refusal) → list ≡ tokens.list → length list ≤ next → (e ≡ Syntax tokens.end) × (finish u ≡ None) → Reached list next u → HasCause tokens e
loop_end tokens list next u e is past h r = subst (HasCause tokens) (sym h.0) (cause_end tokens h.1 (ap (drop next) (sym is) ∙ drop_all next list past) (subst (λ l. Reached l next u) is r))

pub loop_stop : (tokens : Tokens) (list : List Token) (next : ℕ) (t t' : Token) (u : State) → list ≡ tokens.list → next < length list → t ≡ get_or list next t → t' ≡ get_or list next t' → step t u ≡ Stop → Reached list next u → HasCause tokens (Syntax t'.place)
loop_stop tokens list next t t' u is lt here here' stop h =
    subst (λ (z : Token). HasCause tokens (Syntax z.place)) (same_token list next t t' lt here here') (cause_stop tokens t (drop (suc next) list) (ap (drop next) (sym is) ∙ token_at list next t lt here) stop (subst (λ l. Reached l next u) is h))

loop_refused : (tokens : Tokens) (list : List Token) (next : ℕ) (t : Token) (u m : State) (f : ExprForm) (above : ℕ) (e : Refusal) → list ≡ tokens.list → next < length list → t ≡ get_or list next t → step t u ≡ Ask m f above
    → expr.HasCause (form_level f) (200 - above) tokens next e → Reached list next u → HasCause tokens e
loop_refused tokens list next t u m f above (Syntax place) is lt here asks k h =
    subst (λ p. HasCause tokens (Syntax p)) (sym k.4) (cause_refused tokens t (drop (suc next) list) (drop k.0 tokens.list) (ap (drop next) (sym is) ∙ token_at list next t lt here) asks k.3 (subst (λ l. Reached l next u) is h))
loop_refused tokens list next t u m f above refusal.OutOfMemory is lt here asks k h = tt
loop_refused tokens list next t u m f above _ is lt here asks k h = absurd k

loop_open : (tokens : Tokens) (list : List Token) (next end : ℕ) (t : Token) (u m : State) (f : ExprForm) (above : ℕ) (x : Expr) → list ≡ tokens.list → next < length list → t ≡ get_or list next t → step t u ≡ Ask m f above
    → Finds (form_level f) (200 - above) tokens next x end → length list ≤ end → Reached list next u → HasCause tokens (Syntax tokens.end)
loop_open tokens list next end t u m f above x is lt here asks found past h =
    cause_open tokens t (drop (suc next) list) (drop end tokens.list) (ap (drop next) (sym is) ∙ token_at list next t lt here) asks found.2 (ap (drop end) (sym is) ∙ drop_all end list past) (subst (λ l. Reached l next u) is h)

pub loop_shut : (tokens : Tokens) (list : List Token) (next end : ℕ) (t t' c c' : Token) (u m : State) (f : ExprForm) (above : ℕ) (x : Expr) → list ≡ tokens.list → next < length list → t ≡ get_or list next t → t' ≡ get_or list next t' → end < length list
    → c ≡ get_or list end c → c' ≡ get_or list end c' → step t u ≡ Ask m f above → Finds (form_level f) (200 - above) tokens next x end → ((r : State) → shut c t'.place x m ≡ Go r → ⊥) → Reached list next u → HasCause tokens (Syntax c'.place)
loop_shut tokens list next end t t' c c' u m f above x is lt here here' lt' there there' asks found bad h =
    subst (λ (z : Token). HasCause tokens (Syntax z.place)) (same_token list end c c' lt' there there')
    (cause_shut tokens t c (drop (suc next) list) (drop end tokens.list) (drop (suc end) list) (ap (drop next) (sym is) ∙ token_at list next t lt here) asks found.2 (ap (drop end) (sym is) ∙ token_at list end c lt' there)
    (λ r goes. bad r (subst (λ z. shut c z.place x m ≡ Go r) (same_token list next t t' lt here here') goes)) (subst (λ l. Reached l next u) is h))

pub loop_ends : (tokens : Tokens) (list : List Token) (next : ℕ) (t : Token) (u m : State) (f : ExprForm) (above : ℕ) (e : Refusal) → list ≡ tokens.list → next < length list → t ≡ get_or list next t → step t u ≡ Ask m f above
    → EndsBefore (form_level f) (200 - above) tokens next e → Reached list next u → HasCause tokens e
loop_ends tokens list next t u m f above e is lt here asks (inl k) h = loop_refused tokens list next t u m f above e is lt here asks k h
loop_ends tokens list next t u m f above e is lt here asks (inr k) h =
    subst (HasCause tokens) (sym k.4) (loop_open tokens list next k.1 t u m f above k.0 is lt here asks k.2 (subst (λ l. length l ≤ k.1) (sym is) k.3) h)

-- what is not read is not gone on from
pub not_gone : (r : Stepped) (read : Read) (move : Move) → ((position : Position) → r ≡ stepped.Go position → ⊥) → StepGives r read move → (next : State) → move ≡ Go next → ⊥
not_gone (stepped.Go position) read move h is next goes = h position refl
not_gone (stepped.Ask position f above) read move h is next goes = let bad : Go next ≡ Ask _ f above = sym goes ∙ is in cc
not_gone stepped.Stop read move h is next goes = let bad : Go next ≡ Stop = sym goes ∙ is in cc

-- what is read is gone on from
pub gone_on : (r : Stepped) (read : Read) (move : Move) (position : Position) → r ≡ stepped.Go position → StepGives r read move → move ≡ Go (seen position read)
gone_on r read move position is h = subst (λ s. StepGives s read move) is h

-- what is refused stops
pub stopped_at : (r : Stepped) (read : Read) (move : Move) → r ≡ stepped.Stop → StepGives r read move → move ≡ Stop
stopped_at r read move is h = subst (λ s. StepGives s read move) is h

-- what asks for an expression
pub asked_for : (r : Stepped) (read : Read) (move : Move) (position : Position) (f : ExprForm) (above : ℕ) → r ≡ stepped.Ask position f above → StepGives r read move → move ≡ Ask (seen position read) f above
asked_for r read move position f above is h = subst (λ s. StepGives s read move) is h

-- an expression is asked for where it fits
pub loop_fits : (list : List Token) (next : ℕ) (t : Token) (u m : State) (f : ExprForm) (above : ℕ) → step t u ≡ Ask m f above → Reached list next u → above ≤ 200
loop_fits list next t u m f above is h = asked_fits t h.path is
