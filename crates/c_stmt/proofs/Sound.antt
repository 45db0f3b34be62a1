-- What completes a state completes the tokens that led to it.
use Rattle.std.proofs.Common.{◌≡◌, ℕ, ◌-◌, ◌≤◌, List, [], ◌∷◌, ◌++◌, Some, None, refl, sym, ap, ◌∙◌, subst, append_assoc}
use Rattle.std.proofs.lemmas.List.{append-nil}
use Rattle.token_list.specs.declared.Token.{Token}
use Rattle.c_tree.specs.declared.program.Program.{Program}
use Rattle.c_expr.specs.Words.{word_of}
use Rattle.c_stmt.specs.declared.state.Position.TheVariants as at
use Rattle.c_stmt.specs.Programs.{ReadsItems, no_item, ReadsProgram}
use Rattle.c_stmt.specs.Machine.{State, At, Go, step, finish}
use Rattle.c_stmt.proofs.Wanting.{Leads, Fit}
use Rattle.c_stmt.proofs.Goods.{Lands, Asked, Good}
use Rattle.c_stmt.proofs.Inside.{step_good}
use Rattle.c_stmt.proofs.Paths.{Path, stay, token, expression}

abbrev pub LeadsOn : Program → ℕ → State → List Token → Type 0
LeadsOn g n (At xs s position) us = Leads xs g n s position us

abbrev pub FitOn : ℕ → State → Type 0
FitOn n (At xs s position) = Fit n s position

pub record Led (n : ℕ) (s : State) (ts : List Token) (u : State) : Type 0 where
  pub room : ℕ
  pub fits : FitOn room u
  pub leads : (g : Program) (us : List Token) → LeadsOn g room u us → LeadsOn g n s (ts ++ us)

pub good_step : (n : ℕ) (s : State) (t : Token) → FitOn n s → Good (λ g us. LeadsOn g n s us) t (step t s)
good_step n (At xs s position) t h = step_good xs n s position t (word_of t) h refl

landed : (Q : Program → List Token → Type 0) (u : State) → Lands Q (Go u) → (m : ℕ) × FitOn m u × ((g : Program) (us : List Token) → LeadsOn g m u us → Q g us)
landed Q (At xs s position) k = k

pub led : {s u : State} {ts : List Token} (n : ℕ) → FitOn n s → Path s ts u → Led n s ts u
led n h stay = record { room = n; fits = h; leads = λ g us k. k }
led n h (token {s = s} {r = r} {t = t} {ts = ts} is p) =
    let k = landed (λ g us. LeadsOn g n s (t ∷ us)) r (subst (Good (λ g us. LeadsOn g n s us) t) is (good_step n s t h)) in
    let m = led k.0 k.1 p in
    record { room = m.room; fits = m.fits; leads = λ g us l. k.2 g (ts ++ us) (m.leads g us l) }
led n h (expression {s = s} {m = m} {r = r} {f = f} {above = b} {t = t} {a = a} {ts = ts} {x = x} c is reads closer goes p) =
    let good : (b ≤ 200) × Asked (λ g us. LeadsOn g n s us) t m f (200 - b) = subst (Good (λ g us. LeadsOn g n s us) t) is (good_step n s t h) in
    let asked = good.1 in
    let k = landed (λ g us. LeadsOn g n s (t ∷ (a ++ c ∷ us))) r (subst (Lands (λ g us. LeadsOn g n s (t ∷ (a ++ c ∷ us)))) goes (asked.lands a x reads c)) in
    let q = led k.0 k.1 p in
    record { room = q.room; fits = q.fits; leads = λ g us l. subst (LeadsOn g n s) (ap (λ l. t ∷ l) (sym (append_assoc a (c ∷ ts) us))) (k.2 g (ts ++ us) (q.leads g us l)) }

-- a state with which the parser may end wants no more
finish_leads : {g : Program} (n : ℕ) (u : State) → finish u ≡ Some g → LeadsOn g n u []
finish_leads {g = g} n (At xs s at.Top) is = let same : record { items = xs } ≡ g = cc in ([], no_item, sym (ap (λ (p : Program). p.items) same) ∙ sym (append-nil xs))
finish_leads {g = g} n (At xs s _) is = let bad : None ≡ Some g = is in cc

-- what is read to such a state is a program
pub accepted : {g : Program} {u : State} {ts : List Token} → Path (At [] [] at.Top) ts u → finish u ≡ Some g → ReadsProgram ts g
accepted {g = g} {u = u} {ts = ts} p is =
    let m = led 200 refl p in
    let k = m.leads g [] (finish_leads m.room u is) in
    subst (λ l. ReadsItems 200 l g.items) (append-nil ts) (subst (ReadsItems 200 (ts ++ [])) (sym k.2) k.1)
