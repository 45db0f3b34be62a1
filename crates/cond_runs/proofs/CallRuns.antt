-- What calls on condition variables become does what their rows do.
use Rattle.std.proofs.Common.{◌≡◌, ◌∙◌, ℕ, [], ◌∷◌, refl, ap, sym, subst}
use Rattle.std.specs.Prelude.{None, codes}
use Rattle.dg_base.specs.declared.Place.{Place}
use Rattle.c_tree.specs.declared.expr.Expr.{Expr, fold-roll-Expr}
use Rattle.c_tree.specs.declared.expr.Expr.TheVariants as e
use Rattle.c_tree.specs.declared.expr.Expr.TheOpen.{Expr-F}
use Rattle.c_rules.specs.Names.{Name}
use Rattle.run_model.specs.declared.state.Slot.{Slot}
use Rattle.run_model.specs.Steps.{State, Outcome, Goes, Halts, Step, ◌>>=◌, ◌>>◌, pure, go_on}
use Rattle.run_model.specs.Calls.{Meaning, Context, function_named, lock_cell, unlock_cell}
use Rattle.run_model.specs.Meaning.{meaning, expr_step, call, eval}
use Rattle.cond_lower.specs.declared.calls.CondCall.TheVariants as cond_call
use Rattle.cond_lower.specs.declared.fault.Wakeups.TheVariants.{Any, Signalled}
use Rattle.cond_lower.specs.Lowering.{comma, call_of, nought, unlock, lock, left, woken, enter, take, signal, broadcast, init}
use Rattle.cond_runs.specs.Rows.{enters, takes, signals, broadcasts, inits}
use Rattle.cond_runs.specs.Sections.{SeenAlike, CalledAs, CallsAreRows}
use Rattle.cond_runs.proofs.SectionRuns.{alike_refl, nought_means}

then_alike : {A B : Type 0} (o q : Outcome A) (f g : A → Step B) → SeenAlike o q → ((a : A) (s : State) → SeenAlike (f a s) (g a s)) → SeenAlike (go_on o f) (go_on q g)
then_alike (Goes a s) (Goes b t) f g h k =
    subst (λ (c : _). SeenAlike (f a s) (g c t)) h.0 (subst (λ (z : State). SeenAlike (f a s) (g a z)) h.1 (k a s))
then_alike (Halts a s) (Halts b t) f g h k = h
then_alike (Goes a s) (Halts b t) f g h k = absurd h
then_alike (Halts a s) (Goes b t) f g h k = absurd h

then_then : {A B C : Type 0} (o : Outcome A) (f : A → Step B) (g : B → Step C) → go_on (go_on o f) g ≡ go_on o (λ a s. go_on (f a s) g)
then_then (Goes a s) f g = refl
then_then (Halts h s) f g = refl

abbrev nought_step : Step ℕ
nought_step = pure 0

-- a lock or an unlock as an expression
abbrev valued : Step Slot → (Slot → Step (Unit {0})) → Step ℕ
valued find m = find >>= (λ c. m c >> nought_step)

module _ (cx : Context) where
  comma_means : (p : Place) (x y : Expr) → eval cx (comma p x y) ≡ eval cx x >> eval cx y
  comma_means p x y = ap (eval cx) (sym (e.rolls-Comma p x y)) ∙ ap (λ (m : Meaning). m.run) (fold-roll-Expr Meaning (expr_step cx) (Expr-F.Comma p x y))

  call_means : (p : Place) (n : Name) → eval cx (call_of p n []) ≡ call cx p n [] (function_named cx.setting n)
  call_means p n = ap (eval cx) (sym (e.rolls-Call p n [])) ∙ ap (λ (m : Meaning). m.run) (fold-roll-Expr Meaning (expr_step cx) (Expr-F.Call p n []))

  unlock_means : (p : Place) (m : Expr) → function_named cx.setting (codes "pthread_mutex_unlock") ≡ None → eval cx (unlock p m) ≡ valued (meaning cx m).find unlock_cell
  unlock_means p m free =
      ap (eval cx) (sym (e.rolls-Call p (codes "pthread_mutex_unlock") (m ∷ [])))
      ∙ ap (λ (x : Meaning). x.run) (fold-roll-Expr Meaning (expr_step cx) (Expr-F.Call p (codes "pthread_mutex_unlock") (m ∷ [])))
      ∙ ap (call cx p (codes "pthread_mutex_unlock") (meaning cx m ∷ [])) free

  lock_means : (p : Place) (m : Expr) → function_named cx.setting (codes "pthread_mutex_lock") ≡ None → eval cx (lock p m) ≡ valued (meaning cx m).find lock_cell
  lock_means p m free =
      ap (eval cx) (sym (e.rolls-Call p (codes "pthread_mutex_lock") (m ∷ [])))
      ∙ ap (λ (x : Meaning). x.run) (fold-roll-Expr Meaning (expr_step cx) (Expr-F.Call p (codes "pthread_mutex_lock") (m ∷ [])))
      ∙ ap (call cx p (codes "pthread_mutex_lock") (meaning cx m ∷ [])) free

  section_alike : (p : Place) (n : Name) (m : Step (Unit {0})) → CalledAs cx n m → (s : State) → SeenAlike (eval cx (call_of p n []) s) ((m >> nought_step) s)
  section_alike p n m h s =
      subst (λ (r : Step ℕ). SeenAlike (r s) ((m >> nought_step) s)) (sym (call_means p n ∙ ap (call cx p n []) h.named)) (h.alike s)

nought_alike : (cx : Context) (p : Place) (s : State) → SeenAlike (eval cx (nought p) s) (nought_step s)
nought_alike cx p s = subst (λ (m : Meaning). SeenAlike (m.run s) (nought_step s)) (sym (nought_means cx p)) (refl, refl)

-- a wait whose steps each give 0 is one that gives 0 at its end
free_chain : (find : Step Slot) (u l : Slot → Step (Unit {0})) (s : State)
    → (valued find u >> valued find l) s ≡ (((find >>= u) >> (find >>= l)) >> nought_step) s
free_chain find u l s = simp then_then

chain : (f g : Step (Unit {0})) (find : Step Slot) (u l : Slot → Step (Unit {0})) (s : State)
    → ((((f >> nought_step) >> valued find u) >> (g >> nought_step)) >> valued find l) s
    ≡ ((f >>= (λ a. (find >>= u) >>= (λ b. g >>= (λ c. find >>= l)))) >> nought_step) s
chain f g find u l s = simp then_then

pub calls_are_rows : CallsAreRows
calls_are_rows Any cx p cond_call.Wait c m w t h s =
    let same : eval cx (comma p (unlock p m) (lock p m)) ≡ (valued (meaning cx m).find unlock_cell >> valued (meaning cx m).find lock_cell) =
    comma_means cx p (unlock p m) (lock p m) ∙ ap (λ (x : Step ℕ). x >> eval cx (lock p m)) (unlock_means cx p m h.no_unlock) ∙ ap (λ (x : Step ℕ). valued (meaning cx m).find unlock_cell >> x) (lock_means cx p m h.no_lock) in
    subst (λ (r : Outcome ℕ). SeenAlike r ((((meaning cx m).find >>= unlock_cell) >> ((meaning cx m).find >>= lock_cell) >> nought_step) s))
    (sym (ap (λ (x : Step ℕ). x s) same ∙ free_chain (meaning cx m).find unlock_cell lock_cell s)) (alike_refl _)
calls_are_rows Any cx p cond_call.Signal c m w t h s = nought_alike cx p s
calls_are_rows Any cx p cond_call.Broadcast c m w t h s = nought_alike cx p s
calls_are_rows Any cx p cond_call.Init c m w t h s = nought_alike cx p s
calls_are_rows Any cx p cond_call.Destroy c m w t h s = nought_alike cx p s
calls_are_rows Signalled cx p cond_call.Destroy c m w t h s = nought_alike cx p s
calls_are_rows Signalled cx p cond_call.Signal c m w t h s = section_alike cx p (signal c) (signals w t) h.signals_one s
calls_are_rows Signalled cx p cond_call.Broadcast c m w t h s = section_alike cx p (broadcast c) (broadcasts w t) h.broadcasts_all s
calls_are_rows Signalled cx p cond_call.Init c m w t h s = section_alike cx p (init c) (inits w t) h.begins_anew s
calls_are_rows Signalled cx p cond_call.Wait c m w t h s =
    let same : eval cx (comma p (woken p c m) (lock p m)) ≡ (((eval cx (call_of p (enter c) []) >> valued (meaning cx m).find unlock_cell) >> eval cx (call_of p (take c) [])) >> valued (meaning cx m).find lock_cell) =
    comma_means cx p (woken p c m) (lock p m)
    ∙ ap (λ (x : Step ℕ). eval cx (woken p c m) >> x) (lock_means cx p m h.no_lock)
    ∙ ap (λ (x : Step ℕ). x >> valued (meaning cx m).find lock_cell)
    (comma_means cx p (left p c m) (call_of p (take c) [])
    ∙ ap (λ (x : Step ℕ). x >> eval cx (call_of p (take c) []))
    (comma_means cx p (call_of p (enter c) []) (unlock p m) ∙ ap (λ (x : Step ℕ). eval cx (call_of p (enter c) []) >> x) (unlock_means cx p m h.no_unlock))) in
    let seen : SeenAlike ((((eval cx (call_of p (enter c) []) >> valued (meaning cx m).find unlock_cell) >> eval cx (call_of p (take c) [])) >> valued (meaning cx m).find lock_cell) s)
    (((((enters w >> nought_step) >> valued (meaning cx m).find unlock_cell) >> (takes t >> nought_step)) >> valued (meaning cx m).find lock_cell) s) =
    then_alike _ _ _ _
    (then_alike _ _ _ _
    (then_alike _ _ _ _ (section_alike cx p (enter c) (enters w) h.enters_one s) (λ a z. alike_refl _))
    (λ a z. section_alike cx p (take c) (takes t) h.takes_one z))
    (λ a z. alike_refl _) in
    subst (λ (r : Outcome ℕ). SeenAlike r (((enters w >>= (λ a. ((meaning cx m).find >>= unlock_cell) >>= (λ b. takes t >>= (λ d. (meaning cx m).find >>= lock_cell)))) >> nought_step) s))
    (sym (ap (λ (x : Step ℕ). x s) same))
    (subst (λ (r : Outcome ℕ). SeenAlike ((((eval cx (call_of p (enter c) []) >> valued (meaning cx m).find unlock_cell) >> eval cx (call_of p (take c) [])) >> valued (meaning cx m).find lock_cell) s) r)
    (chain (enters w) (takes t) (meaning cx m).find unlock_cell lock_cell s) seen)
