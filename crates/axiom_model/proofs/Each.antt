-- Tests of each action of an execution, and what holds of an action where they pass.
use Rattle.std.proofs.Common.{◌≡◌, ℕ, zero, suc, ◌+◌, List, [], ◌∷◌, Bool, true, false, ◌&&◌, Some, subst, arith, ⊎_elim}
use Rattle.std.specs.Prelude.{slice_get, nat_eq}
use Rattle.std.proofs.lemmas.Bool.{and_parts, eqb-true, cases_Bool, cond-true, cond-false}
use Rattle.axiom_model.specs.declared.Action.{Action}
use Rattle.axiom_model.specs.declared.Event.{Event}
use Rattle.axiom_model.specs.declared.Event.TheVariants.{Initial, At}
use Rattle.axiom_model.specs.Execution.{Thread, Execution, actions_of, action_at}

-- the test holds of each action, with its place
abbrev pub each_from : (ℕ → Action → Bool) → ℕ → List Action → Bool
each_from f i [] = true
each_from f i (a ∷ acts) = f i a && each_from f (i + 1) acts

each_from_at : (f : ℕ → Action → Bool) (i : ℕ) (acts : List Action) → each_from f i acts ≡ true → (k : ℕ) (a : Action) → slice_get acts k ≡ Some a → f (i + k) a ≡ true
each_from_at f i [] t k a h = cc
each_from_at f i (b ∷ acts) t zero a h =
    let here : f i b ≡ true = (and_parts _ _ t).0 in
    let same : b ≡ a = cc in
    let e : i ≡ i + 0 = omega arith in
    subst (λ n. f n a ≡ true) e (subst (λ c. f i c ≡ true) same here)
each_from_at f i (b ∷ acts) t (suc k) a h =
    let e : i + 1 + k ≡ i + suc k = omega arith in
    subst (λ n. f n a ≡ true) e (each_from_at f (i + 1) acts (and_parts _ _ t).1 k a h)

-- the test holds of each action of the threads, with its event
abbrev pub each : List Thread → (Event → Action → Bool) → Bool
each [] f = true
each (t ∷ ts) f = each_from (λ i a. f (At t.handle i) a) 0 t.actions && each ts f

each_at : (ts : List Thread) (f : Event → Action → Bool) → each ts f ≡ true → (h i : ℕ) (a : Action) → slice_get (actions_of ts h) i ≡ Some a → f (At h i) a ≡ true
each_at [] f t h i a e = cc
each_at (u ∷ ts) f t h i a e =
    let rest = λ (e' : slice_get (actions_of ts h) i ≡ Some a). each_at ts f (and_parts _ _ t).1 h i a e' in
    ⊎_elim here (there rest) (cases_Bool (nat_eq u.handle h))
  where
    here : nat_eq u.handle h ≡ true → f (At h i) a ≡ true
    here b =
        let e' : slice_get u.actions i ≡ Some a = subst (λ l. slice_get l i ≡ Some a) (cond-true (nat_eq u.handle h) u.actions (actions_of ts h) b) e in
        let r = each_from_at (λ j c. f (At u.handle j) c) 0 u.actions (and_parts _ _ t).0 i a e' in
        let z : 0 + i ≡ i = omega arith in
        subst (λ n. f (At n i) a ≡ true) (eqb-true u.handle h b) (subst (λ n. f (At u.handle n) a ≡ true) z r)

    there : (slice_get (actions_of ts h) i ≡ Some a → f (At h i) a ≡ true) → nat_eq u.handle h ≡ false → f (At h i) a ≡ true
    there rest b =
        let e' : slice_get (actions_of ts h) i ≡ Some a = subst (λ l. slice_get l i ≡ Some a) (cond-false (nat_eq u.handle h) u.actions (actions_of ts h) b) e in
        rest e'

-- a test that holds of each action holds of an event's action
pub each_event : (x : Execution) (f : Event → Action → Bool) → each x.threads f ≡ true → (e : Event) (a : Action) → action_at x e ≡ Some a → f e a ≡ true
each_event x f t Initial a h = cc
each_event x f t (At k i) a h = each_at x.threads f t k i a h
