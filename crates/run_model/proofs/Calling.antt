-- A call where calls may stand one deep or more.
use Rattle.std.proofs.Common.{◌≡◌, ℕ, zero, suc, ◌-◌, List, Some, Bool, false, ap, ◌∙◌, refl, arith, subst}
use Rattle.std.specs.Prelude.{slice_get, cond, Option, Result}
use Rattle.c_tree.specs.declared.program.Function.{Function}
use Rattle.run_model.specs.declared.state.Stop.{Stop}
use Rattle.run_model.specs.Steps.{State, Outcome}
use Rattle.run_model.specs.Calls.{Setting, Context}
use Rattle.run_model.specs.Threads.{call_within, call_body, run_body, in_section, is_atomic, with_function, context_within}
use Rattle.run_model.specs.Running.{Gives}

pub call_again : (n : ℕ) (g : Setting) (f : ℕ) (args : List ℕ) (s : State) → (n ≡ 0 → ⊥) → with_function (slice_get g.functions f) (λ h. call_body (context_within (n - 1) g) h args) s ≡ call_within n g f args s
call_again zero g f args s h = absurd (h refl)
call_again (suc n) g f args s h = let e : suc n - 1 ≡ n = omega arith in ap (λ m. with_function (slice_get g.functions f) (λ h. call_body (context_within m g) h args) s) e

-- what the body of the function gives, the call gives
pub call_found :
    (r : Result ℕ Stop) (t : State) (n : ℕ) (g : Setting) (f : ℕ) (h : Function) (args : List ℕ) (s : State) →
    Some h ≡ slice_get g.functions f → (n ≡ 0 → ⊥) → Gives r t (call_body (context_within (n - 1) g) h args s) → Gives r t (call_within n g f args s)
call_found r t n g f h args s found some gives =
    let same : call_body (context_within (n - 1) g) h args s ≡ call_within n g f args s =
    ap (λ (o : Option Function). with_function o (λ k. call_body (context_within (n - 1) g) k args) s) found ∙ call_again n g f args s some
    in subst (λ (o : Outcome ℕ). Gives r t o) same gives

-- a call of a function that is no section is its body
pub call_plain : (r : Result ℕ Stop) (t : State) (cx : Context) (f : Function) (args : List ℕ) (s : State) → false ≡ is_atomic f → Gives r t (run_body cx f args s) → Gives r t (call_body cx f args s)
call_plain r t cx f args s plain gives =
    subst (λ (b : Bool). Gives r t (cond b (in_section (run_body cx f args)) (run_body cx f args) s)) plain gives
