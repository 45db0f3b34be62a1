-- A call where calls may stand one deep or more.
use Rattle.std.proofs.Common.{◌≡◌, ℕ, zero, suc, ◌-◌, List, Some, Bool, false, ap, ◌∙◌, refl, arith, subst}
use Rattle.std.specs.Prelude.{slice_get, cond, Option, Result}
use Rattle.dg_base.specs.declared.want.OutOfMemory.{OutOfMemory}
use Rattle.c_tree.specs.declared.program.Function.{Function}
use Rattle.run_model.specs.Calls.{Setting}
use Rattle.run_model.specs.Threads.{is_atomic}
use Rattle.emit_steps.specs.Emitting.{Emitted, Emit, Emits}
use Rattle.emit_steps.specs.Calling.{call_body, in_section, with_function}
use Rattle.loop_unroll.specs.Stating.{call_within, context_within, run_body}

-- what is emitted for a call of a function, where calls may stand so deep in it
abbrev pub called : ℕ → Setting → List ℕ → ℕ → Function → Emit ℕ
called n s args g h = call_body h g (run_body (context_within n s) h args g)

pub call_again : (n : ℕ) (s : Setting) (f : ℕ) (args : List ℕ) (g : ℕ) (e : Emitted) → (n ≡ 0 → ⊥) → with_function (slice_get s.functions f) g (called (n - 1) s args g) e ≡ call_within n s f args g e
call_again zero s f args g e h = absurd (h refl)
call_again (suc n) s f args g e h = let same : suc n - 1 ≡ n = omega arith in ap (λ m. with_function (slice_get s.functions f) g (called m s args g) e) same

-- what the body of the function gives, the call gives
pub call_found :
    (r : Result ℕ OutOfMemory) (t : Emitted) (n : ℕ) (s : Setting) (f : ℕ) (h : Function) (args : List ℕ) (g : ℕ) (e : Emitted) →
    Some h ≡ slice_get s.functions f → (n ≡ 0 → ⊥) → Emits r t (called (n - 1) s args g h e) → Emits r t (call_within n s f args g e)
call_found r t n s f h args g e found some gives =
    let same : called (n - 1) s args g h e ≡ call_within n s f args g e =
    ap (λ (o : Option Function). with_function o g (called (n - 1) s args g) e) found ∙ call_again n s f args g e some
    in subst (λ (o : ℕ × Emitted). Emits r t o) same gives

-- a call of a function that is no section is its body
pub call_plain : (r : Result ℕ OutOfMemory) (t : Emitted) (f : Function) (g : ℕ) (m : Emit ℕ) (e : Emitted) → false ≡ is_atomic f → Emits r t (m e) → Emits r t (call_body f g m e)
call_plain r t f g m e plain gives = subst (λ (b : Bool). Emits r t (cond b (in_section g m) m e)) plain gives
