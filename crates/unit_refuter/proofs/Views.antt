-- Whether a clause that is false is known.
use Rattle.std.proofs.Common.{◌≡◌, ℕ, false, true, Option, Some, None, refl, subst}
use Rattle.std.specs.Prelude.{IfNone, IfSome, is_some, option_map}
use Rattle.trail_state.specs.declared.reasons.ClauseId.{ClauseId}

pub view_none : (o : Option ClauseId) → is_some o ≡ false → option_map (λ (id : ClauseId). id.0) o ≡ None
view_none None h = refl
view_none (Some id) h = absurd cc

pub view_some : (o : Option ClauseId) → is_some o ≡ true → option_map (λ (id : ClauseId). id.0) o ≡ None → ⊥
view_some None h none = cc
view_some (Some id) h none = cc

-- what an answer says where it names no clause, and where it names one
pub rest_from : {A B C : Type 0} (o : Option ClauseId) → IfNone o A → IfNone o B → IfNone o C → option_map (λ (id : ClauseId). id.0) o ≡ None → A × B × C
rest_from None a b c h = (a, b, c)
rest_from (Some id) a b c h = absurd cc

pub some_from : (Q : ℕ → Type 0) (o : Option ClauseId) → IfSome o (λ (id : ClauseId). Q id.0) → (n : ℕ) → option_map (λ (id : ClauseId). id.0) o ≡ Some n → Q n
some_from Q None q n h = absurd cc
some_from Q (Some id) q n h = let e : id.0 ≡ n = cc in subst Q e q
