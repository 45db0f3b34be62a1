-- What stands in a list that was joined from parts.
use Rattle.std.proofs.Common.{◌≡◌, ℕ, zero, suc, ◌+◌, ◌⊎◌, List, [], ◌∷◌, ◌++◌, Bool, true, false, cond, length, Some, refl, ⊎_elim, inl, inr}
use Rattle.std.specs.Prelude.{slice_get}
use Rattle.std.proofs.lemmas.Option.{none-some, same_Some}
use Rattle.dg_base.proofs.Lists.{get_append_left, get_append_cases}
use Rattle.axiom_model.proofs.Places.{place_right}
use Rattle.consistency.specs.Edges.{one}

-- the element stands in the list
abbrev pub Has : {X : Type 0} → List X → X → Type 0
Has l x = (k : ℕ) × (slice_get l k ≡ Some x)

pub has_left : {X : Type 0} (l m : List X) (x : X) → Has l x → Has (l ++ m) x
has_left l m x h = (h.0, get_append_left l m h.0 x h.1)

pub has_right : {X : Type 0} (l m : List X) (x : X) → Has m x → Has (l ++ m) x
has_right l m x h = (length l + h.0, place_right l m (length l + h.0) h.0 x refl h.1)

pub has_cases : {X : Type 0} (l m : List X) (x : X) → Has (l ++ m) x → Has l x ⊎ Has m x
has_cases l m x h = ⊎_elim (λ e. inl (h.0, e)) (λ p. inr (p.0, p.2)) (get_append_cases l m h.0 x h.1)

pub has_none : {X : Type 0} (x : X) → Has [] x → ⊥
has_none x h = none-some x h.1

single : {X : Type 0} (x y : X) (k : ℕ) → slice_get (x ∷ []) k ≡ Some y → x ≡ y
single x y zero e = same_Some x y e
single x y (suc k) e = absurd (none-some y e)

pub has_one : {X : Type 0} (b : Bool) (x : X) → b ≡ true → Has (one b x) x
has_one true x e = (0, refl)
has_one false x e = cc

pub one_has : {X : Type 0} (b : Bool) (x y : X) → Has (one b x) y → (b ≡ true) × (x ≡ y)
one_has true x y h = (refl, single x y h.0 h.1)
one_has false x y h = absurd (has_none y h)

pub cond_has : {X : Type 0} (b : Bool) (l : List X) (x : X) → Has (cond b [] l) x → Has l x
cond_has true l x h = absurd (has_none x h)
cond_has false l x h = h

pub where_has : {X : Type 0} (b : Bool) (l : List X) (x : X) → Has (cond b l []) x → Has l x
where_has true l x h = h
where_has false l x h = absurd (has_none x h)

pub has_where : {X : Type 0} (b : Bool) (l : List X) (x : X) → b ≡ true → Has l x → Has (cond b l []) x
has_where true l x e h = h
has_where false l x e h = cc

pub has_cond : {X : Type 0} (b : Bool) (l : List X) (x : X) → b ≡ false → Has l x → Has (cond b [] l) x
has_cond true l x e h = cc
has_cond false l x e h = h
