-- Ways, and lists of edges that grow.
use Rattle.std.proofs.Common.{◌≡◌, ℕ, inl, inr, Bool, List, [], ◌∷◌, sym, subst}
use Rattle.std.specs.Prelude.{Contains}
use Rattle.dg_base.proofs.Lists.{contains_nothing, contains_cases}
use Rattle.cnf_problem.specs.declared.problem.Graph.{Graph}
use Rattle.cnf_problem.specs.declared.problem.Edge.{Edge}
use Rattle.cnf_problem.specs.Edges.{Path, last, then}
use Rattle.memory_models.specs.declared.FenceEdge.{FenceEdge}
use Rattle.memory_models.specs.Keeping.{edge, FixedWay, Way, IsThere, always}
use Rattle.memory_models.specs.Ahead.{Reaches}

pub joined : (E : ℕ → ℕ → Type 0) {x y z : ℕ} → Path E x y → Path E y z → Path E x z
joined E (last e) q = then e q
joined E (then e p) q = then e (joined E p q)

pub mapped : (E F : ℕ → ℕ → Type 0) → ((x y : ℕ) → E x y → F x y) → {x z : ℕ} → Path E x z → Path F x z
mapped E F f (last {x = x} {y = y} e) = last (f x y e)
mapped E F f (then {x = x} {y = y} e p) = then (f x y e) (mapped E F f p)

-- a transitive relation that each edge meets is met by each path
pub along : (E R : ℕ → ℕ → Type 0) → ((x y : ℕ) → E x y → R x y) → ((x y z : ℕ) → R x y → R y z → R x z) → {x z : ℕ} → Path E x z → R x z
along E R f t (last {x = x} {y = y} e) = f x y e
along E R f t (then {x = x} {y = y} {z = z} e p) = t x y z (f x y e) (along E R f t p)

-- ---- lists

pub contains_one : {X : Type 0} (y x : X) → Contains (y ∷ []) x → x ≡ y
contains_one y x m = elim (contains_cases y x [] m) [ inl e ↦ e | inr h ↦ absurd (contains_nothing x h) ]

-- ---- ways over fixed edges

pub step_way : (fixed : List Edge) (g : Graph) (a b : ℕ) → Contains fixed (edge g a b) → FixedWay fixed g a b
step_way fixed g a b m = last m

pub more_edges : (fixed now : List Edge) (g : Graph) (a b : ℕ) → ((e : Edge) → Contains fixed e → Contains now e) → FixedWay fixed g a b → FixedWay now g a b
more_edges fixed now g a b more p = mapped (λ x y. Contains fixed (edge g x y)) (λ x y. Contains now (edge g x y)) (λ x y m. more (edge g x y) m) p

pub reaches_more : (fixed now : List Edge) (g : Graph) (a b : ℕ) → ((e : Edge) → Contains fixed e → Contains now e) → Reaches fixed g a b → Reaches now g a b
reaches_more fixed now g a b more r = elim r [ inl e ↦ inl e | inr p ↦ inr (more_edges fixed now g a b more p) ]

pub then_reaches : (fixed : List Edge) (g : Graph) (a s b : ℕ) → FixedWay fixed g a s → Reaches fixed g s b → FixedWay fixed g a b
then_reaches fixed g a s b p r =
    elim r [ inl e ↦ subst (λ (n : ℕ). FixedWay fixed g a n) e p | inr q ↦ joined (λ x y. Contains fixed (edge g x y)) p q ]

pub reaches_then : (fixed : List Edge) (g : Graph) (a s b : ℕ) → Reaches fixed g a s → FixedWay fixed g s b → FixedWay fixed g a b
reaches_then fixed g a s b r p =
    elim r [ inl e ↦ subst (λ (n : ℕ). FixedWay fixed g n b) (sym e) p | inr q ↦ joined (λ x y. Contains fixed (edge g x y)) q p ]

pub way_from_fixed : (fixed : List Edge) (fences : List FenceEdge) (happens : ℕ → Bool) (g : Graph) (a b : ℕ) → FixedWay fixed g a b → Way fixed fences happens g a b
way_from_fixed fixed fences happens g a b p = mapped (λ x y. Contains fixed (edge g x y)) (λ x y. IsThere fixed fences happens (edge g x y)) (λ x y m. always m) p
