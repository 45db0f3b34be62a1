-- Edges of written-out executions, by tests that compute.
use Rattle.std.proofs.Common.{◌≡◌, ℕ, [], ◌∷◌, Bool, true, false, ◌&&◌, Option, Some, None, refl, arith}
use Rattle.std.specs.Prelude.{slice_get, nat_lt}
use Rattle.std.proofs.lemmas.Bool.{and_parts, ltb-true}
use Rattle.axiom_model.specs.declared.MemoryModel.{MemoryModel}
use Rattle.axiom_model.specs.declared.MemoryModel.TheVariants.{Sc, Tso, Pso}
use Rattle.axiom_model.specs.declared.Action.{Action}
use Rattle.axiom_model.specs.declared.Action.TheVariants.{Read, Create, Join, Start, End}
use Rattle.axiom_model.specs.declared.Event.{Event}
use Rattle.axiom_model.specs.declared.Event.TheVariants.{Initial, At}
use Rattle.axiom_model.specs.Execution.{Execution, action_at, Ordered, SameThread, Rf, Fr}
use Rattle.axiom_model.specs.Models.{keeps, in_thread, creates, joins, GlobalRf, GlobalEdge}
use Rattle.axiom_model.specs.Models as models
use Rattle.axiom_model.specs.Outcomes.{takes}

-- both actions are there, and the test holds of them
abbrev pub is_pair : (Action → Action → Bool) → Option Action → Option Action → Bool
is_pair f (Some p) (Some q) = f p q
is_pair f _ _ = false

pair_at : (x : Execution) (f : Action → Action → Bool) (h i j : ℕ) (p q : Option Action) → action_at x (At h i) ≡ p → action_at x (At h j) ≡ q → (nat_lt i j && is_pair f p q) ≡ true → Ordered x (λ a b. f a b ≡ true) (At h i) (At h j)
pair_at x f h i j (Some p) (Some q) e g t =
    let both = and_parts (nat_lt i j) (f p q) t in
    record { before = (refl, ltb-true i j both.0); first = p; second = q; is_first = e; is_second = g; holds = both.1 }
pair_at x f h i j (Some p) None e g t = let both = and_parts (nat_lt i j) false t in cc (both.1)
pair_at x f h i j None q e g t = let both = and_parts (nat_lt i j) false t in cc (both.1)

-- two actions of a thread that the model keeps in their order
pub po_edge : (m : MemoryModel) (x : Execution) (h i j : ℕ) → (nat_lt i j && is_pair (keeps m) (action_at x (At h i)) (action_at x (At h j))) ≡ true → GlobalEdge m x (At h i) (At h j)
po_edge m x h i j t =
    models.GlobalEdge.kept (in_thread (pair_at x (keeps m) h i j (action_at x (At h i)) (action_at x (At h j)) refl refl t))

-- a source in another thread is seen by all threads at once
seen : (m : MemoryModel) (x : Execution) (s r : Event) → Rf x s r → ¬ SameThread s r → GlobalRf m x s r
seen Sc x s r f n = f
seen Tso x s r f n = (f, n)
seen Pso x s r f n = (f, n)

-- a read from a write of another thread, by the place of the pair
pub rf_edge : (m : MemoryModel) (x : Execution) (s r : Event) (k : ℕ) → slice_get x.rf k ≡ Some (takes r s) → ¬ SameThread s r → GlobalEdge m x s r
rf_edge m x s r k e n = models.GlobalEdge.rf (seen m x s r (k, e) n)

-- a read of the initial value comes before the cell's one write
pub initial_fr : (x : Execution) (r w : Event) (k c : ℕ) → action_at x r ≡ Some (Read c 0) → slice_get x.rf k ≡ Some (takes r Initial) → slice_get x.co c ≡ Some (Initial ∷ w ∷ []) → Fr x r w
initial_fr x r w k c reads from later = record { cell = c; value = 0; source = Initial; reads = reads; from = (k, from); later = (Initial ∷ w ∷ [], later, (0, 1, omega arith, refl, refl)) }

-- the same as an edge of the global condition
pub fr_edge : (m : MemoryModel) (x : Execution) (r w : Event) (k c : ℕ) → action_at x r ≡ Some (Read c 0) → slice_get x.rf k ≡ Some (takes r Initial) → slice_get x.co c ≡ Some (Initial ∷ w ∷ []) → GlobalEdge m x r w
fr_edge m x r w k c reads from later = models.GlobalEdge.fr (initial_fr x r w k c reads from later)

-- a Create comes before its thread's Start
pub create_edge : (m : MemoryModel) (x : Execution) (a : Event) (h i : ℕ) (f v : ℕ) → action_at x a ≡ Some (Create h f v) → action_at x (At h i) ≡ Some Start → GlobalEdge m x a (At h i)
create_edge m x a h i f v p q = models.GlobalEdge.kept (creates p q refl)

-- an End comes before a Join of its handle
pub join_edge : (m : MemoryModel) (x : Execution) (b : Event) (h i : ℕ) → action_at x (At h i) ≡ Some End → action_at x b ≡ Some (Join h) → GlobalEdge m x (At h i) b
join_edge m x b h i p q = models.GlobalEdge.kept (joins p refl q)

-- a write comes before the write that follows it in the order of the cell's two writes
pub co_edge : (m : MemoryModel) (x : Execution) (v w : Event) (c : ℕ) → slice_get x.co c ≡ Some (Initial ∷ v ∷ w ∷ []) → GlobalEdge m x v w
co_edge m x v w c e = models.GlobalEdge.co c (Initial ∷ v ∷ w ∷ [], e, (1, 2, omega arith, refl, refl))
