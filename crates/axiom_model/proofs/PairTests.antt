-- Bool tests of pairs of events and actions, and the facts that they stand for.
use Rattle.std.proofs.Common.{◌≡◌, ℕ, Bool, true, false, ◌&&◌, Option, Some, refl}
use Rattle.std.specs.Prelude.{nat_eq, nat_lt}
use Rattle.std.proofs.lemmas.Bool.{and_from, eqb-true, eq-eqb, lt-ltb}
use Rattle.axiom_model.specs.declared.Action.{Action}
use Rattle.axiom_model.specs.declared.Action.TheVariants.{Create, Join, Start, End}
use Rattle.axiom_model.specs.declared.Event.{Event}
use Rattle.axiom_model.specs.declared.Event.TheVariants.{Initial, At}
use Rattle.axiom_model.specs.Execution.{IsOf, SameThread, Before, cell_of, SameCell}

abbrev pub implies : Bool → Bool → Bool
implies true b = b
implies false b = true

pub implies_at : (a b : Bool) → implies a b ≡ true → a ≡ true → b ≡ true
implies_at true b t h = t
implies_at false b t h = cc

abbrev pub is_of : ℕ → Event → Bool
is_of h Initial = false
is_of h (At k i) = nat_eq k h

pub is_of_at : (h : ℕ) (e : Event) → IsOf h e → is_of h e ≡ true
is_of_at h Initial o = absurd o
is_of_at h (At k i) o = eq-eqb k h o

abbrev pub same_thread : Event → Event → Bool
same_thread a Initial = false
same_thread a (At h i) = is_of h a

pub same_thread_from : (a b : Event) → same_thread a b ≡ true → SameThread a b
same_thread_from a Initial t = cc
same_thread_from Initial (At h i) t = cc
same_thread_from (At k j) (At h i) t = eqb-true k h t

abbrev pub before : Event → Event → Bool
before (At h i) (At k j) = nat_eq h k && nat_lt i j
before _ _ = false

pub before_at : (a b : Event) → Before a b → before a b ≡ true
before_at (At h i) (At k j) p = and_from _ _ (eq-eqb h k p.0) (lt-ltb i j p.1)
before_at (At h i) Initial p = absurd p
before_at Initial (At k j) p = absurd p
before_at Initial Initial p = absurd p

abbrev pub same_option : Option ℕ → Option ℕ → Bool
same_option (Some c) (Some d) = nat_eq c d
same_option _ _ = false

abbrev pub same_cell : Action → Action → Bool
same_cell p q = same_option (cell_of p) (cell_of q)

pub same_cell_at : (p q : Action) → SameCell p q → same_cell p q ≡ true
same_cell_at p q s = rw (s.1, s.2) (eq-eqb s.0 s.0 refl)

-- a Create before a Start of the handle it names; an End before a Join of its handle
abbrev pub starts : Action → Action → Event → Bool
starts (Create h f v) Start b = is_of h b
starts _ _ _ = false

abbrev pub ends : Action → Action → Event → Bool
ends End (Join h) a = is_of h a
ends _ _ _ = false
