-- Paths whose edges lead to higher nodes, but for some: a closed one has one of these.
use Rattle.std.proofs.Common.{◌≡◌, ℕ, ◌<◌, ◌⊎◌, inl, inr, ⊎_elim, List, [], ◌∷◌, Bool, refl, sym, subst, arith}
use Rattle.axiom_model.specs.declared.Event.{Event}
use Rattle.axiom_model.specs.Cycles.{Chain, Cycle}
use Rattle.cnf_problem.specs.Edges.{Path, last, then}
use Rattle.memory_models.proofs.Ways.{joined}
use Rattle.encode_match.specs.declared.Encoded.{Encoded}
use Rattle.encode_match.specs.Spelling.{IsEvent}
use Rattle.encode_match.specs.Matching.{AtEvents}
use Rattle.encode_match.proofs.Moves.{same_event}

-- a path, or none
abbrev pub Reach : (ℕ → ℕ → Type 0) → ℕ → ℕ → Type 0
Reach E a b = (a ≡ b) ⊎ Path E a b

pub reach_then : (E : ℕ → ℕ → Type 0) (a b c : ℕ) → Reach E a b → Path E b c → Path E a c
reach_then E a b c r p = ⊎_elim (λ e. subst (λ (n : ℕ). Path E n c) (sym e) p) (λ q. joined E q p) r

pub then_reach : (E : ℕ → ℕ → Type 0) (a b c : ℕ) → Path E a b → Reach E b c → Path E a c
then_reach E a b c p r = ⊎_elim (λ e. subst (λ (n : ℕ). Path E a n) e p) (λ q. joined E p q) r

pub reach_joined : (E : ℕ → ℕ → Type 0) (a b c : ℕ) → Reach E a b → Reach E b c → Reach E a c
reach_joined E a b c r q = ⊎_elim (λ e. subst (λ (n : ℕ). Reach E a n) e r) (λ p. inr (reach_then E a b c r p)) q

-- what holds at a node, and goes on along each edge, holds at the end
pub carry : (E : ℕ → ℕ → Type 0) (P : ℕ → Type 0) → ((a b : ℕ) → P a → E a b → P b) → {x z : ℕ} → P x → Path E x z → P z
carry E P f h (last {x = x} {y = y} e) = f x y h e
carry E P f h (then {x = x} {y = y} e p) = carry E P f (f x y h e) p

pub carry_reach : (E : ℕ → ℕ → Type 0) (P : ℕ → Type 0) → ((a b : ℕ) → P a → E a b → P b) → (x z : ℕ) → P x → Reach E x z → P z
carry_reach E P f x z h r = ⊎_elim (λ e. subst P e h) (λ p. carry E P f h p) r

-- an edge of the other kind, on a path
pub record Turn (E Q : ℕ → ℕ → Type 0) (x z : ℕ) : Type 0 where
  pub from : ℕ
  pub to : ℕ
  pub before : Reach E x from
  pub turn : Q from to
  pub behind : Reach E to z

turn_first : (E Q : ℕ → ℕ → Type 0) (x y z : ℕ) → E x y → Turn E Q y z → Turn E Q x z
turn_first E Q x y z e t = record { from = t.from; to = t.to; before = inr (then_reach E x y t.from (last e) t.before); turn = t.turn; behind = t.behind }

turn_on : (E Q : ℕ → ℕ → Type 0) → ((a b : ℕ) → E a b → (a < b) ⊎ Q a b) → {x z : ℕ} → Path E x z → (x < z) ⊎ Turn E Q x z
turn_on E Q f (last {x = x} {y = y} e) = ⊎_elim (λ l. inl l) (λ q. inr (record { from = x; to = y; before = inl refl; turn = q; behind = inl refl })) (f x y e)
turn_on E Q f (then {x = x} {y = y} {z = z} e p) =
    ⊎_elim
    (λ l. ⊎_elim (λ k. inl (omega (arith, l, k))) (λ t. inr (turn_first E Q x y z e t)) (turn_on E Q f p))
    (λ q. inr (record { from = x; to = y; before = inl refl; turn = q; behind = inr p }))
    (f x y e)

-- on a closed path there is one, from whose end the path leads back to it
pub record Loop (E Q : ℕ → ℕ → Type 0) : Type 0 where
  pub from : ℕ
  pub to : ℕ
  pub turn : Q from to
  pub back : Reach E to from

pub loop_of : (E Q : ℕ → ℕ → Type 0) → ((a b : ℕ) → E a b → (a < b) ⊎ Q a b) → (n : ℕ) → Path E n n → Loop E Q
loop_of E Q f n p =
    ⊎_elim
    (λ l. absurd (omega (arith, l)))
    (λ (t : Turn E Q n n). record { from = t.from; to = t.to; turn = t.turn; back = reach_joined E t.to n t.from t.behind t.before })
    (turn_on E Q f p)

-- ---- closed paths between nodes of events

record ChainTo (x : Encoded) (s : List Bool) (R : Event → Event → Type 0) (a : Event) (n : ℕ) : Type 0 where
  pub event : Event
  pub there : IsEvent x s n event
  pub inner : List Event
  pub chain : Chain R a inner event

chain_of : (x : Encoded) (s : List Bool) (R : Event → Event → Type 0) {k n : ℕ} (a : Event) → IsEvent x s k a → Path (AtEvents x s R) k n → ChainTo x s R a n
chain_of x s R a h (last {x = k} {y = n} e) =
    record { event = e.1; there = e.3; inner = []; chain = subst (λ (z : Event). R z e.1) (same_event x s k e.0 a e.2 h) e.4 }
chain_of x s R a h (then {x = k} {y = j} {z = n} e p) =
    let r = chain_of x s R e.1 e.3 p in
    record { event = r.event; there = r.there; inner = e.1 ∷ r.inner; chain = (subst (λ (z : Event). R z e.1) (same_event x s k e.0 a e.2 h) e.4, r.chain) }

-- such a path is a cycle of events
pub cycle_of : (x : Encoded) (s : List Bool) (R : Event → Event → Type 0) (n : ℕ) (a : Event) → IsEvent x s n a → Path (AtEvents x s R) n n → (l : List Event) × Cycle R l
cycle_of x s R n a h p =
    let r = chain_of x s R a h p in
    (a ∷ r.inner, subst (λ (z : Event). Chain R a r.inner z) (same_event x s n r.event a r.there h) r.chain)
