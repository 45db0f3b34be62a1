-- Which nodes make an action, and what a node does in an execution whose threads match.
use Rattle.std.proofs.Common.{◌≡◌, ℕ, ◌⊎◌, inl, inr, ⊎_elim, Bool, true, List, refl, ap, sym, subst, arith}
use Rattle.std.proofs.lemmas.Bool.{false≢true}
use Rattle.axiom_model.specs.declared.Action.{Action}
use Rattle.axiom_model.specs.declared.Action.TheVariants as action
use Rattle.bit_gates.specs.Words.{number}
use Rattle.memory_models.specs.declared.StaticEvent.{StaticEvent}
use Rattle.memory_models.specs.declared.StaticKind.{StaticKind}
use Rattle.memory_models.specs.declared.StaticKind.TheVariants as kind
use Rattle.memory_models.specs.declared.EventBits.{EventBits}
use Rattle.order_vars.specs.Links.{is_write}
use Rattle.encode_match.specs.Matching.{ActsAs}

-- ---- kinds

pub write_kind : (k : StaticKind) → is_write k ≡ true → (k ≡ kind.Initial) ⊎ (k ≡ kind.Write)
write_kind kind.Initial h = inl refl
write_kind kind.Write h = inr refl
write_kind kind.Read h = absurd (false≢true h)
write_kind kind.Full h = absurd (false≢true h)
write_kind kind.Start h = absurd (false≢true h)
write_kind kind.End h = absurd (false≢true h)
write_kind kind.Join h = absurd (false≢true h)
write_kind (kind.Create i) h = absurd (false≢true h)

abbrev number_of : Action → ℕ
number_of (action.Read c v) = 0
number_of (action.Write c v) = 1
number_of action.End = 2
number_of (action.Join h) = 3
number_of _ = 4

abbrev number_by : StaticKind → ℕ
number_by kind.Read = 0
number_by kind.Write = 1
number_by kind.End = 2
number_by kind.Join = 3
number_by _ = 4

numbered : (s : List Bool) (e : StaticEvent) (b : EventBits) (k : StaticKind) (a : Action) → ActsAs s e b k a → number_by k ≡ number_of a
numbered s e b kind.Initial a h = absurd h
numbered s e b kind.Read a h = sym (ap number_of h)
numbered s e b kind.Write a h = sym (ap number_of h)
numbered s e b kind.Full a h = ⊎_elim (λ p. sym (ap number_of p)) (λ q. ⊎_elim (λ p. sym (ap number_of p)) (λ p. sym (ap number_of p)) q) h
numbered s e b kind.Start a h = sym (ap number_of h)
numbered s e b kind.End a h = sym (ap number_of h)
numbered s e b kind.Join a h = sym (ap number_of h)
numbered s e b (kind.Create i) a h = sym (ap number_of h.2)

kind_0 : (k : StaticKind) → number_by k ≡ 0 → k ≡ kind.Read
kind_0 kind.Read h = refl
kind_0 kind.Write h = absurd (omega (arith, h))
kind_0 kind.End h = absurd (omega (arith, h))
kind_0 kind.Join h = absurd (omega (arith, h))
kind_0 _ h = absurd (omega (arith, h))

kind_1 : (k : StaticKind) → number_by k ≡ 1 → k ≡ kind.Write
kind_1 kind.Write h = refl
kind_1 kind.Read h = absurd (omega (arith, h))
kind_1 kind.End h = absurd (omega (arith, h))
kind_1 kind.Join h = absurd (omega (arith, h))
kind_1 _ h = absurd (omega (arith, h))

kind_2 : (k : StaticKind) → number_by k ≡ 2 → k ≡ kind.End
kind_2 kind.End h = refl
kind_2 kind.Read h = absurd (omega (arith, h))
kind_2 kind.Write h = absurd (omega (arith, h))
kind_2 kind.Join h = absurd (omega (arith, h))
kind_2 _ h = absurd (omega (arith, h))

kind_3 : (k : StaticKind) → number_by k ≡ 3 → k ≡ kind.Join
kind_3 kind.Join h = refl
kind_3 kind.Read h = absurd (omega (arith, h))
kind_3 kind.Write h = absurd (omega (arith, h))
kind_3 kind.End h = absurd (omega (arith, h))
kind_3 _ h = absurd (omega (arith, h))

abbrev cell_in : Action → ℕ
cell_in (action.Read c v) = c
cell_in (action.Write c v) = c
cell_in _ = 0

abbrev value_in : Action → ℕ
value_in (action.Read c v) = v
value_in (action.Write c v) = v
value_in (action.Join h) = h
value_in _ = 0

-- what makes a read
pub read_made : (s : List Bool) (e : StaticEvent) (b : EventBits) (c v : ℕ) → ActsAs s e b e.kind (action.Read c v) → (e.kind ≡ kind.Read) × (c ≡ e.cell) × (v ≡ number s b.bits)
read_made s e b c v h =
    let k = kind_0 e.kind (numbered s e b e.kind (action.Read c v) h) in
    let a : action.Read c v ≡ action.Read e.cell (number s b.bits) = subst (λ (z : StaticKind). ActsAs s e b z (action.Read c v)) k h in
    (k, ap cell_in a, ap value_in a)

-- a write
pub write_made : (s : List Bool) (e : StaticEvent) (b : EventBits) (c v : ℕ) → ActsAs s e b e.kind (action.Write c v) → (e.kind ≡ kind.Write) × (c ≡ e.cell)
write_made s e b c v h =
    let k = kind_1 e.kind (numbered s e b e.kind (action.Write c v) h) in
    let a : action.Write c v ≡ action.Write e.cell (number s b.bits) = subst (λ (z : StaticKind). ActsAs s e b z (action.Write c v)) k h in
    (k, ap cell_in a)

-- a join
pub join_made : (s : List Bool) (e : StaticEvent) (b : EventBits) (v : ℕ) → ActsAs s e b e.kind (action.Join v) → (e.kind ≡ kind.Join) × (v ≡ number s b.bits)
join_made s e b v h =
    let k = kind_3 e.kind (numbered s e b e.kind (action.Join v) h) in
    let a : action.Join v ≡ action.Join (number s b.bits) = subst (λ (z : StaticKind). ActsAs s e b z (action.Join v)) k h in
    (k, ap value_in a)

-- an end
pub end_made : (s : List Bool) (e : StaticEvent) (b : EventBits) → ActsAs s e b e.kind action.End → e.kind ≡ kind.End
end_made s e b h = kind_2 e.kind (numbered s e b e.kind action.End h)
