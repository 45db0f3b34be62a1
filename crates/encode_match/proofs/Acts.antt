-- Actions and the kinds of the static events that they are.
use Rattle.std.proofs.Common.{◌≡◌, ℕ, ⊎_elim, List, Bool, true, false, refl, ap, sym, ◌∙◌}
use Rattle.std.specs.Prelude.{Some, None}
use Rattle.std.proofs.lemmas.Bool.{false≢true}
use Rattle.std.proofs.lemmas.Option.{same_Some, none-some}
use Rattle.axiom_model.specs.declared.MemoryModel.{MemoryModel}
use Rattle.axiom_model.specs.declared.MemoryModel.TheVariants.{Sc, Tso, Pso}
use Rattle.axiom_model.specs.declared.Action.{Action}
use Rattle.axiom_model.specs.declared.Action.TheVariants as action
use Rattle.axiom_model.specs.Execution.{cell_of}
use Rattle.axiom_model.specs.Models.{keeps}
use Rattle.memory_models.specs.declared.StaticEvent.{StaticEvent}
use Rattle.memory_models.specs.declared.StaticKind.{StaticKind}
use Rattle.memory_models.specs.declared.StaticKind.TheVariants as kind
use Rattle.memory_models.specs.declared.EventBits.{EventBits}
use Rattle.memory_models.specs.Keeping.{keeps_kinds, is_access}
use Rattle.order_vars.specs.Links.{is_initial}
use Rattle.encode_match.specs.Matching.{ActsAs}

-- how an action stands in the order that a model keeps: as a read, a write or a full fence
abbrev sort_of : Action → StaticKind
sort_of (action.Read c v) = kind.Read
sort_of (action.Write c v) = kind.Write
sort_of _ = kind.Full

abbrev sort_by : StaticKind → StaticKind
sort_by kind.Read = kind.Read
sort_by kind.Write = kind.Write
sort_by _ = kind.Full

acts_sort : (s : List Bool) (e : StaticEvent) (b : EventBits) (k : StaticKind) (a : Action) → ActsAs s e b k a → sort_of a ≡ sort_by k
acts_sort s e b kind.Initial a h = absurd h
acts_sort s e b kind.Read a h = ap sort_of h
acts_sort s e b kind.Write a h = ap sort_of h
acts_sort s e b kind.Full a h = ⊎_elim (λ p. ap sort_of p) (λ q. ⊎_elim (λ p. ap sort_of p) (λ p. ap sort_of p) q) h
acts_sort s e b kind.Start a h = ap sort_of h
acts_sort s e b kind.End a h = ap sort_of h
acts_sort s e b kind.Join a h = ap sort_of h
acts_sort s e b (kind.Create i) a h = ap sort_of h.2

keeps_sorts : (m : MemoryModel) (a b : Action) → keeps m a b ≡ keeps_kinds m (sort_of a) (sort_of b)
keeps_sorts Sc a b = refl
keeps_sorts Tso (action.Write c v) (action.Read d w) = refl
keeps_sorts Tso (action.Write c v) b = refl
keeps_sorts Tso a b = refl
keeps_sorts Pso (action.Write c v) (action.Read d w) = refl
keeps_sorts Pso (action.Write c v) (action.Write d w) = refl
keeps_sorts Pso (action.Write c v) b = refl
keeps_sorts Pso a b = refl

kinds_sorts : (m : MemoryModel) (k l : StaticKind) → keeps_kinds m (sort_by k) (sort_by l) ≡ keeps_kinds m k l
kinds_sorts Sc k l = refl
kinds_sorts Tso kind.Write kind.Read = refl
kinds_sorts Tso kind.Write l = refl
kinds_sorts Tso k l = refl
kinds_sorts Pso kind.Write kind.Read = refl
kinds_sorts Pso kind.Write kind.Write = refl
kinds_sorts Pso kind.Write l = refl
kinds_sorts Pso k l = refl

-- a model keeps a pair of actions where it keeps their kinds
pub keeps_acts : (m : MemoryModel) (s : List Bool) (d e : StaticEvent) (b c : EventBits) (k l : StaticKind) (p q : Action) → ActsAs s d b k p → ActsAs s e c l q → keeps m p q ≡ keeps_kinds m k l
keeps_acts m s d e b c k l p q h i =
    keeps_sorts m p q ∙ (ap (λ (z : StaticKind). keeps_kinds m z (sort_of q)) (acts_sort s d b k p h) ∙ (ap (λ (z : StaticKind). keeps_kinds m (sort_by k) z) (acts_sort s e c l q i) ∙ kinds_sorts m k l))

-- a full fence is kept before all, and all before it
pub keeps_before_full : (m : MemoryModel) (k : StaticKind) → keeps_kinds m k kind.Full ≡ true
keeps_before_full Sc k = refl
keeps_before_full Tso kind.Write = refl
keeps_before_full Tso k = refl
keeps_before_full Pso kind.Write = refl
keeps_before_full Pso k = refl

pub keeps_behind_full : (m : MemoryModel) (k : StaticKind) → keeps_kinds m kind.Full k ≡ true
keeps_behind_full Sc k = refl
keeps_behind_full Tso k = refl
keeps_behind_full Pso k = refl

-- ---- cells

pub access_cell : (s : List Bool) (e : StaticEvent) (b : EventBits) (k : StaticKind) (a : Action) → ActsAs s e b k a → is_access k ≡ true → cell_of a ≡ Some e.cell
access_cell s e b kind.Read a h t = ap cell_of h
access_cell s e b kind.Write a h t = ap cell_of h
access_cell s e b kind.Initial a h t = absurd h
access_cell s e b kind.Full a h t = absurd (false≢true t)
access_cell s e b kind.Start a h t = absurd (false≢true t)
access_cell s e b kind.End a h t = absurd (false≢true t)
access_cell s e b kind.Join a h t = absurd (false≢true t)
access_cell s e b (kind.Create i) a h t = absurd (false≢true t)

no_cell : (a p : Action) (c : ℕ) → a ≡ p → cell_of p ≡ None → cell_of a ≡ Some c → ⊥
no_cell a p c e n h = none-some c (sym n ∙ (sym (ap cell_of e) ∙ h))

pub cell_access : (s : List Bool) (e : StaticEvent) (b : EventBits) (k : StaticKind) (a : Action) (c : ℕ) → ActsAs s e b k a → cell_of a ≡ Some c → (is_access k ≡ true) × (e.cell ≡ c)
cell_access s e b kind.Read a c h t = (refl, same_Some e.cell c (sym (ap cell_of h) ∙ t))
cell_access s e b kind.Write a c h t = (refl, same_Some e.cell c (sym (ap cell_of h) ∙ t))
cell_access s e b kind.Initial a c h t = absurd h
cell_access s e b kind.Full a c h t = absurd (⊎_elim (λ p. no_cell a action.Open c p refl t) (λ q. ⊎_elim (λ p. no_cell a action.Close c p refl t) (λ p. no_cell a action.Fence c p refl t) q) h)
cell_access s e b kind.Start a c h t = absurd (no_cell a action.Start c h refl t)
cell_access s e b kind.End a c h t = absurd (no_cell a action.End c h refl t)
cell_access s e b kind.Join a c h t = absurd (none-some c (sym (ap cell_of h) ∙ t))
cell_access s e b (kind.Create i) a c h t = absurd (none-some c (sym (ap cell_of h.2) ∙ t))

-- ---- initial writes

pub is_initial_false : (k : StaticKind) → ¬ (k ≡ kind.Initial) → is_initial k ≡ false
is_initial_false kind.Initial n = absurd (n refl)
is_initial_false kind.Read n = refl
is_initial_false kind.Write n = refl
is_initial_false kind.Full n = refl
is_initial_false kind.Start n = refl
is_initial_false kind.End n = refl
is_initial_false kind.Join n = refl
is_initial_false (kind.Create i) n = refl

-- a kind that is another one is not that of an initial write
pub not_initial : (k l : StaticKind) → k ≡ l → is_initial l ≡ false → ¬ (k ≡ kind.Initial)
not_initial k l e n h = false≢true (sym n ∙ (sym (ap is_initial e) ∙ ap is_initial h))

pub access_acts : (k : StaticKind) → is_access k ≡ true → ¬ (k ≡ kind.Initial)
access_acts k t h = false≢true (sym (ap is_access h) ∙ t)
