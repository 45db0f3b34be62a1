-- What the clauses on order say, of the truth values of literals.
use Rattle.std.specs.Prelude.{◌≡◌, ℕ, ◌⊎◌, List, [], Bool, true, slice_index_or, Contains, map}
use Rattle.dg_base.specs.declared.Lit.{Lit}
use Rattle.cnf_problem.specs.Literals.{value}
use Rattle.memory_models.specs.declared.StaticEvent.{StaticEvent}
use Rattle.memory_models.specs.declared.StaticKind.TheVariants as kind
use Rattle.memory_models.specs.Events.{IsAt}
use Rattle.order_vars.specs.Links.{Link, reading, beginning, rivalry, joining}

-- the event at n happens
abbrev pub Happens : List Bool → List StaticEvent → ℕ → Type 0
Happens s es n = (e : StaticEvent) × IsAt es n e × (value s e.guard ≡ true)

-- both happen
abbrev pub BothHappen : List Bool → List StaticEvent → ℕ → ℕ → Type 0
BothHappen s es a b = Happens s es a × Happens s es b

-- the literals of the value that goes with the event at n
abbrev pub word_at : List (List Lit) → ℕ → List Lit
word_at words n = slice_index_or words n []

-- both values have the same bits
abbrev pub SameBits : List Bool → List (List Lit) → ℕ → ℕ → Type 0
SameBits s words a b = map (value s) (word_at words a) ≡ map (value s) (word_at words b)

-- the value is not 0
abbrev pub HasTrueBit : List Bool → List (List Lit) → ℕ → Type 0
HasTrueBit s words n = (l : Lit) × Contains (word_at words n) l × (value s l ≡ true)

-- What the truth values of a link's literals say: a read takes its value from a write, where both happen and their values agree; of
-- two writes of one cell one comes before the other, where both happen, and only there; a join waits for an end, where both happen,
-- and their handles agree and are not 0.
abbrev pub LinkHolds : List Bool → List StaticEvent → List (List Lit) → Link → Type 0
LinkHolds s es words (reading w r l) = value s l ≡ true → BothHappen s es w r × SameBits s words w r
LinkHolds s es words (beginning i w l) = Unit {0}
LinkHolds s es words (rivalry w v l back) =
    (value s l ≡ true → BothHappen s es w v)
    × (value s back ≡ true → BothHappen s es w v)
    × (BothHappen s es w v → (value s l ≡ true) ⊎ (value s back ≡ true))
LinkHolds s es words (joining e j l) = value s l ≡ true → BothHappen s es e j × SameBits s words e j × HasTrueBit s words j

-- What the clauses say of the links.
pub record OrderHolds (es : List StaticEvent) (words : List (List Lit)) (links : List Link) (s : List Bool) : Type 0 where
  pub each : (x : Link) → Contains links x → LinkHolds s es words x
  -- a read that happens takes its value from some write
  pub some_source : (r : ℕ) (e : StaticEvent) → IsAt es r e → e.kind ≡ kind.Read → value s e.guard ≡ true
      → (w : ℕ) × (l : Lit) × Contains links (reading w r l) × (value s l ≡ true)
  -- a join that happens waits for some end
  pub some_end : (j : ℕ) (e : StaticEvent) → IsAt es j e → e.kind ≡ kind.Join → value s e.guard ≡ true
      → (n : ℕ) × (l : Lit) × Contains links (joining n j l) × (value s l ≡ true)
