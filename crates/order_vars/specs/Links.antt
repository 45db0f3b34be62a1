-- Which pairs of events are tied by ordering atoms, and the literals that go with them.
use Rattle.std.specs.Prelude.{◌≡◌, ℕ, ◌<◌, ◌⊎◌, List, Bool, true, false, Contains}
use Rattle.dg_base.specs.declared.Lit.{Lit}
use Rattle.memory_models.specs.declared.StaticEvent.{StaticEvent}
use Rattle.memory_models.specs.declared.StaticKind.{StaticKind}
use Rattle.memory_models.specs.declared.StaticKind.TheVariants as kind
use Rattle.memory_models.specs.Events.{IsAt}

-- two events that are tied, by their places, and the literals of the atoms that tie them
pub data Link : Type 0 where
  -- the read takes its value from the write
  reading : (write read : ℕ) (lit : Lit) → Link
  -- the write comes behind the initial one of its cell
  beginning : (initial write : ℕ) (lit : Lit) → Link
  -- the first of two writes of a cell comes before the second, and the second before the first
  rivalry : (first second : ℕ) (lit back : Lit) → Link
  -- the join waits for the end
  joining : (end join : ℕ) (lit : Lit) → Link

-- the places that a link leads from and to
abbrev pub from_of : Link → ℕ
from_of (reading w r l) = w
from_of (beginning i w l) = i
from_of (rivalry w v l back) = w
from_of (joining e j l) = e

abbrev pub to_of : Link → ℕ
to_of (reading w r l) = r
to_of (beginning i w l) = w
to_of (rivalry w v l back) = v
to_of (joining e j l) = j

-- The links' pairs come in this order: by the events that they lead to, and into one event by those that they lead from. Links that
-- do so are of different pairs.
abbrev pub ComeInOrder : Link → Link → Type 0
ComeInOrder x y = (to_of x < to_of y) ⊎ ((to_of x ≡ to_of y) × (from_of x < from_of y))

-- ---- kinds of events

abbrev pub is_initial : StaticKind → Bool
is_initial kind.Initial = true
is_initial _ = false

abbrev pub is_write : StaticKind → Bool
is_write kind.Initial = true
is_write kind.Write = true
is_write _ = false

-- a write of the cell, the initial one among them
pub record IsWriteOf (es : List StaticEvent) (c w : ℕ) : Type 0 where
  pub event : StaticEvent
  pub there : IsAt es w event
  pub writes : is_write event.kind ≡ true
  pub same_cell : event.cell ≡ c

-- an event of this kind and cell
pub record IsKindOf (es : List StaticEvent) (k : StaticKind) (c n : ℕ) : Type 0 where
  pub event : StaticEvent
  pub there : IsAt es n event
  pub same_kind : event.kind ≡ k
  pub same_cell : event.cell ≡ c

-- an event of this kind
pub record IsKind (es : List StaticEvent) (k : StaticKind) (n : ℕ) : Type 0 where
  pub event : StaticEvent
  pub there : IsAt es n event
  pub same_kind : event.kind ≡ k

-- ---- pairs

-- a write and a read of one cell
abbrev pub MayRead : List StaticEvent → ℕ → ℕ → Type 0
MayRead es w r = (c : ℕ) × IsWriteOf es c w × IsKindOf es kind.Read c r

-- an initial write and another write of its cell
abbrev pub MayBegin : List StaticEvent → ℕ → ℕ → Type 0
MayBegin es i w = (c : ℕ) × IsKindOf es kind.Initial c i × IsKindOf es kind.Write c w

-- two writes of one cell, neither the initial one
abbrev pub AreRivals : List StaticEvent → ℕ → ℕ → Type 0
AreRivals es w v = (c : ℕ) × IsKindOf es kind.Write c w × IsKindOf es kind.Write c v × (w < v)

-- an end and a join
abbrev pub MayJoin : List StaticEvent → ℕ → ℕ → Type 0
MayJoin es e j = IsKind es kind.End e × IsKind es kind.Join j

-- the literal is the guard of the event at n
abbrev pub IsGuardOf : List StaticEvent → ℕ → Lit → Type 0
IsGuardOf es n l = (e : StaticEvent) × IsAt es n e × (l ≡ e.guard)

-- ---- links

-- what links there may be; behind an initial write comes another one where that happens
abbrev pub IsLink : List StaticEvent → Link → Type 0
IsLink es (reading w r l) = MayRead es w r
IsLink es (beginning i w l) = MayBegin es i w × IsGuardOf es w l
IsLink es (rivalry w v l back) = AreRivals es w v
IsLink es (joining e j l) = MayJoin es e j

-- each pair has its link
pub record HasLinks (es : List StaticEvent) (links : List Link) : Type 0 where
  pub reads : (w r : ℕ) → MayRead es w r → (l : Lit) × Contains links (reading w r l)
  pub begins : (i w : ℕ) → MayBegin es i w → (l : Lit) × Contains links (beginning i w l)
  pub rivals : (w v : ℕ) → AreRivals es w v → (l : Lit) × (back : Lit) × Contains links (rivalry w v l back)
  pub joins : (e j : ℕ) → MayJoin es e j → (l : Lit) × Contains links (joining e j l)
