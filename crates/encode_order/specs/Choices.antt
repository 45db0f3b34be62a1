-- Choices of sources, orders and waits that fit the events that happen, and the assignments that make them.
use Rattle.std.specs.Prelude.{◌≡◌, ℕ, ◌⊎◌, List, ◌++◌, Bool, true, length, Contains, ◌↔◌}
use Rattle.dg_base.specs.declared.Lit.{Lit}
use Rattle.axiom_model.specs.declared.MemoryModel.{MemoryModel}
use Rattle.cnf_problem.specs.Literals.{value, AreSatisfied}
use Rattle.cnf_problem.specs.declared.problem.Problem.{Problem}
use Rattle.memory_models.specs.declared.StaticEvent.{StaticEvent}
use Rattle.memory_models.specs.declared.StaticKind.TheVariants.{Read, Join}
use Rattle.memory_models.specs.Events.{IsAt}
use Rattle.order_vars.specs.Links.{joining, MayRead, MayBegin, AreRivals, MayJoin}
use Rattle.order_vars.specs.Holding.{Happens, BothHappen, SameBits, HasTrueBit}
use Rattle.order_vars.specs.Orders.{AreEventsOver, Choice}
use Rattle.encode_order.specs.Coherence.{IsBefore, OrdersEvents}
use Rattle.encode_order.specs.Sources.{MayComeFrom}

-- The choice fits what happens. Only writes and reads that happen and have one value are chosen as source and read, and each read that
-- happens has a source; of two writes of a cell one is chosen to come before the other exactly where both happen; only an end and a
-- join that happen and have one handle, which is not 0, are chosen as what is waited for, and each join that happens waits.
pub record IsFitting (es : List StaticEvent) (words : List (List Lit)) (s : List Bool) (c : Choice) : Type 0 where
  pub sources : (w r : ℕ) → MayRead es w r → c.source w r ≡ true → BothHappen s es w r × SameBits s words w r
  pub some_source : (r : ℕ) (e : StaticEvent) → IsAt es r e → e.kind ≡ Read → value s e.guard ≡ true → (w : ℕ) × MayRead es w r × (c.source w r ≡ true)
  pub orders : (w v : ℕ) → AreRivals es w v → ((c.before w v ≡ true) ⊎ (c.before v w ≡ true)) ↔ BothHappen s es w v
  pub ends : (n j : ℕ) → MayJoin es n j → c.waits n j ≡ true → BothHappen s es n j × SameBits s words n j × HasTrueBit s words j
  pub some_end : (j : ℕ) (e : StaticEvent) → IsAt es j e → e.kind ≡ Join → value s e.guard ≡ true → (n : ℕ) × MayJoin es n j × (c.waits n j ≡ true)

-- an initial write and another one that happens, or two others of which the first is chosen to come before the second
abbrev pub IsChosenBefore : List StaticEvent → List Bool → Choice → ℕ → ℕ → Type 0
IsChosenBefore es s c w v = (MayBegin es w v × Happens s es v) ⊎ ((AreRivals es w v ⊎ AreRivals es v w) × (c.before w v ≡ true))

-- Further truth values under which the clauses of the order hold, and what is true of the problem's atoms is what was chosen. What is
-- chosen of joins is true of links, since two joins of one section have the same edge.
pub record Makes (m : MemoryModel) (es : List StaticEvent) (words : List (List Lit)) (p : Problem) (has : OrdersEvents m es words p) (s : List Bool) (c : Choice) : Type 0 where
  pub more : List Bool
  pub values : length (s ++ more) ≡ has.new.vars
  pub clauses : AreSatisfied (s ++ more) has.orders.added
  pub reads : (w r : ℕ) → MayComeFrom p.atoms (s ++ more) w r ↔ (MayRead es w r × (c.source w r ≡ true))
  pub orders : (w v : ℕ) → IsBefore p.atoms (s ++ more) w v ↔ IsChosenBefore es s c w v
  pub joins : (n j : ℕ) (l : Lit) → Contains has.orders.links (joining n j l) → value (s ++ more) l ≡ c.waits n j

-- each choice that fits can be made
abbrev pub ChoicesCanBeMade : Type 0
ChoicesCanBeMade =
    (m : MemoryModel) (es : List StaticEvent) (words : List (List Lit)) (p : Problem) (has : OrdersEvents m es words p) (s : List Bool) (c : Choice)
    → AreEventsOver has.old.vars es words → length s ≡ has.old.vars → IsFitting es words s c → Makes m es words p has s c
