-- What a consistent assignment tells of the order of writes.
use Rattle.std.specs.Prelude.{◌≡◌, ◌≢◌, ℕ, List, Bool, Some, slice_get}
use Rattle.dg_base.specs.declared.Lit.{Lit}
use Rattle.axiom_model.specs.declared.MemoryModel.{MemoryModel}
use Rattle.cnf_problem.specs.Problems.{IsConsistent}
use Rattle.cnf_problem.specs.declared.problem.Atom.{Atom}
use Rattle.cnf_problem.specs.declared.problem.Problem.{Problem}
use Rattle.memory_models.specs.declared.StaticEvent.{StaticEvent}
use Rattle.order_vars.specs.Holding.{OrderHolds}
use Rattle.encode_order.specs.Coherence.{IsBefore, WritesCell, IsOrderOfNodes, IsInitialOf, HasOneInitial, InitialsHappen, OrdersEvents}

-- each cell's writes that happen stand in one line
abbrev pub WritesAreOrdered : Type 0
WritesAreOrdered =
    (m : MemoryModel) (es : List StaticEvent) (words : List (List Lit)) (p : Problem) (s : List Bool) → OrdersEvents m es words p → IsConsistent p s → HasOneInitial es
    → (c : ℕ) → (nodes : List ℕ) × IsOrderOfNodes es p.atoms s c nodes

-- and there is no other line of them
abbrev pub OrderIsOne : Type 0
OrderIsOne =
    (es : List StaticEvent) (atoms : List Atom) (s : List Bool) (c : ℕ) (nodes others : List ℕ) → IsOrderOfNodes es atoms s c nodes → IsOrderOfNodes es atoms s c others → nodes ≡ others

-- the initial write is the first
abbrev pub InitialIsFirst : Type 0
InitialIsFirst =
    (m : MemoryModel) (es : List StaticEvent) (words : List (List Lit)) (p : Problem) (s : List Bool) → OrdersEvents m es words p → InitialsHappen es s
    → (c n : ℕ) (nodes : List ℕ) → IsInitialOf es c n → IsOrderOfNodes es p.atoms s c nodes → slice_get nodes 0 ≡ Some n

-- two writes of one cell, which happen
pub record AreTwoWrites (es : List StaticEvent) (s : List Bool) (w v : ℕ) : Type 0 where
  pub cell : ℕ
  pub first : WritesCell es s cell w
  pub second : WritesCell es s cell v
  pub apart : w ≢ v

-- what a true atom orders are two writes of one cell that happen
abbrev pub AtomsOrderWrites : Type 0
AtomsOrderWrites =
    (m : MemoryModel) (es : List StaticEvent) (words : List (List Lit)) (p : Problem) (s : List Bool) → OrdersEvents m es words p → IsConsistent p s → InitialsHappen es s
    → (w v : ℕ) → IsBefore p.atoms s w v → AreTwoWrites es s w v

-- the clauses say of the links what they are to say
abbrev pub ClausesHold : Type 0
ClausesHold =
    (m : MemoryModel) (es : List StaticEvent) (words : List (List Lit)) (p : Problem) (s : List Bool) (has : OrdersEvents m es words p) → IsConsistent p s
    → OrderHolds es words has.orders.links s
