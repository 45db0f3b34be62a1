-- The relations, from tables by node. No public contract cites it.
use Rattle.std.specs.Prelude.{◌≡◌, ◌≢◌, ℕ, ◌<◌, ◌≤◌, List, Bool, true, ◌&&◌, nat_eq, Some, length, slice_get, slice_index_or}
use Rattle.axiom_model.specs.declared.Event.{Event}
use Rattle.axiom_model.specs.declared.Event.TheVariants.{Initial}
use Rattle.axiom_model.specs.declared.RfPair.{RfPair}
use Rattle.memory_models.specs.declared.StaticEvent.{StaticEvent}
use Rattle.cnf_problem.specs.Literals.{value}
use Rattle.order_vars.specs.Links.{is_write}
use Rattle.encode_order.specs.Coherence.{WritesCell}
use Rattle.encode_match.specs.Spelling.{initials_in}

-- the pair of a read
abbrev pub pair_of : List Event → List ℕ → ℕ → RfPair
pair_of places sources r = record { reader = slice_index_or places r Initial; source = slice_index_or places (slice_index_or sources r 0) Initial }

-- whether the event is a write of the cell that happens
abbrev pub is_cell_write : List Bool → ℕ → StaticEvent → Bool
is_cell_write s c e = (is_write e.kind && nat_eq e.cell c) && value s e.guard

-- the event is put at its place of a line, which grows no further than to have it; or nothing is done
pub record IsAdded (b : Bool) (place : ℕ) (event : Event) (old new : List Event) : Type 0 where
  pub there : b ≡ true → slice_get new place ≡ Some event
  pub kept : (k : ℕ) → (b ≡ true → k ≢ place) → k < length old → slice_get new k ≡ slice_get old k
  pub short : (m : ℕ) → length old ≤ m → (b ≡ true → place < m) → length new ≤ m

-- the cell's writes that happen have different ranks
abbrev pub AreApart : List Bool → List StaticEvent → List ℕ → ℕ → Type 0
AreApart s es ranks c = (w v k : ℕ) → WritesCell es s c w → WritesCell es s c v → slice_get ranks w ≡ Some k → slice_get ranks v ≡ Some k → w ≡ v

-- each of the cell's writes that happen, of the first n events, stands at its rank; and the line goes no further than their ranks
pub record IsLineOf (s : List Bool) (es : List StaticEvent) (places : List Event) (ranks : List ℕ) (c n : ℕ) (line : List Event) : Type 0 where
  pub placed : (w k : ℕ) → w < n → WritesCell es s c w → slice_get ranks w ≡ Some k → slice_get line k ≡ slice_get places w
  pub short : (m : ℕ) → ((w k : ℕ) → WritesCell es s c w → slice_get ranks w ≡ Some k → k < m) → length line ≤ m

-- the lines of all cells
pub record AreLines (s : List Bool) (es : List StaticEvent) (places : List Event) (ranks : List ℕ) (lines : List (List Event)) : Type 0 where
  pub counted : length lines ≡ initials_in es
  pub each : (c : ℕ) (line : List Event) → slice_get lines c ≡ Some line → IsLineOf s es places ranks c (length es) line
