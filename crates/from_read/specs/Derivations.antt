-- The from-read edges of the atoms that are true, in the order in which they became so.
use Rattle.std.specs.Prelude.{◌≡◌, ℕ, ◌<◌, ◌≤◌, ◌⊎◌, List, max, min, length, slice_get, slice_index_or, Contains, Some}
use Rattle.cnf_problem.specs.declared.problem.Node.{Node}
use Rattle.cnf_problem.specs.declared.problem.Edge.{Edge}
use Rattle.cnf_problem.specs.declared.problem.AtomKind.{AtomKind}
use Rattle.cnf_problem.specs.declared.problem.AtomKind.TheVariants.{Plain}
use Rattle.cnf_problem.specs.Edges.{derived_edges}
use Rattle.from_read.specs.declared.edge_set.DerivedEdge.{DerivedEdge}

-- what contracts see: the nodes, what each atom says, the atoms that are true, the oldest first, and the derived edges
pub record FromReadView : Type 0 where
  pub nodes : List Node
  pub kinds : List AtomKind
  pub true_atoms : List ℕ
  pub derived : List DerivedEdge

-- what an atom says
abbrev pub kind_at : List AtomKind → ℕ → AtomKind
kind_at kinds a = slice_index_or kinds a Plain

-- the atoms at these places of the true ones derive the edge
pub record Derives (v : FromReadView) (i j : ℕ) (e : Edge) : Type 0 where
  pub read_from : ℕ
  pub write_order : ℕ
  pub first_is : slice_get v.true_atoms i ≡ Some read_from
  pub second_is : slice_get v.true_atoms j ≡ Some write_order
  pub gives : Contains (derived_edges v.nodes (kind_at v.kinds read_from) (kind_at v.kinds write_order)) e

-- the pair at the first places was complete before the pair at the others; of two that were complete at once, its other atom became true first
abbrev pub IsEarlier : ℕ → ℕ → ℕ → ℕ → Type 0
IsEarlier i j m n = (max i j < max m n) ⊎ ((max i j ≡ max m n) × (min i j ≤ min m n))

-- the derived edge names the first pair of true atoms that derives it
pub record IsFirst (v : FromReadView) (d : DerivedEdge) : Type 0 where
  pub i : ℕ
  pub j : ℕ
  pub first_is : slice_get v.true_atoms i ≡ Some d.read_from
  pub second_is : slice_get v.true_atoms j ≡ Some d.write_order
  pub derives : Derives v i j d.edge
  pub first : (m n : ℕ) → Derives v m n d.edge → IsEarlier i j m n

-- the list has exactly the edges that pairs of true atoms derive, each once, with its first pair
pub record IsDerived (v : FromReadView) : Type 0 where
  pub each : (d : DerivedEdge) → Contains v.derived d → IsFirst v d
  pub all : (i j : ℕ) (e : Edge) → Derives v i j e → (d : DerivedEdge) × Contains v.derived d × (d.edge ≡ e)
  pub once : (i j : ℕ) (c d : DerivedEdge) → slice_get v.derived i ≡ Some c → slice_get v.derived j ≡ Some d → c.edge ≡ d.edge → i ≡ j
  -- an atom becomes true once
  pub apart : (i j a : ℕ) → slice_get v.true_atoms i ≡ Some a → slice_get v.true_atoms j ≡ Some a → i ≡ j
  pub within : (a : ℕ) → Contains v.true_atoms a → a < length v.kinds
