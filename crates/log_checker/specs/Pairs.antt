-- The edges of denied atoms, as one list.
use Rattle.std.specs.Prelude.{ℕ, Bool, true, false, if◌then◌else◌, List, [], ◌∷◌, ◌++◌, flat_map, slice_index_or}
use Rattle.cnf_problem.specs.declared.problem.Atom.{Atom}
use Rattle.cnf_problem.specs.declared.problem.AtomKind.{AtomKind}
use Rattle.cnf_problem.specs.declared.problem.AtomKind.TheVariants.{Plain}
use Rattle.cnf_problem.specs.declared.problem.Edge.{Edge}
use Rattle.cnf_problem.specs.declared.problem.Graph.{Graph}
use Rattle.cnf_problem.specs.declared.problem.Graph.TheVariants.{Local, Global}
use Rattle.cnf_problem.specs.declared.problem.Node.{Node}
use Rattle.cnf_problem.specs.declared.problem.Problem.{Problem}
use Rattle.cnf_problem.specs.Edges.{derived_edges}

abbrev pub same_graph : Graph → Graph → Bool
same_graph Local Local = true
same_graph Local Global = false
same_graph Global Local = false
same_graph Global Global = true

-- the ends of the edges that are in this graph
abbrev pub pairs_in : Graph → List Edge → List (ℕ × ℕ)
pairs_in graph [] = []
pairs_in graph (e ∷ edges) = if same_graph graph e.graph then (e.from, e.to) ∷ pairs_in graph edges else pairs_in graph edges

-- the atom at this place; past the end, one with no edges
abbrev pub atom_at : List Atom → ℕ → Atom
atom_at atoms k = slice_index_or atoms k (record { lit = record { 0 = 0 }; kind = Plain; edges = [] })

-- the edges of the atoms at these places
abbrev pub own_edges : List Atom → List ℕ → List Edge
own_edges atoms places = flat_map (λ k. (atom_at atoms k).edges) places

-- the edges that an atom of this kind derives with those at these places
abbrev pub derived_with : List Node → List Atom → AtomKind → List ℕ → List Edge
derived_with nodes atoms kind places = flat_map (λ k. derived_edges nodes kind (atom_at atoms k).kind) places

-- the edges that the atoms at the first places derive with those at the others
abbrev pub derived_over : List Node → List Atom → List ℕ → List ℕ → List Edge
derived_over nodes atoms firsts places = flat_map (λ k. derived_with nodes atoms (atom_at atoms k).kind places) firsts

-- the edges that two of the atoms at these places derive
abbrev pub all_derived : List Node → List Atom → List ℕ → List Edge
all_derived nodes atoms places = derived_over nodes atoms places places

-- the fixed edges, those of the atoms at these places, and those that two of them derive
abbrev pub all_edges : Problem → List ℕ → List Edge
all_edges p places = p.fixed ++ (own_edges p.atoms places ++ all_derived p.nodes p.atoms places)
