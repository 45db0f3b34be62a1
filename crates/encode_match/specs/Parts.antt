-- How the parts of the chain make a problem. No public contract cites it.
use Rattle.std.specs.Prelude.{◌≡◌, List, [], ◌∷◌, ◌++◌, map}
use Rattle.dg_base.specs.declared.Lit.{Lit}
use Rattle.axiom_model.specs.declared.MemoryModel.{MemoryModel}
use Rattle.bv_term.specs.declared.term.TermId.{TermId}
use Rattle.cnf_problem.specs.Literals.{negated}
use Rattle.cnf_problem.specs.Formulas.{Formula, IsBuilt, true_lit}
use Rattle.cnf_problem.specs.declared.problem.AtomKind.TheVariants.{Plain}
use Rattle.cnf_problem.specs.declared.problem.Atom.{Atom}
use Rattle.cnf_problem.specs.declared.problem.Edge.{Edge}
use Rattle.bit_blast.specs.Blasting.{Blasts, word_at}
use Rattle.c_check.specs.declared.checked.Checked.{Checked}
use Rattle.c_check.specs.WellFormed.{IsChecked}
use Rattle.flat_prog.specs.declared.Flat.{Flat}
use Rattle.loop_unroll.specs.Unrolled.{IsUnrolled}
use Rattle.ssa_form.specs.declared.Ssa.{Ssa}
use Rattle.ssa_form.specs.declared.SsaPart.{SsaPart}
use Rattle.ssa_form.specs.declared.SsaStep.{SsaStep}
use Rattle.ssa_form.specs.declared.SsaAct.{SsaAct}
use Rattle.ssa_form.specs.declared.SsaAct.TheVariants as act
use Rattle.ssa_form.specs.Form.{IsSsaOf}
use Rattle.memory_models.specs.declared.FenceEdge.{FenceEdge}
use Rattle.memory_models.specs.declared.EventBits.{EventBits}
use Rattle.memory_models.specs.Keeping.{AreStaticEdges}
use Rattle.event_graph.specs.Graphs.{events_of, bits_of, guard_lit}
use Rattle.order_vars.specs.Atoms.{nodes_of}
use Rattle.order_vars.specs.Orders.{IsOrderOf}
use Rattle.encode_match.specs.declared.Taken.{Taken}
use Rattle.encode_match.specs.declared.PartMap.{PartMap}
use Rattle.encode_match.specs.declared.Encoded.{Encoded}

-- ---- endings

-- the guards of the steps at which a run is Bad
abbrev pub bad_by : SsaStep → SsaAct → List TermId
bad_by s act.Bad = s.guard ∷ []
bad_by s _ = []

-- the guards of the steps at which a run fails, whatever the tag
abbrev pub fail_by : SsaStep → SsaAct → List TermId
fail_by s (act.Fail p tag) = s.guard ∷ []
fail_by s _ = []

abbrev pub guards_in : (SsaStep → SsaAct → List TermId) → List SsaStep → List TermId
guards_in f [] = []
guards_in f (s ∷ ss) = f s s.act ++ guards_in f ss

abbrev pub guards_of : (SsaStep → SsaAct → List TermId) → List SsaPart → List TermId
guards_of f [] = []
guards_of f (p ∷ ps) = guards_in f p.steps ++ guards_of f ps

-- no run is Bad, and some run fails
abbrev pub ending_clauses : List (List Lit) → List SsaPart → List (List Lit)
ending_clauses words ps = map (λ t. negated (guard_lit words t) ∷ []) (guards_of bad_by ps) ++ map (guard_lit words) (guards_of fail_by ps) ∷ []

-- ---- the map

abbrev pub taken_by : List (List Lit) → SsaStep → SsaAct → List Taken
taken_by words s (act.Take t) = record { guard = guard_lit words s.guard; bits = word_at words t.0 } ∷ []
taken_by words s (act.Read c t) = record { guard = guard_lit words s.guard; bits = word_at words t.0 } ∷ []
taken_by words s _ = []

abbrev pub taken_in : List (List Lit) → List SsaStep → List Taken
taken_in words [] = []
taken_in words (s ∷ ss) = taken_by words s s.act ++ taken_in words ss

abbrev pub part_map : List (List Lit) → SsaPart → PartMap
part_map words p = record { function = p.function; arg = word_at words p.arg.0; script = taken_in words p.steps }

-- ---- the problem

-- a fence's edge hangs on the fence's guard
abbrev pub fence_atom : FenceEdge → Atom
fence_atom f = record { lit = f.guard; kind = Plain; edges = f.edge ∷ [] }

-- what gates begin with: the constant
abbrev pub no_gates : Formula
no_gates = record { vars = 1; clauses = (true_lit ∷ []) ∷ [] }

-- the values that go with the events
abbrev pub words_of : List EventBits → List (List Lit)
words_of bs = map (λ (b : EventBits). b.bits) bs

-- the whole chain, from a flat program to a problem with its map
pub record IsMadeOf (m : MemoryModel) (flat : Flat) (x : Encoded) : Type 0 where
  pub form : Ssa
  pub is_form : IsSsaOf flat form
  pub words : List (List Lit)
  pub blasted : Formula
  pub blasts : Blasts no_gates blasted form.terms words
  pub built : IsBuilt blasted
  pub events : x.map.graph.events ≡ events_of form words
  pub bits : x.map.graph.bits ≡ bits_of form words
  pub parts : x.map.parts ≡ map (part_map words) form.parts
  pub ordered : Formula
  pub order_atoms : List Atom
  pub create_edges : List Edge
  pub orders : IsOrderOf m x.map.graph.events (words_of x.map.graph.bits) blasted ordered order_atoms create_edges
  pub fixed : List Edge
  pub fences : List FenceEdge
  pub static : AreStaticEdges m x.map.graph.events fixed fences
  pub vars : x.problem.vars ≡ ordered.vars
  pub clauses : x.problem.clauses ≡ ordered.clauses ++ ending_clauses words form.parts
  pub nodes : x.problem.nodes ≡ nodes_of x.map.graph.events
  pub atoms : x.problem.atoms ≡ order_atoms ++ map fence_atom fences
  pub edges : x.problem.fixed ≡ fixed ++ create_edges
  pub model : x.model ≡ m

-- a program with its problem, as the chain makes it
pub record IsChain (p : Checked) (m : MemoryModel) (flat : Flat) (x : Encoded) : Type 0 where
  pub checked : IsChecked p
  pub unrolled : IsUnrolled p flat
  pub made : IsMadeOf m flat x
