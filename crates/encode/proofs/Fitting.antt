-- What the crates below promise of words, atoms and edges is what the calls here ask for.
use Rattle.std.proofs.Common.{◌≡◌, ℕ, zero, suc, ◌+◌, ◌<◌, ◌≤◌, ◌^◌, List, [], ◌∷◌, ◌++◌, Bool, true, false, cond, ⊎_elim, length, map, refl, ap, sym, ◌∙◌, subst, arith}
use Rattle.std.specs.Prelude.{slice_get, Some, All, Contains, if◌then◌else◌, ◌==◌}
use Rattle.std.proofs.lemmas.List.{map-append, length-map, length-append}
use Rattle.std.proofs.lemmas.List.Elements.{All-nil, All-cons, All-append, All-map, All-get_or, All-contains, Contains-append_left, Contains-append_right}
use Rattle.std.proofs.lemmas.Option.{same_Some, slice_get_within, get_or_from_slice_get}
use Rattle.dg_base.proofs.Lists.{get_nothing, get_there, contains_place, contains_head, contains_tail, contains_cases, contains_nothing}
use Rattle.dg_base.specs.declared.Lit.{Lit}
use Rattle.axiom_model.specs.declared.MemoryModel.{MemoryModel}
use Rattle.bv_term.specs.declared.term.TermId.{TermId}
use Rattle.bv_term.specs.declared.term.Term.TheVariants.{Input}
use Rattle.bv_term.specs.Values.{IsListed}
use Rattle.cnf_problem.specs.Literals.{IsOver}
use Rattle.cnf_problem.specs.Bounds.{IsBetween, IsAtomOver, IsNodeOf, AreGraphs}
use Rattle.cnf_problem.specs.Bounds.{nodes_of as kind_nodes}
use Rattle.cnf_problem.specs.Edges.{node_at, global_edge}
use Rattle.cnf_problem.specs.Formulas.{Formula, true_lit}
use Rattle.cnf_problem.specs.declared.problem.Atom.{Atom}
use Rattle.cnf_problem.specs.declared.problem.Edge.{Edge}
use Rattle.cnf_problem.specs.declared.problem.Node.{Node}
use Rattle.cnf_problem.specs.declared.problem.Graph.TheVariants.{Global}
use Rattle.bit_gates.specs.Words.{IsWordOver}
use Rattle.bit_blast.specs.Blasting.{word_at}
use Rattle.flat_prog.specs.declared.Flat.{Flat}
use Rattle.ssa_form.specs.declared.Ssa.{Ssa}
use Rattle.ssa_form.specs.declared.SsaPart.{SsaPart}
use Rattle.ssa_form.specs.declared.SsaStep.{SsaStep}
use Rattle.ssa_form.specs.declared.SsaAct.{SsaAct}
use Rattle.ssa_form.specs.declared.SsaAct.TheVariants as act
use Rattle.ssa_form.specs.Parts.{input_of, inputs_in}
use Rattle.ssa_form.specs.Form.{IsSsaOf}
use Rattle.memory_models.specs.declared.StaticEvent.{StaticEvent}
use Rattle.memory_models.specs.declared.FenceEdge.{FenceEdge}
use Rattle.memory_models.specs.Events.{IsAt, AreStatic}
use Rattle.memory_models.specs.Keeping.{AreStaticEdges, GoesOn}
use Rattle.event_graph.specs.Graphs.{guard_lit}
use Rattle.event_graph.proofs.Making.{all_at}
use Rattle.event_graph.proofs.Origins.{part_of}
use Rattle.event_graph.proofs.Values.{all_from, has_terms}
use Rattle.order_vars.specs.Links.{Link, reading, beginning, rivalry, joining, IsLink}
use Rattle.order_vars.specs.Atoms.{nodes_in, nodes_of, local, is_global_rf, read_atom, order_atom, join_atom, link_atoms, atoms_of}
use Rattle.order_vars.specs.Orders.{AreEventsOver, IsLinkOver, IsOrderOf}
use Rattle.encode_match.specs.Parts.{bad_by, fail_by, guards_in, guards_of, fence_atom}
use Rattle.encode_match.proofs.BlockEnds.{block_of}
use Rattle.encode.specs.Words.{HasWord, HaveGuards, AllHaveGuards, HaveTaken, HaveParts}
use Rattle.encode.specs.Graphs.{AreOrdersOver}

-- ---- words

input_in : (ss : List SsaStep) (j : ℕ) (s : SsaStep) (t : TermId) → slice_get ss j ≡ Some s → Contains (input_of s.act) t → Contains (inputs_in ss) t
input_in [] j s t h c = absurd (get_nothing j s h)
input_in (d ∷ ss) zero s t h c = Contains-append_left (input_of d.act) (inputs_in ss) t (subst (λ (z : SsaStep). Contains (input_of z.act) t) (sym (same_Some d s h)) c)
input_in (d ∷ ss) (suc j) s t h c = Contains-append_right (input_of d.act) (inputs_in ss) t (input_in ss j s t h c)

-- each term of a form's parts has a word, where there are as many as terms
module _ (flat : Flat) (form : Ssa) (words : List (List Lit)) (is : IsSsaOf flat form) (long : length words ≡ length form.terms) where
  has_word : (t : TermId) → IsListed form.terms t → HasWord words t
  has_word t h = omega (arith, h, long)

  step_words : (k j : ℕ) (p : SsaPart) (s : SsaStep) → slice_get form.parts k ≡ Some p → slice_get p.steps j ≡ Some s → HasWord words s.guard × All (HasWord words) (input_of s.act)
  step_words k j p s e f =
      let of = (part_of flat form k p is e).1 in (
        has_word s.guard (has_terms flat form k j p s is e f).guard,
        all_from (HasWord words) (input_of s.act) (λ m t c.
            let within = input_in p.steps j s t f (contains_place (input_of s.act) m t c) in
            has_word t (slice_get_within form.terms t.0 Input (All-contains (λ (z : TermId). slice_get form.terms z.0 ≡ Some Input) (inputs_in p.steps) t of.inputs within))),
      )

  pub have_parts : HaveParts words form.parts
  have_parts =
      all_from (λ (p : SsaPart). HasWord words p.arg × HaveTaken words p.steps) form.parts (λ k p e.
      let of = (part_of flat form k p is e).1 in (
        has_word p.arg (all_at (IsListed form.terms) (p.start ∷ p.handle ∷ p.arg ∷ []) 2 p.arg of.listed refl),
        all_from (λ (s : SsaStep). HasWord words s.guard × All (HasWord words) (input_of s.act)) p.steps (λ j s f. step_words k j p s e f),
      ))

  pub have_guards : AllHaveGuards words form.parts
  have_guards =
      all_from (λ (p : SsaPart). HaveGuards words p.steps) form.parts (λ k p e.
      all_from (λ (s : SsaStep). HasWord words s.guard) p.steps (λ j s f. (step_words k j p s e f).0))

-- ---- endings

abbrev GivesGuards : (SsaStep → SsaAct → List TermId) → Type 0
GivesGuards f = (s : SsaStep) (a : SsaAct) (t : TermId) → Contains (f s a) t → t ≡ s.guard

only_one : (t u : TermId) → Contains (u ∷ []) t → t ≡ u
only_one t u h = ⊎_elim (λ e. e) (λ n. absurd (contains_nothing t n)) (contains_cases u t [] h)

pub bad_gives : GivesGuards bad_by
bad_gives s act.Bad t h = only_one t s.guard h
bad_gives s _ t h = absurd (contains_nothing t h)

pub fail_gives : GivesGuards fail_by
fail_gives s (act.Fail p tag) t h = only_one t s.guard h
fail_gives s _ t h = absurd (contains_nothing t h)

module _ (vars : ℕ) (words : List (List Lit)) (over : All (IsWordOver vars) words) (f : SsaStep → SsaAct → List TermId) (gives : GivesGuards f) where
  lit_over : (t : TermId) → HasWord words t → IsOver vars (guard_lit words t)
  lit_over t h =
      let w = All-get_or (IsWordOver vars) words t.0 [] h over in
      All-get_or (IsOver vars) (word_at words t.0) 0 true_lit (let long = w.0 in omega (arith, long)) w.1

  steps_over : (ss : List SsaStep) → HaveGuards words ss → All (IsOver vars) (map (guard_lit words) (guards_in f ss))
  steps_over [] h = All-nil (IsOver vars)
  steps_over (s ∷ ss) h =
      subst (λ (ls : List Lit). All (IsOver vars) ls) (sym (map-append (guard_lit words) (f s s.act) (guards_in f ss)))
      (All-append (IsOver vars) (map (guard_lit words) (f s s.act)) (map (guard_lit words) (guards_in f ss))
      (All-map (IsOver vars) (guard_lit words) (f s s.act) (all_from (λ (t : TermId). IsOver vars (guard_lit words t)) (f s s.act) (λ k t e.
      subst (λ (u : TermId). IsOver vars (guard_lit words u)) (sym (gives s s.act t (contains_place (f s s.act) k t e))) (lit_over s.guard (all_at (λ (z : SsaStep). HasWord words z.guard) (s ∷ ss) 0 s h refl)))))
      (steps_over ss (all_from (λ (z : SsaStep). HasWord words z.guard) ss (λ k z e. all_at (λ (y : SsaStep). HasWord words y.guard) (s ∷ ss) (suc k) z h e))))

  pub guards_over : (ps : List SsaPart) → AllHaveGuards words ps → All (IsOver vars) (map (guard_lit words) (guards_of f ps))
  guards_over [] h = All-nil (IsOver vars)
  guards_over (p ∷ ps) h =
      subst (λ (ls : List Lit). All (IsOver vars) ls) (sym (map-append (guard_lit words) (guards_in f p.steps) (guards_of f ps)))
      (All-append (IsOver vars) (map (guard_lit words) (guards_in f p.steps)) (map (guard_lit words) (guards_of f ps))
      (steps_over p.steps (all_at (λ (q : SsaPart). HaveGuards words q.steps) (p ∷ ps) 0 p h refl))
      (guards_over ps (all_from (λ (q : SsaPart). HaveGuards words q.steps) ps (λ k q e. all_at (λ (y : SsaPart). HaveGuards words y.steps) (p ∷ ps) (suc k) q h e))))

pub over_more : (v w : ℕ) (ls : List Lit) → v ≤ w → All (IsOver v) ls → All (IsOver w) ls
over_more v w ls h all = all_from (IsOver w) ls (λ k l e. let o = all_at (IsOver v) ls k l all e in let few = o.1 in (o.0, omega (arith, few, h)))

-- ---- edges

-- the ends of a node's block are events
ends : (es : List StaticEvent) (n : ℕ) → AreStatic es → n < length es → ((node_at (nodes_of es) n).first < length es) × ((node_at (nodes_of es) n).last < length es)
ends es n s h =
    let t = get_there es n h in
    let b = block_of es n t.0 s t.1 in
    subst (λ (x : Node). (x.first < length es) × (x.last < length es)) (sym b.node) (slice_get_within es t.0.block b.opening b.first_there, slice_get_within es b.last b.closing b.last_there)

global_between : (es : List StaticEvent) (a b : ℕ) → AreStatic es → a < length es → b < length es → IsBetween (length es) (global_edge (nodes_of es) a b)
global_between es a b s low high = by ((node_at (nodes_of es) a).block == (node_at (nodes_of es) b).block)
  where
    by : (t : Bool) → IsBetween (length es) (if t then record { graph = Global; from = a; to = b } else record { graph = Global; from = (node_at (nodes_of es) a).last; to = (node_at (nodes_of es) b).first })
    by true = (low, high)
    by false = ((ends es a s low).1, (ends es b s high).0)

goes_between : (es : List StaticEvent) (e : Edge) → GoesOn es e → IsBetween (length es) e
goes_between es e g = (slice_get_within es e.from g.1.first g.1.is_first.there, slice_get_within es e.to g.1.second g.1.is_second.there)

-- ---- atoms

two : {A : Type 0} (P : A → Type 0) (a b : A) → P a → P b → All P (a ∷ b ∷ [])
two P a b p q = All-cons P a (b ∷ []) p (All-cons P b [] q (All-nil P))

one : {A : Type 0} (P : A → Type 0) (a : A) → P a → All P (a ∷ [])
one P a p = All-cons P a [] p (All-nil P)

module _ (m : MemoryModel) (es : List StaticEvent) (vars : ℕ) (static : AreStatic es) where
  abbrev Fits : Atom → Type 0
  Fits = IsAtomOver vars (length es)

  reads_between : (w r : ℕ) (b : Bool) → w < length es → r < length es → All (IsBetween (length es)) (local w r ∷ cond b (global_edge (nodes_of es) w r ∷ []) [])
  reads_between w r true low high = two (IsBetween (length es)) (local w r) (global_edge (nodes_of es) w r) (low, high) (global_between es w r static low high)
  reads_between w r false low high = one (IsBetween (length es)) (local w r) (low, high)

  order_fits : (l : Lit) (w v : ℕ) → IsOver vars l → w < length es → v < length es → Fits (order_atom es l w v)
  order_fits l w v over low high = record {
    lit = over;
    kind = two (λ (n : ℕ). n < length es) w v low high;
    edges = two (IsBetween (length es)) (local w v) (global_edge (nodes_of es) w v) (low, high) (global_between es w v static low high);
  }

  link_fits : (x : Link) → IsLink es x → IsLinkOver vars x → All Fits (link_atoms m es x)
  link_fits (reading w r l) h over =
      let low = slice_get_within es w h.1.event h.1.there in
      let high = slice_get_within es r h.2.event h.2.there in
      one Fits (read_atom m es l w r) (record { lit = over; kind = two (λ (n : ℕ). n < length es) w r low high; edges = reads_between w r (is_global_rf m es w r) low high })
  link_fits (beginning i w l) h over =
      let low = slice_get_within es i h.0.1.event h.0.1.there in
      let high = slice_get_within es w h.0.2.event h.0.2.there in
      one Fits (order_atom es l i w) (order_fits l i w over low high)
  link_fits (rivalry w v l back) h over =
      let low = slice_get_within es w h.1.event h.1.there in
      let high = slice_get_within es v h.2.event h.2.there in
      two Fits (order_atom es l w v) (order_atom es back v w) (order_fits l w v over.0 low high) (order_fits back v w over.1 high low)
  link_fits (joining e j l) h over =
      let low = slice_get_within es e h.0.event h.0.there in
      let high = slice_get_within es j h.1.event h.1.there in
      one Fits (join_atom es l e j) (record { lit = over; kind = All-nil (λ (n : ℕ). n < length es); edges = one (IsBetween (length es)) (global_edge (nodes_of es) e j) (global_between es e j static low high) })

  links_fit : (links : List Link) → ((x : Link) → Contains links x → IsLink es x × IsLinkOver vars x) → All Fits (atoms_of m es links)
  links_fit [] h = All-nil Fits
  links_fit (x ∷ links) h =
      let is = h x (contains_head x links) in
      All-append Fits (link_atoms m es x) (atoms_of m es links) (link_fits x is.0 is.1) (links_fit links (λ y c. h y (contains_tail x y links c)))

-- what the order promises is enough
pub orders_over : (m : MemoryModel) (es : List StaticEvent) (words : List (List Lit)) (old new : Formula) (atoms : List Atom) (creates : List Edge)
    → AreStatic es → AreEventsOver old.vars es words → IsOrderOf m es words old new atoms creates → AreOrdersOver new.vars es atoms creates
orders_over m es words old new atoms creates static over o = record {
  guards = all_from (λ (e : StaticEvent). IsOver new.vars e.guard) es (λ k e h. let g = all_at (λ (z : StaticEvent). IsOver old.vars z.guard) es k e over.guards h in let few = g.1 in let more = o.grows in (g.0, omega (arith, few, more)));
  each_atom = subst (λ (l : List Atom). All (IsAtomOver new.vars (length es)) l) (sym o.are_atoms) (links_fit m es new.vars static o.links o.sound);
  each_edge = all_from (IsBetween (length es)) creates (λ k e h.
      let c = o.creates.sound e (contains_place creates k e h) in
      subst (IsBetween (length es)) (sym c.same_edge)
      (global_between es c.create c.start static (slice_get_within es c.create c.creating c.creates) (slice_get_within es c.start c.starting c.starts)));
}

-- ---- the problem

length_nodes : (all es : List StaticEvent) → length (nodes_in all es) ≡ length es
length_nodes all [] = refl
length_nodes all (e ∷ es) = ap suc (length_nodes all es)

module _ (m : MemoryModel) (es : List StaticEvent) (vars : ℕ) (atoms : List Atom) (creates fixed : List Edge) (fences : List FenceEdge) (static : AreStatic es) (over : AreOrdersOver vars es atoms creates) (edges : AreStaticEdges m es fixed fences) where
  fence_fits : (f : FenceEdge) → Contains fences f → IsAtomOver vars (length es) (fence_atom f)
  fence_fits f c =
      let on = edges.fences_on f c in
      record {
        lit = subst (IsOver vars) (sym on.1.2) (all_at (λ (e : StaticEvent). IsOver vars e.guard) es f.edge.from on.1.0 over.guards on.1.1);
        kind = All-nil (λ (n : ℕ). n < length es);
        edges = one (IsBetween (length es)) f.edge (goes_between es f.edge on.0);
      }

  blocks_fit : All (IsNodeOf (length es)) (nodes_of es)
  blocks_fit =
      all_from (IsNodeOf (length es)) (nodes_of es) (λ k n e.
      let low = slice_get_within (nodes_of es) k n e in
      let long = length_nodes es es in
      subst (IsNodeOf (length es)) (get_or_from_slice_get (nodes_of es) k n (record { block = k; first = k; last = k }) e) (ends es k static (omega (arith, low, long))))

  pub graphs_fit : length es < 2 ^ 32 → length (atoms ++ map fence_atom fences) < 2 ^ 32 → AreGraphs vars (nodes_of es) (atoms ++ map fence_atom fences) (fixed ++ creates)
  graphs_fit few_events few_atoms =
      let long = length_nodes es es in
      record {
        few_nodes = omega (arith, long, few_events);
        few_atoms = few_atoms;
        blocks = subst (λ (n : ℕ). All (IsNodeOf n) (nodes_of es)) (sym long) blocks_fit;
        each_atom = subst (λ (n : ℕ). All (IsAtomOver vars n) (atoms ++ map fence_atom fences)) (sym long)
            (All-append (IsAtomOver vars (length es)) atoms (map fence_atom fences) over.each_atom
            (All-map (IsAtomOver vars (length es)) fence_atom fences (all_from (λ (f : FenceEdge). IsAtomOver vars (length es) (fence_atom f)) fences (λ k f e. fence_fits f (contains_place fences k f e)))));
        each_edge = subst (λ (n : ℕ). All (IsBetween n) (fixed ++ creates)) (sym long)
            (All-append (IsBetween (length es)) fixed creates (all_from (IsBetween (length es)) fixed (λ k e h. goes_between es e (edges.fixed_on e (contains_place fixed k e h)))) over.each_edge);
      }
