-- The parts of the chain, put together.
use Rattle.std.proofs.Common.{◌≡◌, ℕ, ◌+◌, ◌<◌, ◌≤◌, List, [], ◌∷◌, ◌++◌, length, map, refl, ap, sym, ◌∙◌, subst, append_assoc, arith}
use Rattle.std.specs.Prelude.{slice_get, Some, All}
use Rattle.std.proofs.lemmas.List.{length-map}
use Rattle.std.proofs.lemmas.List.Elements.{All-map}
use Rattle.dg_base.specs.declared.Lit.{Lit}
use Rattle.axiom_model.specs.declared.MemoryModel.{MemoryModel}
use Rattle.bv_term.specs.declared.term.TermId.{TermId}
use Rattle.cnf_problem.specs.Literals.{IsOver, negated}
use Rattle.cnf_problem.specs.Formulas.{Formula, IsBuilt}
use Rattle.cnf_problem.specs.declared.problem.Atom.{Atom}
use Rattle.cnf_problem.specs.declared.problem.Edge.{Edge}
use Rattle.cnf_problem.specs.declared.problem.Problem.{Problem}
use Rattle.bit_gates.specs.Words.{IsWordOver}
use Rattle.flat_prog.specs.declared.Flat.{Flat}
use Rattle.ssa_form.specs.declared.Ssa.{Ssa}
use Rattle.ssa_form.specs.declared.SsaPart.{SsaPart}
use Rattle.ssa_form.specs.Form.{IsSsaOf}
use Rattle.memory_models.specs.declared.StaticEvent.{StaticEvent}
use Rattle.memory_models.specs.declared.EventBits.{EventBits}
use Rattle.memory_models.specs.Events.{AreStatic}
use Rattle.event_graph.specs.Graphs.{IsFormOfSome, events_of, bits_of, guard_lit}
use Rattle.event_graph.specs.Laws.{EventsAreStatic, EventsHaveBits, EventsAreOver}
use Rattle.order_vars.specs.Orders.{AreEventsOver, IsOrderOf}
use Rattle.encode_match.specs.declared.EventMap.{EventMap}
use Rattle.encode_match.specs.declared.Encoded.{Encoded}
use Rattle.encode_match.specs.Parts.{bad_by, fail_by, guards_of, ending_clauses, no_gates, words_of, IsMadeOf}
use Rattle.encode.specs.Graphs.{IsProblemOf}
use Rattle.encode.specs.Prepared.{IsPrepared}
use Rattle.encode.proofs.Fitting.{have_guards, bad_gives, fail_gives, guards_over}

-- the gates have the constant's variable
abbrev HasConstant : Formula → Type 0
HasConstant f = 1 ≤ f.vars

module _ (form : Ssa) (old new : Formula) (x : EventMap) (bad fails : List Lit) (some : IsFormOfSome form) (p : IsPrepared form old new x bad fails) where
  pub events_static : EventsAreStatic → AreStatic x.graph.events
  events_static listed = subst AreStatic (sym p.events) (listed some.flat form p.words some.form)

  pub events_over : EventsHaveBits → EventsAreOver → 1 ≤ old.vars → AreEventsOver new.vars x.graph.events (words_of x.graph.bits)
  events_over valued over low =
      let grows = p.blasts.grows in
      let o = over some.flat form p.words new.vars some.form p.blasts.count p.blasts.each (omega (arith, low, grows)) in
      let same = valued form p.words in
      subst (λ (es : List StaticEvent). AreEventsOver new.vars es (words_of x.graph.bits)) (sym p.events)
      (subst (λ (bs : List EventBits). AreEventsOver new.vars (events_of form p.words) (words_of bs)) (sym p.bits)
      (record {
        guards = o.0;
        count = length-map (bits_of form p.words) (λ (b : EventBits). b.bits) ∙ same;
        each = All-map (λ (w : List Lit). (length w ≡ 32) × All (IsOver new.vars) w) (λ (b : EventBits). b.bits) (bits_of form p.words) o.1;
      }))

  pub bad_over : All (IsOver new.vars) bad
  bad_over =
      subst (λ (ls : List Lit). All (IsOver new.vars) ls) (sym p.bad_are)
      (guards_over new.vars p.words p.blasts.each bad_by bad_gives form.parts (have_guards some.flat form p.words some.form p.blasts.count))

  pub fails_over : All (IsOver new.vars) fails
  fails_over =
      subst (λ (ls : List Lit). All (IsOver new.vars) ls) (sym p.fails_are)
      (guards_over new.vars p.words p.blasts.each fail_by fail_gives form.parts (have_guards some.flat form p.words some.form p.blasts.count))

-- ---- the whole

fused : {X Y Z : Type 0} (f : Y → Z) (g : X → Y) (xs : List X) → map f (map g xs) ≡ map (λ x. f (g x)) xs
fused f g [] = refl
fused f g (x ∷ xs) = ap (λ zs. f (g x) ∷ zs) (fused f g xs)

endings_are : (words : List (List Lit)) (ps : List SsaPart) (bad fails : List Lit) → bad ≡ map (guard_lit words) (guards_of bad_by ps) → fails ≡ map (guard_lit words) (guards_of fail_by ps)
    → map (λ (l : Lit). negated l ∷ []) bad ++ fails ∷ [] ≡ ending_clauses words ps
endings_are words ps bad fails b f =
    ap (λ (ls : List Lit). map (λ (l : Lit). negated l ∷ []) ls ++ fails ∷ []) b
    ∙ (ap (λ (cs : List (List Lit)). cs ++ fails ∷ []) (fused (λ (l : Lit). negated l ∷ []) (guard_lit words) (guards_of bad_by ps))
    ∙ ap (λ (ls : List Lit). map (λ (t : TermId). negated (guard_lit words t) ∷ []) (guards_of bad_by ps) ++ ls ∷ []) f)

pub made_of : (m : MemoryModel) (flat : Flat) (form : Ssa) (blasted ordered whole : Formula) (x : EventMap) (problem : Problem) (bad fails : List Lit) (atoms : List Atom) (creates : List Edge)
    → IsBuilt blasted → IsSsaOf flat form → IsPrepared form no_gates blasted x bad fails → IsOrderOf m x.graph.events (words_of x.graph.bits) blasted ordered atoms creates
    → whole ≡ record { vars = ordered.vars; clauses = ordered.clauses ++ (map (λ (l : Lit). negated l ∷ []) bad ++ fails ∷ []) }
    → IsProblemOf m x.graph.events atoms creates whole problem → IsMadeOf m flat (record { problem = problem; model = m; map = x })
made_of m flat form blasted ordered whole x problem bad fails atoms creates built is p o e k = record {
  form = form;
  is_form = is;
  words = p.words;
  blasted = blasted;
  blasts = p.blasts;
  built = built;
  events = p.events;
  bits = p.bits;
  parts = p.parts;
  ordered = ordered;
  order_atoms = atoms;
  create_edges = creates;
  orders = o;
  fixed = k.fixed;
  fences = k.fences;
  static = k.static;
  vars = k.vars ∙ ap (λ (f : Formula). f.vars) e;
  clauses = k.clauses ∙ ap (λ (f : Formula). f.clauses) e ∙ ap (λ (cs : List (List Lit)). ordered.clauses ++ cs) (endings_are p.words form.parts bad fails p.bad_are p.fails_are);
  nodes = k.nodes;
  atoms = k.atoms;
  edges = k.edges;
  model = refl;
}
