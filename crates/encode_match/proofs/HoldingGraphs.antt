-- The graphs of a problem hold where an assignment makes its clauses true.
use Rattle.std.proofs.Common.{◌≡◌, ℕ, zero, suc, nat_eq, ◌+◌, ◌<◌, ⊎_elim, Bool, true, false, List, [], ◌∷◌, ◌++◌, map, length, refl, ap, sym, ◌∙◌, subst, arith}
use Rattle.std.specs.Prelude.{Some, slice_get, Contains, unwrap_or}
use Rattle.std.proofs.lemmas.Bool.{eqb-true, not-false}
use Rattle.std.proofs.lemmas.Option.{same_Some}
use Rattle.std.proofs.lemmas.List.Elements.{Contains-append_left, Contains-append_right, All-weaker}
use Rattle.dg_base.specs.declared.Lit.{Lit}
use Rattle.dg_base.specs.Values.{is_true}
use Rattle.dg_base.proofs.Lists.{one_answer, get_nothing, contains_head, place_of}
use Rattle.axiom_model.specs.declared.MemoryModel.{MemoryModel}
use Rattle.bv_term.specs.declared.term.TermId.{TermId}
use Rattle.cnf_problem.specs.Literals.{value, AreSatisfied}
use Rattle.cnf_problem.specs.Formulas.{true_lit}
use Rattle.cnf_problem.specs.declared.problem.Atom.{Atom}
use Rattle.bit_gates.specs.Words.{IsWordOver}
use Rattle.bit_blast.specs.Blasting.{inputs_under}
use Rattle.flat_prog.specs.declared.Flat.{Flat}
use Rattle.ssa_form.specs.declared.Ssa.{Ssa}
use Rattle.ssa_form.specs.declared.SsaPart.{SsaPart}
use Rattle.ssa_form.specs.declared.SsaStep.{SsaStep}
use Rattle.ssa_form.specs.declared.SsaAct.{SsaAct}
use Rattle.ssa_form.specs.declared.SsaAct.TheVariants as act
use Rattle.ssa_form.specs.Parts.{Valuation, is_made, created_by, created_in}
use Rattle.ssa_form.specs.Form.{under}
use Rattle.memory_models.specs.declared.StaticEvent.{StaticEvent}
use Rattle.memory_models.specs.declared.StaticKind.{StaticKind}
use Rattle.memory_models.specs.declared.StaticKind.TheVariants as kind
use Rattle.memory_models.specs.Events.{IsAt, OneThread, AreStatic, IsPossible}
use Rattle.memory_models.proofs.Ways.{contains_one}
use Rattle.memory_models.proofs.Blocks.{one_event}
use Rattle.event_graph.specs.Graphs.{kind_of, guard_lit, events_of}
use Rattle.event_graph.specs.Laws.{happens, IsSpelled, EventsAreStatic, EventsArePossible}
use Rattle.event_graph.proofs.Acting.{parts_apart}
use Rattle.event_graph.proofs.Origins.{NodeOf, node_low, node_high, Acted, event_origin, acted_thread, thread_acted, acted_of}
use Rattle.event_graph.proofs.Spelled.{words_fit, guard_made, happens_made}
use Rattle.order_vars.specs.Links.{is_initial}
use Rattle.encode_match.specs.declared.Encoded.{Encoded}
use Rattle.encode_match.specs.Parts.{fence_atom, IsMadeOf, no_gates}
use Rattle.encode_match.specs.Matching.{IsCreation, CreatesBefore, GraphHolds}
use Rattle.encode_match.specs.Directions.{GraphsHold}
use Rattle.encode_match.proofs.Acts.{not_initial}
use Rattle.encode_match.proofs.PartRuns.{all_at, instance_of}

-- ---- clauses

pub satisfied_first : (s : List Bool) (xs ys : List (List Lit)) → AreSatisfied s (xs ++ ys) → AreSatisfied s xs
satisfied_first s xs ys h = λ c k. h c (Contains-append_left xs ys c k)

pub satisfied_second : (s : List Bool) (xs ys : List (List Lit)) → AreSatisfied s (xs ++ ys) → AreSatisfied s ys
satisfied_second s xs ys h = λ c k. h c (Contains-append_right xs ys c k)

-- ---- steps of a kind

-- what creates an instance
pub record Created (a : SsaAct) (i : ℕ) : Type 0 where
  pub handle : TermId
  pub arg : TermId
  pub is : a ≡ act.Create i handle arg

abbrev kind_number : StaticKind → ℕ
kind_number (kind.Create i) = 2 + i
kind_number kind.Start = 1
kind_number _ = 0

pub create_act : (a : SsaAct) (i : ℕ) → unwrap_or (kind_of a) kind.Full ≡ kind.Create i → Created a i
create_act (act.Create j h g) i e = let n : 2 + j ≡ 2 + i = ap kind_number e in let same : j ≡ i = omega (arith, n) in record { handle = h; arg = g; is = ap (λ (z : ℕ). act.Create z h g) same }
create_act act.Start i e = let n : 1 ≡ 2 + i = ap kind_number e in absurd (omega (arith, n))
create_act a i e = let n : 0 ≡ 2 + i = ap kind_number e in absurd (omega (arith, n))

pub start_act : (a : SsaAct) → unwrap_or (kind_of a) kind.Full ≡ kind.Start → a ≡ act.Start
start_act act.Start e = refl
start_act (act.Create j h g) e = let n : 2 + j ≡ 1 = ap kind_number e in absurd (omega (arith, n))
start_act a e = let n : 0 ≡ 1 = ap kind_number e in absurd (omega (arith, n))

pub kind_acts : (k l : StaticKind) → k ≡ l → is_initial l ≡ false → ¬ (k ≡ kind.Initial)
kind_acts k l e n = not_initial k l e n

in_created : (ss : List SsaStep) (n : ℕ) (t : SsaStep) (j : ℕ) (h g : TermId) → slice_get ss n ≡ Some t → t.act ≡ act.Create j h g → (m : ℕ) × (slice_get (created_in ss) m ≡ Some j)
in_created ss n t j h g e c = place_of (created_in ss) j (created_there ss n e)
  where
    created_there : (us : List SsaStep) (l : ℕ) → slice_get us l ≡ Some t → Contains (created_in us) j
    created_there [] l d = absurd (get_nothing l t d)
    created_there (u ∷ us) zero d =
        Contains-append_left (created_by u.act) (created_in us) j (subst (λ (a : SsaAct). Contains (created_by a) j) (sym (ap (λ (z : SsaStep). z.act) (same_Some u t d) ∙ c)) (contains_head j []))
    created_there (u ∷ us) (suc l) d = Contains-append_right (created_by u.act) (created_in us) j (created_there us l d)

-- ---- words

module _ (m : MemoryModel) (flat : Flat) (x : Encoded) (s : List Bool) (made : IsMadeOf m flat x) where
  -- the clauses of the words and those of the order, among the problem's
  pub blasted_clauses : AreSatisfied s x.problem.clauses → AreSatisfied s made.blasted.clauses
  blasted_clauses h =
      let a = satisfied_first s made.ordered.clauses _ (subst (AreSatisfied s) made.clauses h) in
      satisfied_first s made.blasted.clauses made.orders.added (subst (AreSatisfied s) made.orders.clauses a)

  pub order_clauses : AreSatisfied s x.problem.clauses → AreSatisfied s made.orders.added
  order_clauses h =
      let a = satisfied_first s made.ordered.clauses _ (subst (AreSatisfied s) made.clauses h) in
      satisfied_second s made.blasted.clauses made.orders.added (subst (AreSatisfied s) made.orders.clauses a)

  -- where the words' clauses are true, they spell the terms
  pub spelled : AreSatisfied s made.blasted.clauses → IsSpelled flat made.form made.words s
  spelled h = record {
    form = made.is_form;
    count = made.blasts.count;
    wide = All-weaker (IsWordOver made.blasted.vars) (λ w. length w ≡ 32) (λ w k. k.0) made.words made.blasts.each;
    spelled = made.blasts.exact s h;
  }

  -- the constant is true
  pub constant_true : AreSatisfied s made.blasted.clauses → value s true_lit ≡ true
  constant_true h =
      let r = satisfied_first s no_gates.clauses made.blasts.added (subst (AreSatisfied s) made.blasts.clauses h) (true_lit ∷ []) (contains_head (true_lit ∷ []) []) in
      subst (λ (l : Lit). value s l ≡ true) (contains_one true_lit r.0 r.1) r.2

-- ---- events of a form

pub instance_is : (f : Ssa) (words : List (List Lit)) (i n : ℕ) (p : SsaPart) (e : StaticEvent) → Acted f words i p n e → e.instance ≡ i
instance_is f words i n p e a = ap (λ (z : StaticEvent). z.instance) a.same

module _ (flat : Flat) (f : Ssa) (words : List (List Lit)) (s : List Bool) (k : IsSpelled flat f words s) where
  abbrev es : List StaticEvent
  es = events_of f words

  abbrev v : Valuation
  v = under (inputs_under s words) f

  -- an event's step, and what it shares with it
  pub kind_is : (i n : ℕ) (p : SsaPart) (e : StaticEvent) → (a : Acted f words i p n e) → e.kind ≡ unwrap_or (kind_of a.step.act) kind.Full
  kind_is i n p e a = ap (λ (z : StaticEvent). z.kind) a.same

  pub event_guard : (i n : ℕ) (p : SsaPart) (e : StaticEvent) → (a : Acted f words i p n e) → e.guard ≡ guard_lit words a.step.guard
  event_guard i n p e a = ap (λ (z : StaticEvent). z.guard) a.same

  -- nodes of an earlier part stand before those of a later one
  parts_in_order : (i j a b l r : ℕ) (p q : SsaPart) (t u : SsaStep) → NodeOf f i l a p t → NodeOf f j r b q u → i < j → a < b
  parts_in_order i j a b l r p q t u g h c =
      let high = node_high f i l a p t g in
      let low = node_low f j r b q u h in
      let apart = parts_apart (length f.initials) i j f.parts p c g.part in
      omega (arith, high, low, apart)

  -- the Start of a part is its first step
  start_guard : (j n : ℕ) (q : SsaPart) (e : StaticEvent) → (b : Acted f words j q n e) → e.kind ≡ kind.Start → b.step.guard ≡ q.start
  start_guard j n q e b h =
      let of = (instance_of flat f j q k.form b.node.part).is_part in
      let is_start = start_act b.step.act (sym (kind_is j n q e b) ∙ h) in
      let first : b.place ≡ 0 = of.starts_once b.place b.step b.node.there is_start in
      ap (λ (z : SsaStep). z.guard) (one_answer (slice_get q.steps 0) b.step (record { guard = q.start; act = act.Start }) (subst (λ (n : ℕ). slice_get q.steps n ≡ Some b.step) first b.node.there) of.starts)

  creation_with : (a b i j : ℕ) (c : IsCreation es a b) (p q : SsaPart) (u : Acted f words i p a c.creating) (w : Acted f words j q b c.starting) (made : Created u.step.act c.starting.instance) → CreatesBefore es a b c
  creation_with a b i j c p q u w made =
      let at : c.starting.instance ≡ j = instance_is f words j b q c.starting w in
      let starts = k.form.created i c.starting.instance u.place p u.step made.handle made.arg u.node.part u.node.there made.is in
      let part : starts.part ≡ q = one_answer (slice_get f.parts j) starts.part q (subst (λ (n : ℕ). slice_get f.parts n ≡ Some starts.part) at starts.there) w.node.part in
      let listed = in_created p.steps u.place u.step c.starting.instance made.handle made.arg u.node.there made.is in
      let later : i < c.starting.instance = k.form.later i c.starting.instance listed.0 p u.node.part listed.1 in
      record {
        same_guard = event_guard i a p c.creating u ∙ (ap (guard_lit words) (sym starts.start ∙ (ap (λ (z : SsaPart). z.start) part ∙ sym (start_guard j b q c.starting w c.is_start))) ∙ sym (event_guard j b q c.starting w));
        before = parts_in_order i j a b u.place w.place p q u.step w.step u.node w.node (omega (arith, later, at));
        apart = λ o.
            let first : o.first.instance ≡ i = ap (λ (z : StaticEvent). z.instance) (one_event es a o.first c.creating o.is_first.there c.creates) ∙ instance_is f words i a p c.creating u in
            let second : o.second.instance ≡ c.starting.instance = ap (λ (z : StaticEvent). z.instance) (one_event es b o.second c.starting o.is_second.there c.starts) in
            omega (arith, first, second, later, o.same);
      }

  pub creation_at : (a b : ℕ) (c : IsCreation es a b) → CreatesBefore es a b c
  creation_at a b c =
      let u = thread_acted f words a c.creating (record { there = c.creates; acts = kind_acts c.creating.kind (kind.Create c.starting.instance) c.same_instance refl }) in
      let w = thread_acted f words b c.starting (record { there = c.starts; acts = kind_acts c.starting.kind kind.Start c.is_start refl }) in
      creation_with a b u.0 w.0 c u.1 w.1 u.2 w.2 (create_act u.2.step.act c.starting.instance (sym (kind_is u.0 a u.1 c.creating u.2) ∙ c.same_instance))

  -- ---- threads that are not created

  zero_from : (n : ℕ) → is_true n ≡ false → n ≡ 0
  zero_from n h = eqb-true n 0 (not-false (nat_eq n 0) h)

  asleep_with : (i a b : ℕ) (p : SsaPart) (t e : StaticEvent) (u : Acted f words i p a t) → Acted f words i p b e → t.kind ≡ kind.Start → value s t.guard ≡ false → happens s es b ≡ false
  asleep_with i a b p t e u w h n =
      let of = (instance_of flat f i p k.form u.node.part).is_part in
      let not_made : is_made v u.step ≡ false = sym (guard_made flat f words s k i u.place p u.step u.node.part u.node.there) ∙ (ap (value s) (sym (event_guard i a p t u)) ∙ n) in
      let start : v p.start ≡ 0 = ap v (sym (start_guard i a p t u h)) ∙ zero_from (v u.step.guard) not_made in
      let zero : v w.step.guard ≡ 0 = all_at (λ (z : SsaStep). v z.guard ≡ 0) p.steps w.place w.step (of.asleep (inputs_under s words) (words_fit flat f words s k) start) w.node.there in
      happens_made flat f words s k i w.place b p w.step w.node ∙ ap is_true zero

  pub asleep_at : (a b : ℕ) (t : StaticEvent) → IsAt es a t → t.kind ≡ kind.Start → value s t.guard ≡ false → OneThread es a b → happens s es b ≡ false
  asleep_at a b t at h n o =
      let u = thread_acted f words a t (record { there = at; acts = kind_acts t.kind kind.Start h refl }) in
      let w = thread_acted f words b o.second o.is_second in
      let same : w.0 ≡ u.0 = sym (instance_is f words w.0 b w.1 o.second w.2) ∙ (sym o.same ∙ (ap (λ (z : StaticEvent). z.instance) (one_event es a o.first t o.is_first.there at) ∙ instance_is f words u.0 a u.1 t u.2)) in
      asleep_with u.0 a b u.1 t o.second u.2 (acted_of f words u.0 w.0 b u.1 w.1 o.second w.2 same u.2.node.part) h n

  pub initial_at_cell : value s true_lit ≡ true → (n : ℕ) (t : StaticEvent) → IsAt es n t → t.kind ≡ kind.Initial → (t.cell ≡ n) × (value s t.guard ≡ true)
  initial_at_cell c n t at h =
      ⊎_elim
      (λ q. (ap (λ (z : StaticEvent). z.cell) q.1, ap (λ (z : StaticEvent). value s z.guard) q.1 ∙ c))
      (λ q. absurd ((acted_thread f words q.0 n q.1 t at q.2).acts h))
      (event_origin f words n t at)

-- ---- the whole

module _ (m : MemoryModel) (flat : Flat) (x : Encoded) (s : List Bool) (made : IsMadeOf m flat x) (static : EventsAreStatic) (possible : EventsArePossible) where
  graph_with : AreSatisfied s x.problem.clauses → GraphHolds m x s
  graph_with h =
      let b = blasted_clauses m flat x s made h in
      let k = spelled m flat x s made b in
      let holds = (made.orders.exact s).0 (order_clauses m flat x s made h) in
      record {
        fixed = made.fixed;
        fences = made.fences;
        links = made.orders.links;
        create_edges = made.create_edges;
        atoms = made.atoms ∙ ap (λ (l : List Atom). l ++ map fence_atom made.fences) made.orders.are_atoms;
        edges = made.edges;
        nodes = made.nodes;
        static = subst AreStatic (sym made.events) (static flat made.form made.words made.is_form);
        possible = subst (λ (l : List StaticEvent). IsPossible l (happens s l)) (sym made.events) (possible flat made.form made.words s k);
        kept = made.static;
        created = made.orders.creates;
        tied = λ l c. ((made.orders.sound l c).0, holds.each l c);
        creations = subst (λ (l : List StaticEvent). (a b : ℕ) (c : IsCreation l a b) → CreatesBefore l a b c) (sym made.events) (creation_at flat made.form made.words s k);
        asleep = subst (λ (l : List StaticEvent). (a b : ℕ) (t : StaticEvent) → IsAt l a t → t.kind ≡ kind.Start → value s t.guard ≡ false → OneThread l a b → happens s l b ≡ false) (sym made.events) (asleep_at flat made.form made.words s k);
        initials = subst (λ (l : List StaticEvent). (n : ℕ) (t : StaticEvent) → IsAt l n t → t.kind ≡ kind.Initial → (t.cell ≡ n) × (value s t.guard ≡ true)) (sym made.events)
            (initial_at_cell flat made.form made.words s k (constant_true m flat x s made b));
      }

-- the graphs hold, with the chain's links
pub graphs_hold : EventsAreStatic → EventsArePossible → GraphsHold
unfolding graph_with
graphs_hold static possible p m flat x s chain h = record { graph = graph_with m flat x s chain.made static possible h; same_links = refl }
