-- What the tables say of a consistent assignment's nodes is what the candidate is to be.
use Rattle.std.proofs.Common.{◌≡◌, ℕ, suc, ◌+◌, ◌<◌, ◌≤◌, ◌⊎◌, ⊎_elim, inl, inr, List, [], ◌∷◌, ◌++◌, Bool, true, false, Option, Some, None, length, map, get_or, unwrap_or, refl, ap, sym, ◌∙◌, subst, arith}
use Rattle.std.specs.Prelude.{slice_get, All, Contains}
use Rattle.std.specs.List.{AllZip}
use Rattle.std.proofs.lemmas.Bool.{cases_lt, cond-true, cond-false}
use Rattle.std.proofs.lemmas.List.{length-map}
use Rattle.std.proofs.lemmas.Option.{get_or_from_slice_get, slice_get_within}
use Rattle.dg_base.proofs.Lists.{get_there, one_answer, place_of, contains_place, contains_head, contains_tail}
use Rattle.axiom_model.specs.declared.Event.{Event}
use Rattle.axiom_model.specs.declared.Event.TheVariants.{Initial, At}
use Rattle.axiom_model.specs.declared.RfPair.{RfPair}
use Rattle.axiom_model.specs.declared.ThreadPart.{ThreadPart}
use Rattle.axiom_model.specs.declared.Candidate.{Candidate}
use Rattle.axiom_model.specs.declared.MemoryModel.{MemoryModel}
use Rattle.dg_base.specs.declared.Lit.{Lit}
use Rattle.cnf_problem.specs.Literals.{value}
use Rattle.cnf_problem.specs.Problems.{IsConsistent}
use Rattle.c_check.specs.declared.checked.Checked.{Checked}
use Rattle.run_model.specs.Threads.{ProgramFails}
use Rattle.cnf_problem.specs.Bounds.{nodes_of, IsAtomOver}
use Rattle.cnf_problem.specs.declared.problem.Atom.{Atom}
use Rattle.cnf_problem.specs.declared.problem.Node.{Node}
use Rattle.flat_prog.specs.declared.Flat.{Flat}
use Rattle.memory_models.specs.declared.StaticEvent.{StaticEvent}
use Rattle.memory_models.specs.declared.StaticKind.{StaticKind}
use Rattle.memory_models.specs.declared.StaticKind.TheVariants as kind
use Rattle.memory_models.specs.declared.EventBits.{EventBits}
use Rattle.memory_models.specs.Events.{IsAt, IsOfThread}
use Rattle.event_graph.specs.Laws.{earlier, EventsAreStatic, IsSpelled}
use Rattle.event_graph.proofs.Making.{all_at}
use Rattle.event_graph.proofs.Nodes.{nodes_act}
use Rattle.event_graph.proofs.Spelled.{events_possible}
use Rattle.event_graph.proofs.Values.{all_from, have_bits}
use Rattle.order_vars.specs.Atoms.{nodes_in}
use Rattle.order_vars.specs.Links.{is_initial}
use Rattle.encode_order.specs.Coherence.{WritesCell, IsOrderOfNodes}
use Rattle.encode_order.specs.Sources.{ReadsCell}
use Rattle.encode_order.proofs.Cells.{ordered_writes}
use Rattle.encode_order.proofs.Counting.{place_counted}
use Rattle.encode_order.proofs.Reading.{has_source, is_source, one_source}
use Rattle.encode_match.specs.declared.PartMap.{PartMap}
use Rattle.encode_match.specs.declared.Encoded.{Encoded}
use Rattle.encode_match.specs.Spelling.{handles_in, thread_with, threads_from, threads_of, first_or_none, thread_event, event_by, IsEvent, IsPairOf, IsCoOf, AreCosFrom, reads_from, Spells}
use Rattle.encode_match.specs.Encoding.{IsEncoding, SpellsFailure}
use Rattle.encode_match.specs.Parts.{part_map, words_of, IsMadeOf, IsChain}
use Rattle.encode_match.specs.Matching.{GraphHolds}
use Rattle.encode_match.proofs.HoldingGraphs.{blasted_clauses, spelled, graphs_hold}
use Rattle.encode_match.proofs.FirstCandidate.{order_events, one_initial, initials_happen, listed_read}
use Rattle.decode.specs.Tables.{listed, thread_of, threads_with, AreHandles, AreNumbered, ArePlaces, AreSources, AreRanks}
use Rattle.decode.specs.Fitting.{AreFit, IsTabled}
use Rattle.decode.specs.Relations.{pair_of, AreApart, IsLineOf, AreLines}

-- ---- lists

-- what R says of each two items at one place, it says of the lists
zip_of : {A B : Type 0} (R : A → B → Type 0) (xs : List A) (ys : List B) → length xs ≡ length ys → ((k : ℕ) (x : A) (y : B) → slice_get xs k ≡ Some x → slice_get ys k ≡ Some y → R x y) → AllZip R xs ys
zip_of R [] [] e f = tt
zip_of R [] (y ∷ ys) e f = absurd (omega arith)
zip_of R (x ∷ xs) [] e f = absurd (omega arith)
zip_of R (x ∷ xs) (y ∷ ys) e f = (f 0 x y refl refl, zip_of R xs ys (omega (arith, e)) (λ k a b p q. f (suc k) a b p q))

zip_map : {A B : Type 0} (R : A → B → Type 0) (f : A → B) (xs : List A) → ((x : A) → Contains xs x → R x (f x)) → AllZip R xs (map f xs)
zip_map R f [] h = tt
zip_map R f (x ∷ xs) h = (h x (contains_head x xs), zip_map R f xs (λ y c. h y (contains_tail x y xs c)))

-- ---- threads

thread_listed : (s : List Bool) (h : Option ℕ) (p : PartMap) → thread_of s h p ≡ map (thread_with s p) (listed h)
thread_listed s None p = refl
thread_listed s (Some h) p = refl

threads_are : (s : List Bool) (i : ℕ) (es : List StaticEvent) (bs : List EventBits) (hs : List (Option ℕ)) (ps : List PartMap) → length hs ≡ length ps
    → ((k : ℕ) (h : Option ℕ) → slice_get hs k ≡ Some h → listed h ≡ handles_in s (i + k) es bs) → threads_with s hs ps ≡ threads_from s i es bs ps
threads_are s i es bs [] [] e f = refl
threads_are s i es bs [] (p ∷ ps) e f = absurd (omega arith)
threads_are s i es bs (h ∷ hs) [] e f = absurd (omega arith)
threads_are s i es bs (h ∷ hs) (p ∷ ps) e f =
    let here : i + 0 ≡ i = omega arith in
    let first : thread_of s h p ≡ map (thread_with s p) (handles_in s i es bs) =
    thread_listed s h p ∙ (ap (λ (l : List ℕ). map (thread_with s p) l) (f 0 h refl) ∙ ap (λ (n : ℕ). map (thread_with s p) (handles_in s n es bs)) here) in
    let rest = threads_are s (i + 1) es bs hs ps (omega (arith, e)) (λ k g q. let next : i + suc k ≡ i + 1 + k = omega arith in f (suc k) g q ∙ ap (λ (n : ℕ). handles_in s n es bs) next) in
    ap (λ (l : List ThreadPart). l ++ threads_with s hs ps) first ∙ ap (λ (l : List ThreadPart). map (thread_with s p) (handles_in s i es bs) ++ l) rest

first_listed : (h : Option ℕ) → first_or_none (listed h) ≡ unwrap_or h 0
first_listed None = refl
first_listed (Some h) = refl

initial_kind : (k : StaticKind) → (is_initial k ≡ true) × (k ≡ kind.Initial) ⊎ (is_initial k ≡ false) × (¬ (k ≡ kind.Initial))
initial_kind kind.Initial = inl (refl, refl)
initial_kind _ = inr (refl, λ e. absurd (cc))

-- ---- one chain and a consistent assignment

module _ (m : MemoryModel) (flat : Flat) (x : Encoded) (s : List Bool) (made : IsMadeOf m flat x) (g : GraphHolds m x s) (con : IsConsistent x.problem s) (k : IsSpelled flat made.form made.words s) where
  abbrev es : List StaticEvent
  es = x.map.graph.events

  abbrev words : List (List Lit)
  words = words_of x.map.graph.bits

  -- each event that happens is of an instance
  pub numbered : AreNumbered s es (length x.map.parts)
  numbered n e of made_true =
      let a = nodes_act flat made.form made.words s n e k (subst (λ (l : List StaticEvent). IsOfThread l n e) made.events of) made_true in
      let low = slice_get_within made.form.parts e.instance a.part a.there in
      let long : length x.map.parts ≡ length made.form.parts = ap (λ (l : List PartMap). length l) made.parts ∙ length-map made.form.parts (part_map made.words) in
      omega (arith, low, long)

  -- ---- ranks

  module _ (ranks : List ℕ) (are : AreRanks s x.problem.atoms (length es) ranks) where
    line_of : (c : ℕ) → (nodes : List ℕ) × IsOrderOfNodes es x.problem.atoms s c nodes
    line_of c = ordered_writes m es words x.problem s (order_events m flat x s made g con) con (one_initial m flat x s made g con) c

    -- a write stands at its rank
    at_rank : (c i v : ℕ) → slice_get (line_of c).0 i ≡ Some v → slice_get ranks v ≡ Some i
    at_rank c i v h =
        let o = line_of c in
        let w = o.1.sound v (contains_place o.0 i v h) in
        are.each v (slice_get_within es v w.event w.there)
        ∙ ap (λ (n : ℕ). Some n) (place_counted m es words x.problem s (order_events m flat x s made g con) con (initials_happen m flat x s made g con) c i v o.0 o.1 h)

    -- the place of a write of this rank
    rank_at : (c w r : ℕ) → WritesCell es s c w → slice_get ranks w ≡ Some r → slice_get (line_of c).0 r ≡ Some w
    rank_at c w r h e =
        let o = line_of c in
        let i = place_of o.0 w (o.1.complete w h) in
        let same = one_answer (slice_get ranks w) i.0 r (at_rank c i.0 w i.1) e in
        ap (λ (n : ℕ). slice_get o.0 n) (sym same) ∙ i.1

    pub apart : (c : ℕ) → AreApart s es ranks c
    apart c w v r a b p q = one_answer (slice_get (line_of c).0 r) w v (rank_at c w r a p) (rank_at c v r b q)

  module _ (hs : List (Option ℕ)) (places : List Event) (handles : AreHandles s es x.map.graph.bits (length x.map.parts) hs) (placed : ArePlaces s es hs places) where
    pub threads_made : threads_with s hs x.map.parts ≡ threads_of x s
    threads_made =
        threads_are s 0 es x.map.graph.bits hs x.map.parts handles.counted (λ i h q. let here : i ≡ 0 + i = omega arith in handles.each i h q ∙ ap (λ (n : ℕ). handles_in s n es x.map.graph.bits) here)

    -- the event of a node that happens
    event_there : (n : ℕ) (e : StaticEvent) → IsAt es n e → value s e.guard ≡ true → (v : Event) × (slice_get places n ≡ Some v) × IsEvent x s n v
    event_there n e at happens = (event_by x s n e, there (initial_kind e.kind), record { static = e; there = at; happens = happens; same = refl })
      where
        there : ((is_initial e.kind ≡ true) × (e.kind ≡ kind.Initial)) ⊎ ((is_initial e.kind ≡ false) × (¬ (e.kind ≡ kind.Initial))) → slice_get places n ≡ Some (event_by x s n e)
        there (inl i) = placed.initial n e at i.1 ∙ ap (λ (z : Event). Some z) (sym (cond-true (is_initial e.kind) Initial (thread_event x s n e.instance) i.0))
        there (inr i) =
            let of : IsOfThread es n e = record { there = at; acts = i.1 } in
            let h = get_there hs e.instance (let low = numbered n e of happens in let long = handles.counted in omega (arith, low, long)) in
            let first : unwrap_or h.0 0 ≡ first_or_none (handles_in s e.instance es x.map.graph.bits) = sym (first_listed h.0) ∙ ap first_or_none (handles.each e.instance h.0 h.1) in
            placed.action n e h.0 of happens h.1
            ∙ (ap (λ (j : ℕ). Some (At j (earlier s e.instance n es))) first ∙ ap (λ (z : Event). Some z) (sym (cond-false (is_initial e.kind) Initial (thread_event x s n e.instance) i.0)))

    -- ---- sources

    pub pairs_made : (sources : List ℕ) → AreSources s x.problem.atoms (length es) sources → AllZip (IsPairOf x s) (reads_from s 0 es) (map (pair_of places sources) (reads_from s 0 es))
    pairs_made sources are = zip_map (IsPairOf x s) (pair_of places sources) (reads_from s 0 es) pair
      where
        pair : (r : ℕ) → Contains (reads_from s 0 es) r → IsPairOf x s r (pair_of places sources r)
        pair r c =
            let q = listed_read s es r c in
            let ordered = order_events m flat x s made g con in
            let single = one_initial m flat x s made g con in
            let cell : ReadsCell es s q.event.cell r = record { event = q.event; there = q.there; happens = q.happens; reads = q.reads; same_cell = refl } in
            let w = has_source m es words x.problem s ordered con q.event.cell r cell in
            let v = are.each w.0 r w.1 in
            let from = is_source m es words x.problem s ordered con v.0 r v.2 in
            let reader = event_there r q.event q.there q.happens in
            let source = event_there v.0 from.write.event from.write.there from.write.happens in
            let at : get_or places r Initial ≡ reader.0 = get_or_from_slice_get places r reader.0 Initial reader.1 in
            let number : get_or sources r 0 ≡ v.0 = get_or_from_slice_get sources r v.0 0 v.1 in
            let to : get_or places (get_or sources r 0) Initial ≡ source.0 = ap (λ (n : ℕ). get_or places n Initial) number ∙ get_or_from_slice_get places v.0 source.0 Initial source.1 in
            record {
              write = v.0;
              is_reader = subst (IsEvent x s r) (sym at) reader.2;
              is_source = subst (IsEvent x s v.0) (sym to) source.2;
              source = record { is_true = v.2; first = λ u h n. absurd (n (one_source m es words x.problem s ordered con single u v.0 r h v.2)) };
            }

    -- ---- orders

    module _ (ranks : List ℕ) (are : AreRanks s x.problem.atoms (length es) ranks) where
      co_made : (c : ℕ) (line : List Event) → IsLineOf s es places ranks c (length es) line → IsCoOf x s c line
      co_made c line l = record { nodes = (line_of ranks are c).0; order = (line_of ranks are c).1; events = zip_of (IsEvent x s) (line_of ranks are c).0 line (omega (arith, most, least)) events }
        where
          there : (i n : ℕ) → slice_get (line_of ranks are c).0 i ≡ Some n → (v : Event) × (slice_get line i ≡ Some v) × IsEvent x s n v
          there i n h =
              let w = (line_of ranks are c).1.sound n (contains_place (line_of ranks are c).0 i n h) in
              let e = event_there n w.event w.there w.happens in
              (e.0, l.placed n i (slice_get_within es n w.event w.there) w (at_rank ranks are c i n h) ∙ e.1, e.2)

          most : length line ≤ length (line_of ranks are c).0
          most = l.short (length (line_of ranks are c).0) (λ w r h e. slice_get_within (line_of ranks are c).0 r w (rank_at ranks are c w r h e))

          least : length (line_of ranks are c).0 ≤ length line
          least =
              ⊎_elim
              (λ low.
              let n = get_there (line_of ranks are c).0 (length line) low in
              let e = there (length line) n.0 n.1 in
              absurd (let far = slice_get_within line (length line) e.0 e.1 in omega (arith, far)))
              (λ h. h)
              (cases_lt (length line) (length (line_of ranks are c).0))

          events : (i n : ℕ) (v : Event) → slice_get (line_of ranks are c).0 i ≡ Some n → slice_get line i ≡ Some v → IsEvent x s n v
          events i n v h e =
              let t = there i n h in
              subst (IsEvent x s n) (one_answer (slice_get line i) t.0 v t.1 e) t.2

      cos_from : (c : ℕ) (lines : List (List Event)) → ((i : ℕ) (line : List Event) → slice_get lines i ≡ Some line → IsCoOf x s (c + i) line) → AreCosFrom x s c lines
      cos_from c [] f = tt
      cos_from c (l ∷ lines) f =
          let here : c + 0 ≡ c = omega arith in (
            subst (λ (n : ℕ). IsCoOf x s n l) here (f 0 l refl),
            cos_from (c + 1) lines (λ i line h. let next : c + suc i ≡ c + 1 + i = omega arith in subst (λ (n : ℕ). IsCoOf x s n line) next (f (suc i) line h)),
          )

      pub cos_made : (lines : List (List Event)) → AreLines s es places ranks lines → AreCosFrom x s 0 lines
      cos_made lines a = cos_from 0 lines (λ i line h. let here : i ≡ 0 + i = omega arith in subst (λ (n : ℕ). IsCoOf x s n line) here (co_made i line (a.each i line h)))

-- ---- the whole

nodes_long : (all es : List StaticEvent) → length (nodes_in all es) ≡ length es
nodes_long all [] = refl
nodes_long all (e ∷ es) = ap suc (nodes_long all es)

pub fit : (m : MemoryModel) (flat : Flat) (x : Encoded) (s : List Bool) (made : IsMadeOf m flat x) → GraphHolds m x s → IsConsistent x.problem s → IsSpelled flat made.form made.words s
    → AreFit s x.problem.atoms x.map.graph.events x.map.graph.bits (length x.map.parts)
fit m flat x s made g con k =
    let es = x.map.graph.events in
    let long : length x.problem.nodes ≡ length es = ap (λ (l : List Node). length l) made.nodes ∙ nodes_long es es in
    record {
      values = ap (λ (l : List EventBits). length l) made.bits ∙ (have_bits made.form made.words ∙ ap (λ (l : List StaticEvent). length l) (sym made.events));
      numbered = numbered m flat x s made g con k;
      nodes = all_from (λ (a : Atom). All (λ n. n < length es) (nodes_of a.kind)) x.problem.atoms (λ i a h.
          let over = all_at (IsAtomOver x.problem.vars (length x.problem.nodes)) x.problem.atoms i a x.problem.graphs.each_atom h in
          subst (λ (n : ℕ). All (λ j. j < n) (nodes_of a.kind)) long over.kind);
      apart = λ ranks are c. apart m flat x s made g con k ranks are c;
    }

pub spells : (m : MemoryModel) (flat : Flat) (x : Encoded) (s : List Bool) (made : IsMadeOf m flat x) (g : GraphHolds m x s) (con : IsConsistent x.problem s) (k : IsSpelled flat made.form made.words s) (c : Candidate)
    → IsTabled s x.problem.atoms x.map.graph.events x.map.graph.bits x.map.parts c → Spells x s c
spells m flat x s made g con k c t = record {
  threads = t.threads ∙ threads_made m flat x s made g con k t.handles t.places t.are_handles t.are_places;
  rf = subst (λ (l : List RfPair). AllZip (IsPairOf x s) (reads_from s 0 x.map.graph.events) l) (sym t.rf) (pairs_made m flat x s made g con k t.handles t.places t.are_handles t.are_places t.sources t.are_sources);
  cells = t.co.counted;
  co = cos_made m flat x s made g con k t.handles t.places t.are_handles t.are_places t.ranks t.are_ranks c.co t.co;
}

-- the same, of a chain
module _ (listed : EventsAreStatic) (p : Checked) (m : MemoryModel) (flat : Flat) (x : Encoded) (s : List Bool) (chain : IsChain p m flat x) (con : IsConsistent x.problem s) where
  graph : GraphHolds m x s
  graph = (graphs_hold listed events_possible p m flat x s chain con.clauses).graph

  spelled_words : IsSpelled flat chain.made.form chain.made.words s
  spelled_words = spelled m flat x s chain.made (blasted_clauses m flat x s chain.made con.clauses)

  pub chain_fits : AreFit s x.problem.atoms x.map.graph.events x.map.graph.bits (length x.map.parts)
  chain_fits = fit m flat x s chain.made graph con spelled_words

  pub chain_spells : (c : Candidate) → IsTabled s x.problem.atoms x.map.graph.events x.map.graph.bits x.map.parts c → Spells x s c
  chain_spells c t = spells m flat x s chain.made graph con spelled_words c t

-- what is spelled fails
pub failure : (p : Checked) (x : Encoded) (s : List Bool) (c : Candidate) → IsEncoding p x → IsConsistent x.problem s → Spells x s c → SpellsFailure p x s c
failure p x s c e con h =
    let r = e.sound s con in
    record { spelled = h; fails = subst (λ (d : Candidate). ProgramFails p x.model d) (e.once s r.0 c con r.1.spelled h) r.1.fails }
