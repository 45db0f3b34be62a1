-- Nodes that happen are the actions of the threads that an assignment spells.
use Rattle.std.proofs.Common.{◌≡◌, ℕ, zero, suc, ◌<◌, ◌≤◌, ◌⊎◌, inl, inr, ⊎_elim, Bool, true, List, [], ◌∷◌, length, refl, ap, sym, ◌∙◌, subst, arith}
use Rattle.std.specs.Prelude.{Some, slice_get, unwrap_or, ◌↔◌}
use Rattle.std.specs.List.{AllZip}
use Rattle.std.proofs.lemmas.Bool.{cases_order, cond-false, false≢true}
use Rattle.std.proofs.lemmas.Option.{same_Some, none-some}
use Rattle.dg_base.specs.declared.Lit.{Lit}
use Rattle.dg_base.specs.Values.{is_true}
use Rattle.dg_base.proofs.Lists.{one_answer}
use Rattle.axiom_model.specs.declared.Action.{Action}
use Rattle.axiom_model.specs.declared.Action.TheVariants as action
use Rattle.axiom_model.specs.declared.Event.{Event}
use Rattle.axiom_model.specs.declared.Event.TheVariants.{Initial, At}
use Rattle.axiom_model.specs.declared.MemoryModel.{MemoryModel}
use Rattle.axiom_model.specs.declared.ThreadPart.{ThreadPart}
use Rattle.axiom_model.specs.declared.Candidate.{Candidate}
use Rattle.axiom_model.specs.Execution as execution
use Rattle.axiom_model.specs.Execution.{IsOf, Execution, action_at, Before, OneSection, SameBlock}
use Rattle.axiom_model.specs.Failing.{Run, RunsTo, execution_of, threads_of as failing_threads}
use Rattle.bv_term.specs.declared.term.TermId.{TermId}
use Rattle.bv_term.specs.Values.{IsListed}
use Rattle.c_check.specs.declared.checked.Checked.{Checked}
use Rattle.run_model.specs.Threads.{thread_run}
use Rattle.run_laws.specs.Started.{StartedHandlesAreLow, StartedCreateFew}
use Rattle.cnf_problem.specs.Literals.{value, AreSatisfied}
use Rattle.bit_gates.specs.Words.{number}
use Rattle.bit_blast.specs.Blasting.{word_at, inputs_under}
use Rattle.flat_prog.specs.declared.Flat.{Flat}
use Rattle.ssa_form.specs.declared.Ssa.{Ssa}
use Rattle.ssa_form.specs.declared.SsaPart.{SsaPart}
use Rattle.ssa_form.specs.declared.SsaStep.{SsaStep}
use Rattle.ssa_form.specs.declared.SsaAct.{SsaAct}
use Rattle.ssa_form.specs.declared.SsaAct.TheVariants as act
use Rattle.ssa_form.specs.Parts.{Valuation, is_made, action_by, actions_of, function_in}
use Rattle.ssa_form.specs.Form.{under}
use Rattle.memory_models.specs.declared.StaticEvent.{StaticEvent}
use Rattle.memory_models.specs.declared.StaticKind.{StaticKind}
use Rattle.memory_models.specs.declared.StaticKind.TheVariants as kind
use Rattle.memory_models.specs.declared.EventBits.{EventBits}
use Rattle.memory_models.specs.Events.{IsAt, IsOfThread, OneThread, OneBlock, AreStatic}
use Rattle.memory_models.proofs.Blocks.{one_event}
use Rattle.event_graph.specs.Graphs.{event_of, events_of, bits_by, bits_of, kind_of, cell_of, value_term}
use Rattle.event_graph.specs.Laws.{IsSpelled, ActsAt, earlier, happens, EventsAreStatic, ActionsAreNodes, NodesAct, NodesAreInOrder, BlocksAreSections}
use Rattle.event_graph.proofs.Acting.{acting_at}
use Rattle.event_graph.proofs.Origins.{section_at, event_there}
use Rattle.event_graph.proofs.Origins as events_made
use Rattle.event_graph.proofs.Values.{has_terms}
use Rattle.event_graph.proofs.Nodes.{Done, done_at}
use Rattle.event_graph.proofs.Spelled.{guard_made, words_fit}
use Rattle.order_vars.specs.Links.{is_initial}
use Rattle.encode_match.specs.declared.Encoded.{Encoded}
use Rattle.encode_match.specs.Spelling as spelling
use Rattle.encode_match.specs.Spelling.{handles_in, first_or_none, IsEvent, thread_event}
use Rattle.encode_match.specs.Parts.{IsChain}
use Rattle.encode_match.specs.Running.{IsRunning}
use Rattle.encode_match.specs.Matching.{ActsAs, MakesAt, IsActionOf, MatchesThreads, Creates, AtNodes, AtEvents, CreatesAt, IsCreation, CreatesBefore}
use Rattle.encode_match.specs.Directions.{SpelledThreadsMatch}
use Rattle.encode_match.proofs.Acts.{is_initial_false}
use Rattle.encode_match.proofs.GlobalWalk.{block_acts}
use Rattle.encode_match.proofs.Moves.{no_event, same_event, thread_acts, node_in_thread}
use Rattle.encode_match.proofs.PartRuns.{all_at, instance_of}
use Rattle.encode_match.proofs.StartedParts.{RunsAreNumbered, handles_rise, runs_where_made}
use Rattle.encode_match.proofs.HoldingGraphs.{spelled, creation_at, create_act, start_act, kind_acts}
use Rattle.encode_match.proofs.Ties.{happens_is}
use Rattle.encode_match.proofs.SpelledRuns.{word_value, bits_there, handles_running, threads_are}
use Rattle.encode_match.proofs.SpelledThreads.{distinct, does, finds}

-- ---- actions of steps

-- the only element of a list
only : {A : Type 0} (x y : A) → x ∷ [] ≡ y ∷ [] → y ≡ x
only x y e = sym (same_Some x y (ap (λ l. slice_get l 0) e))

none_made : (a : Action) → [] ≡ a ∷ [] → ⊥
none_made a e = let n : 0 ≡ 1 = ap length e in omega (arith, n)

-- the action that a step makes is that of its event, where the words spell the step's value
acts_by : (s : List Bool) (words : List (List Lit)) (ps : List SsaPart) (v : Valuation) (own : TermId) (t : StaticEvent) (a : SsaAct) (c : Action) → t.cell ≡ cell_of a → number s (word_at words (value_term own a).0) ≡ v (value_term own a)
    → action_by ps v a ≡ c ∷ [] → ActsAs s t (bits_by words (value_term own a)) (unwrap_or (kind_of a) kind.Full) c
acts_by s words ps v own t (act.Take u) c cell h e = absurd (none_made c e)
acts_by s words ps v own t (act.Read d u) c cell h e = only (action.Read d (v u)) c e ∙ (ap (λ (n : ℕ). action.Read n (v u)) (sym cell) ∙ ap (λ (n : ℕ). action.Read t.cell n) (sym h))
acts_by s words ps v own t (act.Write d u) c cell h e = only (action.Write d (v u)) c e ∙ (ap (λ (n : ℕ). action.Write n (v u)) (sym cell) ∙ ap (λ (n : ℕ). action.Write t.cell n) (sym h))
acts_by s words ps v own t act.Open c cell h e = inl (only action.Open c e)
acts_by s words ps v own t act.Close c cell h e = inr (inl (only action.Close c e))
acts_by s words ps v own t act.Fence c cell h e = inr (inr (only action.Fence c e))
acts_by s words ps v own t (act.Create i u w) c cell h e = (function_in (slice_get ps i), v w, only (action.Create (v u) (function_in (slice_get ps i)) (v w)) c e ∙ ap (λ (n : ℕ). action.Create n (function_in (slice_get ps i)) (v w)) (sym h))
acts_by s words ps v own t (act.Join u) c cell h e = only (action.Join (v u)) c e ∙ ap action.Join (sym h)
acts_by s words ps v own t act.Start c cell h e = only action.Start c e
acts_by s words ps v own t act.End c cell h e = only action.End c e
acts_by s words ps v own t act.Stop c cell h e = absurd (none_made c e)
acts_by s words ps v own t act.Bad c cell h e = absurd (none_made c e)
acts_by s words ps v own t (act.Fail u g) c cell h e = absurd (none_made c e)

-- a step that makes a create, or a Start
pub record MadeCreate (v : Valuation) (a : SsaAct) (h : ℕ) : Type 0 where
  pub instance : ℕ
  pub handle : TermId
  pub arg : TermId
  pub is : a ≡ act.Create instance handle arg
  pub same : v handle ≡ h

abbrev number_of : Action → ℕ
number_of (action.Create h f v) = 0
number_of action.Start = 1
number_of _ = 2

abbrev handle_of : Action → ℕ
handle_of (action.Create h f v) = h
handle_of _ = 0

pub create_made : (ps : List SsaPart) (v : Valuation) (a : SsaAct) (h g w : ℕ) → action_by ps v a ≡ action.Create h g w ∷ [] → MadeCreate v a h
create_made ps v (act.Create i u z) h g w e = record { instance = i; handle = u; arg = z; is = refl; same = sym (ap handle_of (only (action.Create (v u) (function_in (slice_get ps i)) (v z)) (action.Create h g w) e)) }
create_made ps v (act.Take u) h g w e = absurd (none_made (action.Create h g w) e)
create_made ps v (act.Read d u) h g w e = let n : 0 ≡ 2 = ap number_of (only (action.Read d (v u)) (action.Create h g w) e) in absurd (omega (arith, n))
create_made ps v (act.Write d u) h g w e = let n : 0 ≡ 2 = ap number_of (only (action.Write d (v u)) (action.Create h g w) e) in absurd (omega (arith, n))
create_made ps v act.Open h g w e = let n : 0 ≡ 2 = ap number_of (only action.Open (action.Create h g w) e) in absurd (omega (arith, n))
create_made ps v act.Close h g w e = let n : 0 ≡ 2 = ap number_of (only action.Close (action.Create h g w) e) in absurd (omega (arith, n))
create_made ps v act.Fence h g w e = let n : 0 ≡ 2 = ap number_of (only action.Fence (action.Create h g w) e) in absurd (omega (arith, n))
create_made ps v (act.Join u) h g w e = let n : 0 ≡ 2 = ap number_of (only (action.Join (v u)) (action.Create h g w) e) in absurd (omega (arith, n))
create_made ps v act.Start h g w e = let n : 0 ≡ 1 = ap number_of (only action.Start (action.Create h g w) e) in absurd (omega (arith, n))
create_made ps v act.End h g w e = let n : 0 ≡ 2 = ap number_of (only action.End (action.Create h g w) e) in absurd (omega (arith, n))
create_made ps v act.Stop h g w e = absurd (none_made (action.Create h g w) e)
create_made ps v act.Bad h g w e = absurd (none_made (action.Create h g w) e)
create_made ps v (act.Fail u q) h g w e = absurd (none_made (action.Create h g w) e)

start_made : (ps : List SsaPart) (v : Valuation) (a : SsaAct) → action_by ps v a ≡ action.Start ∷ [] → a ≡ act.Start
start_made ps v act.Start e = refl
start_made ps v (act.Create i u z) e = let n : 1 ≡ 0 = ap number_of (only (action.Create (v u) (function_in (slice_get ps i)) (v z)) action.Start e) in absurd (omega (arith, n))
start_made ps v (act.Take u) e = absurd (none_made action.Start e)
start_made ps v (act.Read d u) e = let n : 1 ≡ 2 = ap number_of (only (action.Read d (v u)) action.Start e) in absurd (omega (arith, n))
start_made ps v (act.Write d u) e = let n : 1 ≡ 2 = ap number_of (only (action.Write d (v u)) action.Start e) in absurd (omega (arith, n))
start_made ps v act.Open e = let n : 1 ≡ 2 = ap number_of (only action.Open action.Start e) in absurd (omega (arith, n))
start_made ps v act.Close e = let n : 1 ≡ 2 = ap number_of (only action.Close action.Start e) in absurd (omega (arith, n))
start_made ps v act.Fence e = let n : 1 ≡ 2 = ap number_of (only action.Fence action.Start e) in absurd (omega (arith, n))
start_made ps v (act.Join u) e = let n : 1 ≡ 2 = ap number_of (only (action.Join (v u)) action.Start e) in absurd (omega (arith, n))
start_made ps v act.End e = let n : 1 ≡ 2 = ap number_of (only action.End action.Start e) in absurd (omega (arith, n))
start_made ps v act.Stop e = absurd (none_made action.Start e)
start_made ps v act.Bad e = absurd (none_made action.Start e)
start_made ps v (act.Fail u q) e = absurd (none_made action.Start e)

abbrev end_number : StaticKind → ℕ
end_number kind.End = 1
end_number _ = 0

end_act : (a : SsaAct) → unwrap_or (kind_of a) kind.Full ≡ kind.End → a ≡ act.End
end_act act.End e = refl
end_act a e = let n : 0 ≡ 1 = ap end_number e in absurd (omega (arith, n))

-- ---- events of nodes

-- the value that goes with an End's node is its thread's handle
abbrev pub EndsAreOwn : Encoded → List Bool → Type 0
EndsAreOwn x s =
    (n : ℕ) (t : StaticEvent) (a : Event) (b : EventBits) → IsAt x.map.graph.events n t → value s t.guard ≡ true → t.kind ≡ kind.End → IsEvent x s n a → slice_get x.map.graph.bits n ≡ Some b
    → IsOf (number s b.bits) a

-- what holds of threads and nodes
pub record ThreadsMatch (x : Encoded) (s : List Bool) (e : Execution) : Type 0 where
  pub matches : MatchesThreads x s e
  pub own_ends : EndsAreOwn x s

module _ (flat : Flat) (f : Ssa) (words : List (List Lit)) (s : List Bool) (k : IsSpelled flat f words s) (x : Encoded) (events : x.map.graph.events ≡ events_of f words) (bits : x.map.graph.bits ≡ bits_of f words)
    (e : Execution) (runs_made : (j : ℕ) (q : SsaPart) (n : ℕ) (t : SsaStep) → slice_get f.parts j ≡ Some q → slice_get q.steps n ≡ Some t → under (inputs_under s words) f t.guard ≡ 1 → IsRunning f (under (inputs_under s words) f) j q)
    (apart : (i j : ℕ) (a b : SsaPart) → IsRunning f (under (inputs_under s words) f) i a → IsRunning f (under (inputs_under s words) f) j b → under (inputs_under s words) f a.handle ≡ under (inputs_under s words) f b.handle → i ≡ j)
    (doing : (j : ℕ) (q : SsaPart) → IsRunning f (under (inputs_under s words) f) j q → execution.actions_of e.threads (under (inputs_under s words) f q.handle) ≡ actions_of f.parts (under (inputs_under s words) f) q)
    (finding : (h n : ℕ) (a : Action) → slice_get (execution.actions_of e.threads h) n ≡ Some a → (j : ℕ) × (q : SsaPart) × IsRunning f (under (inputs_under s words) f) j q × (under (inputs_under s words) f q.handle ≡ h))
    (act_nodes : ActionsAreNodes) (nodes_act : NodesAct) (in_order : NodesAreInOrder) (sections : BlocksAreSections) (are_static : AreStatic (events_of f words)) where
  abbrev es : List StaticEvent
  es = events_of f words

  abbrev v : Valuation
  v = under (inputs_under s words) f

  abbrev Running : ℕ → SsaPart → Type 0
  Running j q = IsRunning f v j q

  handles_x : (j : ℕ) (q : SsaPart) → Running j q → handles_in s j x.map.graph.events x.map.graph.bits ≡ v q.handle ∷ []
  handles_x j q r =
      ap (λ (l : List StaticEvent). handles_in s j l x.map.graph.bits) events
      ∙ (ap (λ (l : List EventBits). handles_in s j es l) bits ∙ handles_running flat f words s k j q r)

  thread_event_is : (j n i : ℕ) (q : SsaPart) → Running j q → earlier s j n es ≡ i → thread_event x s n j ≡ At (v q.handle) i
  thread_event_is j n i q r h =
      ap (λ (l : List ℕ). At (first_or_none l) (earlier s j n x.map.graph.events)) (handles_x j q r)
      ∙ (ap (λ (l : List StaticEvent). At (v q.handle) (earlier s j n l)) events ∙ ap (λ (z : ℕ). At (v q.handle) z) h)

  abbrev event_at : (j n i : ℕ) (q : SsaPart) (t : StaticEvent) → Running j q → IsAt es n t → ¬ (t.kind ≡ kind.Initial) → value s t.guard ≡ true → t.instance ≡ j → earlier s j n es ≡ i → IsEvent x s n (At (v q.handle) i)
  event_at j n i q t r at acts h same l = record {
    static = t;
    there = subst (λ (z : List StaticEvent). IsAt z n t) (sym events) at;
    happens = h;
    same = cond-false (is_initial t.kind) Initial (thread_event x s n t.instance) (is_initial_false t.kind acts)
        ∙ (ap (λ (z : ℕ). thread_event x s n z) same ∙ thread_event_is j n i q r l);
  }

  -- the node of an action
  makes_at : (j i n : ℕ) (q : SsaPart) (a : Action) → Running j q → ActsAt f words s j i n a → MakesAt x s n (At (v q.handle) i) a
  makes_at j i n q a r h =
      let d = done_at flat f words s k j i n q a r.there h in
      let t = event_of words (acting_at j d.step (section_at f j d.place q) n) in
      let listed = (has_terms flat f j d.place q d.step k.form r.there d.node.there).value in
      record {
        is_event = event_at j n i q t r (event_there f words j d.place n q d.step d.node) (events_made.not_initial d.step.act)
            (guard_made flat f words s k j d.place q d.step r.there d.node.there ∙ d.made) refl h.index;
        bits = bits_by words (value_term q.handle d.step.act);
        has_bits = ap (λ (z : List EventBits). slice_get z n) bits ∙ bits_there flat f words s k j d.place n q d.step d.node;
        acts = acts_by s words f.parts v q.handle t d.step.act a refl (word_value flat f words s k (value_term q.handle d.step.act) listed) d.makes;
      }

  -- ---- and back

  -- what is known of a node of a thread that happens
  record Known (n : ℕ) (t : StaticEvent) : Type 0 where
    pub part : SsaPart
    pub running : Running t.instance part
    pub index : ℕ
    pub act : Action
    pub acts : ActsAt f words s t.instance index n act

  one_from : (n : ℕ) → n ≤ 1 → is_true n ≡ true → n ≡ 1
  one_from zero h e = absurd (false≢true e)
  one_from (suc zero) h e = refl
  one_from (suc (suc n)) h e = absurd (omega (arith, h))

  made_one : (j : ℕ) (q : SsaPart) (r : ℕ) (u : SsaStep) → slice_get f.parts j ≡ Some q → slice_get q.steps r ≡ Some u → is_made v u ≡ true → v u.guard ≡ 1
  made_one j q r u p l m =
      let of = (instance_of flat f j q k.form p).is_part in
      one_from (v u.guard) (all_at (λ (z : SsaStep). v z.guard ≤ 1) q.steps r u (of.truths (inputs_under s words) (words_fit flat f words s k)) l) m

  known : (n : ℕ) (t : StaticEvent) → IsOfThread es n t → value s t.guard ≡ true → Known n t
  known n t o h =
      let a = nodes_act flat f words s n t k o h in
      let d = done_at flat f words s k t.instance a.place n a.part a.action a.there a.acts in
      record {
        part = a.part;
        running = runs_made t.instance a.part d.place d.step a.there d.node.there (made_one t.instance a.part d.place d.step a.there d.node.there d.made);
        index = a.place;
        act = a.action;
        acts = a.acts;
      }

  to_x : (n : ℕ) (t : StaticEvent) → IsAt es n t → IsAt x.map.graph.events n t
  to_x n t h = subst (λ (z : List StaticEvent). IsAt z n t) (sym events) h

  from_x : (n : ℕ) (t : StaticEvent) → IsAt x.map.graph.events n t → IsAt es n t
  from_x n t h = subst (λ (z : List StaticEvent). IsAt z n t) events h

  -- the action at a place of a part's run
  there_is : (j i n : ℕ) (q : SsaPart) (a : Action) → Running j q → ActsAt f words s j i n a → action_at e (At (v q.handle) i) ≡ Some a
  there_is j i n q a r h = ap (λ (l : List Action). slice_get l i) (doing j q r) ∙ (act_nodes flat f words s j i q a k r.there).1 (n, h)

  -- the node of an action of the execution
  record Source (h i : ℕ) (a : Action) : Type 0 where
    pub number : ℕ
    pub part : SsaPart
    pub running : Running number part
    pub handle : v part.handle ≡ h
    pub node : ℕ
    pub acts : ActsAt f words s number i node a

  source : (h i : ℕ) (a : Action) → action_at e (At h i) ≡ Some a → Source h i a
  source h i a g =
      let r = finding h i a g in
      let there : slice_get (actions_of f.parts v r.1) i ≡ Some a = ap (λ (l : List Action). slice_get l i) (sym (doing r.0 r.1 r.2)) ∙ (ap (λ (z : ℕ). slice_get (execution.actions_of e.threads z) i) r.3 ∙ g) in
      let n = (act_nodes flat f words s r.0 i r.1 a k r.2.there).0 there in
      record { number = r.0; part = r.1; running = r.2; handle = r.3; node = n.0; acts = n.1 }

  nodes_field : (a : Event) (c : Action) → action_at e a ≡ Some c → (n : ℕ) × MakesAt x s n a c
  nodes_field Initial c g = absurd (none-some c g)
  nodes_field (At h i) c g =
      let r = source h i c g in
      (r.node, subst (λ (z : ℕ). MakesAt x s r.node (At z i) c) r.handle (makes_at r.number i r.node r.part c r.running r.acts))

  events_field : (n : ℕ) (t : StaticEvent) → IsAt x.map.graph.events n t → ¬ (t.kind ≡ kind.Initial) → value s t.guard ≡ true → IsActionOf x s e n
  events_field n t at acts h =
      let r = known n t (record { there = from_x n t at; acts = acts }) h in
      record { event = At (v r.part.handle) r.index; act = r.act; makes = makes_at t.instance r.index n r.part r.act r.running r.acts; there = there_is t.instance r.index n r.part r.act r.running r.acts }

  -- ---- nodes of events

  abbrev handle_at : Event → ℕ
  handle_at Initial = 0
  handle_at (At h i) = h

  abbrev index_at : Event → ℕ
  index_at Initial = 0
  index_at (At h i) = i

  record Info (n h i : ℕ) : Type 0 where
    pub static : StaticEvent
    pub of_thread : IsOfThread es n static
    pub part : SsaPart
    pub running : Running static.instance part
    pub handle : v part.handle ≡ h
    pub act : Action
    pub acts : ActsAt f words s static.instance i n act

  info : (n h i : ℕ) → IsEvent x s n (At h i) → Info n h i
  info n h i p =
      let o : IsOfThread es n p.static = record { there = from_x n p.static p.there; acts = thread_acts x s n (At h i) p (record { handle = h; index = i; is = refl }) } in
      let r = known n p.static o p.happens in
      let m = makes_at p.static.instance r.index n r.part r.act r.running r.acts in
      let same : At (v r.part.handle) r.index ≡ At h i = same_event x s n (At (v r.part.handle) r.index) (At h i) m.is_event p in
      record { static = p.static; of_thread = o; part = r.part; running = r.running; handle = ap handle_at same; act = r.act; acts = subst (λ (z : ℕ). ActsAt f words s p.static.instance z n r.act) (ap index_at same) r.acts }

  one_number : (m n h i j : ℕ) (a : Info m h i) (b : Info n h j) → a.static.instance ≡ b.static.instance
  one_number m n h i j a b = apart a.static.instance b.static.instance a.part b.part a.running b.running (a.handle ∙ sym b.handle)

  ordered : (m n h i j : ℕ) (a : Info m h i) (b : Info n h j) → (i < j) ↔ (m < n)
  ordered m n h i j a b =
      in_order f words s b.static.instance i j m n a.act b.act (subst (λ (z : ℕ). ActsAt f words s z i m a.act) (one_number m n h i j a b) a.acts) b.acts

  once_field : (m n h i : ℕ) → IsEvent x s m (At h i) → IsEvent x s n (At h i) → m ≡ n
  once_field m n h i p q =
      let a = info m h i p in
      let b = info n h i q in
      ⊎_elim (λ d. d) (λ l. ⊎_elim
      (λ d. let no : i < i = (ordered m n h i i a b).1 d in absurd (omega (arith, no)))
      (λ d. let no : i < i = (ordered n m h i i b a).1 d in absurd (omega (arith, no))) l) (cases_order m n)

  thread_x : (m n : ℕ) → OneThread es m n → OneThread x.map.graph.events m n
  thread_x m n o = subst (λ (z : List StaticEvent). OneThread z m n) (sym events) o

  thread_e : (m n : ℕ) → OneThread x.map.graph.events m n → OneThread es m n
  thread_e m n o = subst (λ (z : List StaticEvent). OneThread z m n) events o

  -- nodes of one thread have one handle
  one_handle : (m n h i l j : ℕ) (a : Info m h i) (b : Info n l j) → OneThread es m n → h ≡ l
  one_handle m n h i l j a b o =
      let same : a.static.instance ≡ b.static.instance =
      ap (λ (z : StaticEvent). z.instance) (one_event es m a.static o.first a.of_thread.there o.is_first.there) ∙ (o.same ∙ ap (λ (z : StaticEvent). z.instance) (one_event es n o.second b.static o.is_second.there b.of_thread.there)) in
      sym a.handle ∙ (ap (λ (z : SsaPart). v z.handle) (one_answer (slice_get f.parts b.static.instance) a.part b.part (subst (λ (z : ℕ). slice_get f.parts z ≡ Some a.part) same a.running.there) b.running.there) ∙ b.handle)

  one_thread : (m n h i j : ℕ) (a : Info m h i) (b : Info n h j) → OneThread es m n
  one_thread m n h i j a b = record { first = a.static; second = b.static; is_first = a.of_thread; is_second = b.of_thread; same = one_number m n h i j a b }

  no_initial : (n : ℕ) → IsEvent x s n Initial → (t : StaticEvent) → IsOfThread x.map.graph.events n t → ⊥
  no_initial n p t o = let i = node_in_thread x s n Initial p t o.there o.acts in no_event i.handle i.index i.is

  order_field : (m n : ℕ) (a b : Event) → IsEvent x s m a → IsEvent x s n b → Before a b ↔ (OneThread x.map.graph.events m n × (m < n))
  order_field m n Initial Initial p q = ((λ h. absurd h), (λ h. absurd (no_initial m p h.0.first h.0.is_first)))
  order_field m n Initial (At l j) p q = ((λ h. absurd h), (λ h. absurd (no_initial m p h.0.first h.0.is_first)))
  order_field m n (At h i) Initial p q = ((λ h. absurd h), (λ h. absurd (no_initial n q h.0.second h.0.is_second)))
  order_field m n (At h i) (At l j) p q =
      let a = info m h i p in
      let b = info n l j q in (
        (λ o. let c = subst (λ (z : ℕ). Info n z j) (sym o.0) b in (thread_x m n (one_thread m n h i j a c), (ordered m n h i j a c).0 o.1)),
        (λ o. let same = one_handle m n h i l j a b (thread_e m n o.0) in (same, (ordered m n h i j a (subst (λ (z : ℕ). Info n z j) (sym same) b)).1 o.1)),
      )

  -- ---- blocks

  abbrev InOne : ℕ → ℕ → ℕ → Type 0
  InOne l i j = (i ≡ j) ⊎ OneSection (execution.actions_of e.threads l) i j

  in_part : (l i j : ℕ) (n : ℕ) (b : Info n l j) → execution.actions_of e.threads l ≡ actions_of f.parts v b.part
  in_part l i j n b = ap (execution.actions_of e.threads) (sym b.handle) ∙ doing b.static.instance b.part b.running

  blocks_of_one : (m n l i j : ℕ) (a : Info m l i) (b : Info n l j) → InOne l i j ↔ OneBlock es m n
  blocks_of_one m n l i j a b =
      let r = sections flat f words s b.static.instance i j m n b.part a.act b.act k b.running.there (subst (λ (z : ℕ). ActsAt f words s z i m a.act) (one_number m n l i j a b) a.acts) b.acts in
      subst (λ (z : List Action). ((i ≡ j) ⊎ OneSection z i j) ↔ OneBlock es m n) (sym (in_part l i j n b)) r

  blocks_field : (m n h i l j : ℕ) → IsEvent x s m (At h i) → IsEvent x s n (At l j) → SameBlock e (At h i) (At l j) ↔ OneBlock x.map.graph.events m n
  blocks_field m n h i l j p q =
      let a = info m h i p in
      let b = info n l j q in (
        (λ o. subst (λ (z : List StaticEvent). OneBlock z m n) (sym events) ((blocks_of_one m n l i j (subst (λ (z : ℕ). Info m z i) o.0 a) b).0 o.1)),
        (λ o.
            let one : OneBlock es m n = subst (λ (z : List StaticEvent). OneBlock z m n) events o in
            let same = one_handle m n h i l j a b (block_acts es m n a.static are_static one a.of_thread) in
            (same, (blocks_of_one m n l i j (subst (λ (z : ℕ). Info m z i) same a) b).1 one)),
      )

  -- ---- creations

  -- the step of an action
  step_of : (j i n : ℕ) (q : SsaPart) (a : Action) → Running j q → ActsAt f words s j i n a → Done f words s v j i n q a
  step_of j i n q a r h = done_at flat f words s k j i n q a r.there h

  abbrev event_by_step : ℕ → ℕ → SsaPart → ℕ → SsaStep → StaticEvent
  event_by_step j n q place u = event_of words (acting_at j u (section_at f j place q) n)

  -- the part that a step creates
  record Child (j : ℕ) (q : SsaPart) (u : SsaStep) (i : ℕ) (handle : TermId) : Type 0 where
    pub part : SsaPart
    pub running : Running i part
    pub same : v part.handle ≡ v handle

  child : (j place i : ℕ) (q : SsaPart) (u : SsaStep) (handle arg : TermId) → Running j q → slice_get q.steps place ≡ Some u → is_made v u ≡ true → u.act ≡ act.Create i handle arg → Child j q u i handle
  child j place i q u handle arg r h m is =
      let c = k.form.created j i place q u handle arg r.there h is in
      record { part = c.part; running = record { there = c.there; starts = ap v c.start ∙ made_one j q place u r.there h m }; same = ap v c.same_handle }

  creates_with : (m n h i l j : ℕ) (a b : Event) (g w : ℕ) (u : Source h i (action.Create l g w)) (y : Source l j action.Start) → AtNodes x s (CreatesAt x s) (At h i) (At l j)
  creates_with m n h i l j a b g w u y =
      let d = step_of u.number i u.node u.part (action.Create l g w) u.running u.acts in
      let d2 = step_of y.number j y.node y.part action.Start y.running y.acts in
      let made = create_made f.parts v d.step.act l g w d.makes in
      let start = start_made f.parts v d2.step.act d2.makes in
      let c = child u.number d.place made.instance u.part d.step made.handle made.arg u.running d.node.there d.made made.is in
      let same : made.instance ≡ y.number = apart made.instance y.number c.part y.part c.running y.running (c.same ∙ (made.same ∙ sym y.handle)) in
      let creating = event_by_step u.number u.node u.part d.place d.step in
      let starting = event_by_step y.number y.node y.part d2.place d2.step in
      let at = event_there f words u.number d.place u.node u.part d.step d.node in
      let at2 = event_there f words y.number d2.place y.node y.part d2.step d2.node in (
        u.node,
        y.node,
        subst (λ (z : ℕ). IsEvent x s u.node (At z i)) u.handle (makes_at u.number i u.node u.part (action.Create l g w) u.running u.acts).is_event,
        subst (λ (z : ℕ). IsEvent x s y.node (At z j)) y.handle (makes_at y.number j y.node y.part action.Start y.running y.acts).is_event,
        (
          record {
            creating = creating;
            starting = starting;
            creates = to_x u.node creating at;
            starts = to_x y.node starting at2;
            same_instance = ap (λ (z : SsaAct). unwrap_or (kind_of z) kind.Full) made.is ∙ ap kind.Create same;
            is_start = ap (λ (z : SsaAct). unwrap_or (kind_of z) kind.Full) start;
          },
          happens_is s x.map.graph.events u.node creating (to_x u.node creating at) ∙ (guard_made flat f words s k u.number d.place u.part d.step u.running.there d.node.there ∙ d.made),
        ),
      )

  creates_field : (a b : Event) → Creates e a b → AtNodes x s (CreatesAt x s) a b
  creates_field Initial b c = absurd (none-some (action.Create c.handle c.function c.arg) c.is_create)
  creates_field (At h i) Initial c = absurd c.of_handle
  creates_field (At h i) (At l j) c =
      let here : action_at e (At h i) ≡ Some (action.Create l c.function c.arg) = c.is_create ∙ ap (λ (z : ℕ). Some (action.Create z c.function c.arg)) (sym c.of_handle) in
      creates_with 0 0 h i l j (At h i) (At l j) c.function c.arg (source h i (action.Create l c.function c.arg) here) (source l j action.Start c.is_start)

  back_with : (m n : ℕ) (c : IsCreation es m n) (a : Known m c.creating) (b : Known n c.starting) → CreatesBefore es m n c → AtEvents x s (Creates e) m n
  back_with m n c a b o =
      let d = step_of c.creating.instance a.index m a.part a.act a.running a.acts in
      let d2 = step_of c.starting.instance b.index n b.part b.act b.running b.acts in
      let is = one_event es m c.creating (event_by_step c.creating.instance m a.part d.place d.step) c.creates (event_there f words c.creating.instance d.place m a.part d.step d.node) in
      let is2 = one_event es n c.starting (event_by_step c.starting.instance n b.part d2.place d2.step) c.starts (event_there f words c.starting.instance d2.place n b.part d2.step d2.node) in
      let made = create_act d.step.act c.starting.instance (sym (ap (λ (z : StaticEvent). z.kind) is) ∙ c.same_instance) in
      let start = start_act d2.step.act (sym (ap (λ (z : StaticEvent). z.kind) is2) ∙ c.is_start) in
      let ch = child c.creating.instance d.place c.starting.instance a.part d.step made.handle made.arg a.running d.node.there d.made made.is in
      let same = one_answer (slice_get f.parts c.starting.instance) ch.part b.part ch.running.there b.running.there in
      let function = function_in (slice_get f.parts c.starting.instance) in
      let act_is : a.act ≡ action.Create (v made.handle) function (v made.arg) = only (action.Create (v made.handle) function (v made.arg)) a.act (sym (ap (action_by f.parts v) made.is) ∙ d.makes) in
      let start_is : b.act ≡ action.Start = only action.Start b.act (sym (ap (action_by f.parts v) start) ∙ d2.makes) in (
        At (v a.part.handle) a.index,
        At (v b.part.handle) b.index,
        (makes_at c.creating.instance a.index m a.part a.act a.running a.acts).is_event,
        (makes_at c.starting.instance b.index n b.part b.act b.running b.acts).is_event,
        record {
          handle = v made.handle;
          function = function;
          arg = v made.arg;
          is_create = there_is c.creating.instance a.index m a.part a.act a.running a.acts ∙ ap Some act_is;
          is_start = there_is c.starting.instance b.index n b.part b.act b.running b.acts ∙ ap Some start_is;
          of_handle = ap (λ (z : SsaPart). v z.handle) (sym same) ∙ ch.same;
        },
      )

  back_field : (m n : ℕ) → CreatesAt x s m n → AtEvents x s (Creates e) m n
  back_field m n c =
      let r : IsCreation es m n = subst (λ (z : List StaticEvent). IsCreation z m n) events c.0 in
      let o = creation_at flat f words s k m n r in
      let now : value s r.creating.guard ≡ true = sym (happens_is s es m r.creating r.creates) ∙ subst (λ (z : List StaticEvent). happens s z m ≡ true) events c.1 in
      let now2 : value s r.starting.guard ≡ true = ap (value s) (sym o.same_guard) ∙ now in
      back_with m n r
      (known m r.creating (record { there = r.creates; acts = kind_acts r.creating.kind (kind.Create r.starting.instance) r.same_instance refl }) now)
      (known n r.starting (record { there = r.starts; acts = kind_acts r.starting.kind kind.Start r.is_start refl }) now2) o

  -- ---- ends

  -- the value that goes with an End is its thread's handle
  pub end_handle : (n : ℕ) (t : StaticEvent) (a : Event) (b : EventBits) → IsOfThread es n t → value s t.guard ≡ true → t.kind ≡ kind.End → IsEvent x s n a → slice_get x.map.graph.bits n ≡ Some b → IsOf (number s b.bits) a
  end_handle n t a b o h is p has =
      let r = known n t o h in
      let d = step_of t.instance r.index n r.part r.act r.running r.acts in
      let same = one_event es n t (event_by_step t.instance n r.part d.place d.step) o.there (event_there f words t.instance d.place n r.part d.step d.node) in
      let end = end_act d.step.act (sym (ap (λ (z : StaticEvent). z.kind) same) ∙ is) in
      let of = (instance_of flat f t.instance r.part k.form r.running.there).is_part in
      let listed = all_at (λ (z : TermId). IsListed f.terms z) (r.part.start ∷ r.part.handle ∷ r.part.arg ∷ []) 1 r.part.handle of.listed refl in
      let bits_are : b ≡ bits_by words r.part.handle =
      one_answer (slice_get x.map.graph.bits n) b (bits_by words r.part.handle) has
      (ap (λ (z : List EventBits). slice_get z n) bits ∙ (bits_there flat f words s k t.instance d.place n r.part d.step d.node ∙ ap (λ (z : SsaAct). Some (bits_by words (value_term r.part.handle z))) end)) in
      let number_is : number s b.bits ≡ v r.part.handle = ap (λ (z : EventBits). number s z.bits) bits_are ∙ word_value flat f words s k r.part.handle listed in
      let event = same_event x s n a (At (v r.part.handle) r.index) p (makes_at t.instance r.index n r.part r.act r.running r.acts).is_event in
      subst (IsOf (number s b.bits)) (sym event) (sym number_is)

  pub matches : MatchesThreads x s e
  matches = record {
    nodes = nodes_field;
    events = events_field;
    once = once_field;
    order = order_field;
    blocks = blocks_field;
    creates = creates_field;
    creates_back = back_field;
  }

  pub threads_match : ThreadsMatch x s e
  threads_match = record { matches = matches; own_ends = λ n t a b at h is p has. end_handle n t a b (record { there = from_x n t at; acts = kind_acts t.kind kind.End is refl }) h is p has }

-- ---- the whole

-- the threads that an assignment of the words' clauses spells match its nodes, and the values of its ends are handles
pub spelled_threads : StartedHandlesAreLow → StartedCreateFew → RunsAreNumbered → EventsAreStatic → ActionsAreNodes → NodesAct → NodesAreInOrder → BlocksAreSections
    → (p : Checked) (m : MemoryModel) (flat : Flat) (x : Encoded) (s : List Bool) (c : Candidate) (rs : List Run) (chain : IsChain p m flat x)
    → AreSatisfied s chain.made.blasted.clauses → c.threads ≡ spelling.threads_of x s → AllZip (RunsTo (thread_run p)) c.threads rs → ThreadsMatch x s (execution_of c rs)
spelled_threads lows few numbered static nodes act order sections p m flat x s c rs chain h same whole =
    let made = chain.made in
    let f = made.form in
    let words = made.words in
    let k = spelled m flat x s made h in
    let inputs = inputs_under s words in
    let fits = words_fit flat f words s k in
    let rise = λ (i j : ℕ) (a b : SsaPart) (ra : IsRunning f (under inputs f) i a) (rb : IsRunning f (under inputs f) j b) (l : i < j). handles_rise lows few numbered p flat f inputs i j a b chain.checked chain.unrolled made.is_form fits ra rb l in
    let threads = same ∙ threads_are m flat x s made in
    let runs = subst (λ (l : List ThreadPart). AllZip (RunsTo (thread_run p)) l rs) threads whole in
    threads_match flat f words s k x made.events made.bits (execution_of c rs)
    (λ j q n t a b d. runs_where_made p flat f inputs chain.checked chain.unrolled made.is_form fits j q n t a b d)
    (distinct p flat f words s k chain.checked chain.unrolled lows rise)
    (λ j q r. ap (λ (l : List ThreadPart). execution.actions_of (failing_threads l rs) (under inputs f q.handle)) threads ∙ does p flat f words s k chain.checked chain.unrolled lows rise j q r rs runs)
    (λ hd n a g.
    let q = finds p flat f words s k chain.checked chain.unrolled lows rise hd rs n a runs
    (ap (λ (l : List ThreadPart). slice_get (execution.actions_of (failing_threads l rs) hd) n) (sym threads) ∙ g) in
    (q.number, q.part, q.running, q.handle))
    nodes act order sections (static flat f words made.is_form)

pub spelled_threads_match : StartedHandlesAreLow → StartedCreateFew → RunsAreNumbered → EventsAreStatic → ActionsAreNodes → NodesAct → NodesAreInOrder → BlocksAreSections → SpelledThreadsMatch
spelled_threads_match lows few numbered static nodes act order sections p m flat x s c rs chain h same whole =
    (spelled_threads lows few numbered static nodes act order sections p m flat x s c rs chain h same whole).matches
