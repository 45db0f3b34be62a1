-- The actions of a run are the nodes that happen, in their order.
use Rattle.std.proofs.Common.{◌≡◌, ℕ, zero, suc, ◌+◌, ◌-◌, ◌<◌, inl, inr, Bool, true, false, List, [], ◌∷◌, ◌++◌, length, map, Option, Some, None, refl, ap, sym, ◌∙◌, subst, arith}
use Rattle.std.specs.Prelude.{slice_get, unwrap_or, not, ◌&&◌, nat_eq}
use Rattle.std.proofs.lemmas.Bool.{eq-eqb}
use Rattle.std.proofs.lemmas.Bool.Decides.{eqb_tells}
use Rattle.std.proofs.lemmas.Option.{none-some, same_Some}
use Rattle.dg_base.specs.declared.Lit.{Lit}
use Rattle.dg_base.specs.Values.{truth_of}
use Rattle.dg_base.proofs.Lists.{one_answer, get_append_right, get_map}
use Rattle.axiom_model.specs.declared.Action.{Action}
use Rattle.cnf_problem.specs.Literals.{value}
use Rattle.flat_prog.specs.declared.Flat.{Flat}
use Rattle.ssa_form.specs.declared.Ssa.{Ssa}
use Rattle.ssa_form.specs.declared.SsaPart.{SsaPart}
use Rattle.ssa_form.specs.declared.SsaStep.{SsaStep}
use Rattle.ssa_form.specs.declared.SsaAct.{SsaAct}
use Rattle.ssa_form.specs.declared.SsaAct.TheVariants as act
use Rattle.ssa_form.specs.Parts.{Valuation, is_made, mark_of, action_by, actions_of}
use Rattle.memory_models.specs.declared.StaticEvent.{StaticEvent}
use Rattle.memory_models.specs.declared.StaticKind.{StaticKind}
use Rattle.memory_models.specs.declared.StaticKind.TheVariants as kind
use Rattle.memory_models.specs.Events.{IsOfThread}
use Rattle.event_graph.specs.Graphs.{Acting, kind_of, acting, acting_by, acting_in, acting_in_all, next_behind, section_behind, guard_lit, event_of, events_of, initial_events}
use Rattle.event_graph.specs.Laws.{count_before, is_initial, happens_in, earlier, IsSpelled, spelled_values, ActsAt, Acts, ActionsAreNodes, NodesAct, NodesAreInOrder}
use Rattle.event_graph.proofs.Counting.{count_all, count_past, count_front, count_nothing, count_most, count_behind, place_less}
use Rattle.event_graph.proofs.Opening.{acts, is_acting, acting_before}
use Rattle.event_graph.proofs.Acting.{acting_at, acting_source, acting_of, first_in, first_least, length_acting}
use Rattle.event_graph.proofs.Origins.{first_of, section_at, NodeOf, node_of, acting_node, origin, length_initials, initial_at, thread_acted}
use Rattle.event_graph.proofs.Making.{made_acting, makes_one, action_there, action_maker}
use Rattle.event_graph.proofs.Spelled.{guard_made}

-- ---- counts of events that happen

loud_kind : (a : SsaAct) → is_initial (unwrap_or (kind_of a) kind.Full) ≡ false
loud_kind (act.Read c t) = refl
loud_kind _ = refl

count_map : {X Y : Type 0} (p : Y → Bool) (g : X → Y) (n : ℕ) (xs : List X) → count_before p n (map g xs) ≡ count_before (λ x. p (g x)) n xs
count_map p g zero xs = refl
count_map p g (suc n) [] = refl
count_map p g (suc n) (x ∷ xs) = ap (λ m. truth_of (p (g x)) + m) (count_map p g n xs)

and_none : (b : Bool) → truth_of (b && false) ≡ 0
and_none true = refl
and_none false = refl

and_all : (b : Bool) → truth_of (b && true) ≡ truth_of b
and_all true = refl
and_all false = refl

module _ (words : List (List Lit)) (s : List Bool) (i : ℕ) where
  -- an action is of this instance, and happens
  abbrev pub acting_happens : Acting → Bool
  acting_happens a = happens_in s i (event_of words a)

  pub own_happens : (a : Acting) → a.instance ≡ i → acting_happens a ≡ value s (guard_lit words a.step.guard)
  own_happens a e =
      let first = loud_kind a.step.act in
      let second = eq-eqb a.instance i e in
      ap (λ b. (not b && nat_eq a.instance i) && value s (guard_lit words a.step.guard)) first ∙ ap (λ b. b && value s (guard_lit words a.step.guard)) second

  other_happens : (a : Acting) → ¬ (a.instance ≡ i) → acting_happens a ≡ false
  other_happens a n =
      let first = loud_kind a.step.act in
      elim (eqb_tells a.instance i) [
        | inl r ↦ absurd (n r.1)
        | inr r ↦ ap (λ b. (not b && nat_eq a.instance i) && value s (guard_lit words a.step.guard)) first ∙ ap (λ b. b && value s (guard_lit words a.step.guard)) r.0
      ]

  none_of_others : (m n : ℕ) (ss : List SsaStep) → ¬ (m ≡ i) → count_all acting_happens (acting_in m n None ss) ≡ 0
  none_of_others m n ss other =
      count_nothing acting_happens (acting_in m n None ss)
      (λ k a e. let o = acting_source m n ss k a e in other_happens a (λ g. other (sym (ap (λ (z : Acting). z.instance) o.same) ∙ g)))

  part_step : (n : ℕ) (section : Option ℕ) (t : SsaStep) (o : Option StaticKind) (rest : List Acting) (c : ℕ) (b : Bool) → acting_happens (acting_at i t section n) ≡ b
      → count_before acting_happens (truth_of (acts o) + c) (acting_by i n section t o ++ rest) ≡ truth_of (b && acts o) + count_before acting_happens c rest
  part_step n section t None rest c b e =
      let same : 0 + c ≡ c = omega arith in
      let r = ap (λ z. count_before acting_happens z rest) same in
      let none = and_none b in
      omega (arith, r, none)
  part_step n section t (Some k) rest c b e =
      let same : 1 + c ≡ suc c = omega arith in
      let r = ap (λ z. count_before acting_happens z (acting_at i t section n ∷ rest)) same in
      let one = ap truth_of e in
      let all = and_all b in
      omega (arith, r, one, all)

  module _ (v : Valuation) where
    -- the literals of guards are true where the steps are made
    abbrev pub Tells : List SsaStep → Type 0
    Tells ss = (l : ℕ) (t : SsaStep) → slice_get ss l ≡ Some t → value s (guard_lit words t.guard) ≡ is_made v t

    in_part : (n : ℕ) (section : Option ℕ) (ss : List SsaStep) (j : ℕ) → Tells ss → count_before acting_happens (acting_before j ss) (acting_in i n section ss) ≡ count_before (made_acting v) j ss
    in_part n section ss zero g = refl
    in_part n section [] (suc j) g = refl
    in_part n section (t ∷ ss) (suc j) g =
        let o = kind_of t.act in
        let tells : acting_happens (acting_at i t section n) ≡ is_made v t = own_happens (acting_at i t section n) refl ∙ g 0 t refl in
        part_step n section t o (acting_in i (next_behind n o) (section_behind n section (mark_of t.act)) ss) (acting_before j ss) (is_made v t) tells
        ∙ ap (λ m. truth_of (made_acting v t) + m) (in_part (next_behind n o) (section_behind n section (mark_of t.act)) ss j (λ l u e. g (suc l) u e))

    in_parts : (ps : List SsaPart) (q j first n l : ℕ) (p : SsaPart) → slice_get ps q ≡ Some p → Tells p.steps → i ≡ first + q → n + l ≡ first_in n q ps + acting_before j p.steps
        → count_before acting_happens l (acting_in_all first n ps) ≡ count_before (made_acting v) j p.steps
    in_parts [] q j first n l p e g at sum = absurd (none-some p e)
    in_parts (t ∷ ps) zero j first n l p e g at sum =
        let same = same_Some t p e in
        let here : first ≡ i = omega (arith, at) in
        let count : acting_before j p.steps ≡ l = omega (arith, sum) in
        let long = length_acting first n None t.steps in
        let most = count_most is_acting j p.steps in
        let whole = ap acting_of same in
        let rest = acting_in_all (first + 1) (n + length (acting_in first n None t.steps)) ps in
        count_front acting_happens (acting_in first n None t.steps) rest l (omega (arith, count, long, most, whole))
        ∙ ap (λ z. count_before acting_happens l (acting_in z n None t.steps)) here
        ∙ ap (λ (z : SsaPart). count_before acting_happens l (acting_in i n None z.steps)) same
        ∙ ap (λ z. count_before acting_happens z (acting_in i n None p.steps)) (sym count)
        ∙ in_part n None p.steps j g
    in_parts (t ∷ ps) (suc q) j first n l p e g at sum =
        let long = length_acting first n None t.steps in
        let low = first_least (n + acting_of t) q ps in
        let rest : ℕ = l - acting_of t in
        let split : l ≡ length (acting_in first n None t.steps) + rest = omega (arith, long, low, sum) in
        let base : n + length (acting_in first n None t.steps) ≡ n + acting_of t = ap (λ z. n + z) long in
        let none = none_of_others first n t.steps (λ f. omega (arith, f, at)) in
        let past = count_past acting_happens (acting_in first n None t.steps) (acting_in_all (first + 1) (n + length (acting_in first n None t.steps)) ps) l rest split in
        let moved = ap (λ z. count_before acting_happens rest (acting_in_all (first + 1) z ps)) base in
        let again = in_parts ps q j (first + 1) (n + acting_of t) rest p e g (omega (arith, at)) (omega (arith, low, sum)) in
        omega (arith, none, past, moved, again)

    -- the events before a node that are of its instance and happen are the actions that steps before make
    pub earlier_made : (x : Ssa) (j n : ℕ) (p : SsaPart) (t : SsaStep) → NodeOf x i j n p t → Tells p.steps → earlier s i n (events_of x words) ≡ count_before (made_acting v) j p.steps
    earlier_made x j n p t h g =
        let a = acting_node x i j n p t h in
        let long = length_initials 0 x.initials in
        let at = a.1 in
        let count = h.count in
        let split : n ≡ length (initial_events 0 x.initials) + a.0 = omega (arith, long, at) in
        let none = count_nothing (happens_in s i) (initial_events 0 x.initials) (λ k e there. ap (happens_in s i) (initial_at 0 k x.initials e there)) in
        let past = count_past (happens_in s i) (initial_events 0 x.initials) (map (event_of words) (acting x)) n a.0 split in
        let mapped = count_map (happens_in s i) (event_of words) a.0 (acting x) in
        let same : i ≡ 0 + i = omega arith in
        let made = in_parts x.parts i j 0 (length x.initials) a.0 p h.part g same (omega (arith, at, count)) in
        omega (arith, none, past, mapped, made)

-- ---- actions and nodes

-- the step of an action at a node
pub record Done (x : Ssa) (words : List (List Lit)) (s : List Bool) (v : Valuation) (i k n : ℕ) (p : SsaPart) (a : Action) : Type 0 where
  pub place : ℕ
  pub step : SsaStep
  pub node : NodeOf x i place n p step
  pub made : is_made v step ≡ true
  pub makes : action_by x.parts v step.act ≡ a ∷ []
  pub count : count_before (made_acting v) place p.steps ≡ k

module _ (f : Flat) (x : Ssa) (words : List (List Lit)) (s : List Bool) (h : IsSpelled f x words s) where
  abbrev v : Valuation
  v = spelled_values x words s

  tells : (i : ℕ) (p : SsaPart) → slice_get x.parts i ≡ Some p → Tells words s i v p.steps
  tells i p part l t there = guard_made f x words s h i l p t part there

  pub acts_at : (i j n : ℕ) (p : SsaPart) (t : SsaStep) (a : Action) → NodeOf x i j n p t → is_made v t ≡ true → action_by x.parts v t.act ≡ a ∷ [] → ActsAt x words s i (count_before (made_acting v) j p.steps) n a
  acts_at i j n p t a g made makes =
      let there = acting_node x i j n p t g in
      record {
        place = there.0;
        act = acting_at i t (section_at x i j p) n;
        there = there.2;
        node = there.1;
        of_part = refl;
        happens = guard_made f x words s h i j p t g.part g.there ∙ made;
        index = earlier_made words s i v x j n p t g (tells i p g.part);
        makes = makes;
      }

  pub done_at : (i k n : ℕ) (p : SsaPart) (a : Action) → slice_get x.parts i ≡ Some p → ActsAt x words s i k n a → Done x words s v i k n p a
  done_at i k n p a part r =
      let o = origin x r.place r.act r.there in
      let instance : o.instance ≡ i = sym (ap (λ (z : Acting). z.instance) o.same) ∙ r.of_part in
      let here : slice_get x.parts i ≡ Some o.part = ap (λ z. slice_get x.parts z) (sym instance) ∙ o.node.part in
      let one : o.part ≡ p = one_answer (slice_get x.parts i) o.part p here part in
      let step : r.act.step ≡ o.step = ap (λ (z : Acting). z.step) o.same in
      let node : NodeOf x i o.step_place n p o.step =
      subst (λ m. NodeOf x i o.step_place m p o.step) (sym r.node) (subst (λ z. NodeOf x i o.step_place (length x.initials + r.place) z o.step) one (subst (λ z. NodeOf x z o.step_place (length x.initials + r.place) o.part o.step) instance o.node)) in
      record {
        place = o.step_place;
        step = o.step;
        node = node;
        made = sym (guard_made f x words s h i o.step_place p o.step part node.there) ∙ ap (λ (z : SsaStep). value s (guard_lit words z.guard)) (sym step) ∙ r.happens;
        makes = ap (λ (z : SsaStep). action_by x.parts v z.act) (sym step) ∙ r.makes;
        count = sym (earlier_made words s i v x o.step_place n p o.step node (tells i p part)) ∙ r.index;
      }

  to_node : (i k : ℕ) (p : SsaPart) (a : Action) → slice_get x.parts i ≡ Some p → slice_get (actions_of x.parts v p) k ≡ Some a → (n : ℕ) × ActsAt x words s i k n a
  to_node i k p a part e =
      let m = action_maker x.parts v p.steps k a e in
      let node = node_of x i m.place p m.step part m.there m.acts in
      (first_of x i + acting_before m.place p.steps, subst (λ z. ActsAt x words s i z (first_of x i + acting_before m.place p.steps) a) m.count (acts_at i m.place (first_of x i + acting_before m.place p.steps) p m.step a node m.made m.makes))

  pub from_node : (i k n : ℕ) (p : SsaPart) (a : Action) → slice_get x.parts i ≡ Some p → ActsAt x words s i k n a → slice_get (actions_of x.parts v p) k ≡ Some a
  from_node i k n p a part r =
      let d = done_at i k n p a part r in
      action_there x.parts v p.steps d.place k d.step a d.node.there d.made d.makes d.count

  node_acts : (n : ℕ) (e : StaticEvent) → IsOfThread (events_of x words) n e → value s e.guard ≡ true → Acts x words s e.instance n
  node_acts n e at holds =
      let r = thread_acted x words n e at in
      let i = r.0 in
      let p = r.1 in
      let g = r.2 in
      let made : is_made v g.step ≡ true = sym (guard_made f x words s h i g.place p g.step g.node.part g.node.there) ∙ ap (λ (z : StaticEvent). value s z.guard) (sym g.same) ∙ holds in
      let a = makes_one x.parts v g.step g.node.acts in
      let done : Acts x words s i n =
      record { part = p; there = g.node.part; place = count_before (made_acting v) g.place p.steps; action = a.0; acts = acts_at i g.place n p g.step a.0 g.node made a.1 } in
      let instance : i ≡ e.instance = sym (ap (λ (z : StaticEvent). z.instance) g.same) in
      subst (λ z. Acts x words s z n) instance done

pub actions_nodes : ActionsAreNodes
actions_nodes f x words s i k p a h part = (to_node f x words s h i k p a part, λ r. from_node f x words s h i k r.0 p a part r.1)

pub nodes_act : NodesAct
nodes_act f x words s n e h at holds = node_acts f x words s h n e at holds

-- ---- order

module _ (x : Ssa) (words : List (List Lit)) (s : List Bool) (i : ℕ) where
  counted : (j m : ℕ) (a : Action) (r : ActsAt x words s i j m a) → (slice_get (events_of x words) m ≡ Some (event_of words r.act)) × (happens_in s i (event_of words r.act) ≡ true)
  counted j m a r =
      let long = length_initials 0 x.initials in
      let node = r.node in (
        get_append_right (initial_events 0 x.initials) (map (event_of words) (acting x)) m r.place (omega (arith, long, node)) ∙ get_map (event_of words) (acting x) r.place r.act r.there,
        own_happens words s i r.act r.of_part ∙ r.happens,
      )

  pub later_node : (j k m n : ℕ) (a b : Action) → ActsAt x words s i j m a → ActsAt x words s i k n b → j < k → m < n
  later_node j k m n a b r t less = let c = r.index in let d = t.index in place_less (happens_in s i) m n (events_of x words) (omega (arith, c, d, less))

  pub later_action : (j k m n : ℕ) (a b : Action) → ActsAt x words s i j m a → ActsAt x words s i k n b → m < n → j < k
  later_action j k m n a b r t less =
      let q = counted j m a r in
      let more = count_behind (happens_in s i) m n (events_of x words) (event_of words r.act) q.0 q.1 less in
      let c = r.index in let d = t.index in omega (arith, c, d, more)

pub nodes_in_order : NodesAreInOrder
nodes_in_order x words s i j k m n a b r t = (later_node x words s i j k m n a b r t, later_action x words s i j k m n a b r t)
